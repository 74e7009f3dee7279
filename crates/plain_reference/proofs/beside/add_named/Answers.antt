-- One item more is looked at.
use Rattle.std.proofs.Common.{◌≡◌, ◌∙◌, ◌++◌, ap, append_assoc, refl, sym, map, string_bytes, take}
use Rattle.std.specs.List.{filter_map}
use Rattle.std.specs.Option.{option_to_list}
use Rattle.general_facts.specs.Lists as general
use Rattle.port_index.specs.Dependencies.{target_by}
use Rattle.plain_reference.proofs.beside.add_named.Goals as goal

pub loop-depend-preserved : goal.loop-depend-preserved
loop-depend-preserved c =
    let depends = c.args.depends.now in
    let place = c.loop-depend.depend-index in
    let item = c.depend-item.result in
    let start = map string_bytes c.args.paths.now.items in
    let passed = filter_map target_by (take place depends) in
    c.in_ok-add_target.ensures ∙ ap (λ before. before ++ option_to_list (target_by item)) c.loop-depend.invariant
    ∙ append_assoc start passed (option_to_list (target_by item))
    ∙ ap (λ more. start ++ more)
    (general.filter_map-more target_by depends place item passed (passed ++ option_to_list (target_by item)) c.loop-depend-test.true refl
    (ap (λ one. passed ++ option_to_list (target_by one)) c.depend-item.is))
