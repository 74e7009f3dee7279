-- One item more is looked at.
use Rattle.std.proofs.Common.{◌∙◌, ◌++◌, ap, map, string_bytes, take_all}
use Rattle.std.specs.List.{filter, filter_map}
use Rattle.std.specs.Option.{option_to_list}
use Rattle.general_facts.specs.Lists as general
use Rattle.port_deps.specs.ItemText.{has_comma}
use Rattle.port_index.specs.Dependencies.{target_by}
use Rattle.port_index.specs.Flavored.{flavored_target}
use Rattle.port_index.proofs.FlavoredLemmas.{filter-targets}
use Rattle.port_index.proofs.flavored_paths.flavored_targets.Goals as goal

pub loop-depend-preserved : goal.loop-depend-preserved
loop-depend-preserved c =
    let depends = c.depends_of-depend-items.result.now in
    let place = c.loop-depend.depend-index in
    let before = map string_bytes c.loop-depend.found.items in
    general.filter_map-more flavored_target depends place c.depend-item.result before
    (map string_bytes c.add_found.new.paths.items) c.loop-depend-test.true
    c.loop-depend.invariant
    (c.in_ok-add_found.ensures ∙ ap (λ o. before ++ option_to_list o) (c.in_ok-flavored_target.ensures
    ∙ ap flavored_target c.depend-item.is))

pub returns : goal.returns
returns c =
    let depends = c.depends_of-depend-items.result.now in
    c.loop-depend.invariant ∙ ap (filter_map flavored_target) (take_all c.loop-depend.depend-index depends c.loop-depend-test.false)
    ∙ filter-targets target_by depends ∙ ap (filter has_comma) c.depends_of-depend-items.ensures
