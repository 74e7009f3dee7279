-- The fault of one root more, if it has one.
use Rattle.std.proofs.Common.{◌∙◌, ap, refl, subst, ◌++◌, take, get_or, codes}
use Rattle.std.proofs.lemmas.List.{take_all}
use Rattle.std.specs.List.{filter_map}
use Rattle.std.specs.Option.{option_to_list}
use Rattle.general_facts.specs.Lists.{filter_map-more}
use Rattle.plain_service.specs.ListBodies.{root_fault_body}
use Rattle.plain_service.specs.JsonText.{HasItems}
use Rattle.plain_service.proofs.WritingLemmas.{more_items}
use Rattle.plain_service.proofs.list_bodies.faults.Goals as goal

pub loop-root-preserved : goal.loop-root-preserved
loop-root-preserved c =
    let roots = c.args.roots.now in
    let at = c.loop-root.root-index in
    let root = c.root-item.result in
    let before = filter_map root_fault_body (take at roots) in
    let more = ap (λ root. before ++ option_to_list (root_fault_body root)) c.root-item.is
    ∙ filter_map-more root_fault_body roots at root before (before ++ option_to_list (root_fault_body (get_or roots at root)))
    c.loop-root-test.true refl refl in
    subst (HasItems c.add_fault.new.out (codes "faults")) more (more_items (option_to_list (root_fault_body root)) c.loop-root.invariant
    c.in_ok-add_fault.ensures)

pub returns : goal.returns
returns c =
    let roots = c.args.roots.now in
    c.end_list.ensures (codes "faults") (filter_map root_fault_body roots)
    (subst (λ part. HasItems c.loop-root.out (codes "faults") (filter_map root_fault_body part))
    (take_all c.loop-root.root-index roots c.loop-root-test.false) c.loop-root.invariant)
