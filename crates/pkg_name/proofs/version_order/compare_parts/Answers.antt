-- The parts that were compared tie, and one text has no part after them.
use Rattle.std.proofs.Common.{[], sym, ◌∙◌}
use Rattle.pkg_name.specs.Order.{part_key, part_keys}
use Rattle.pkg_name.proofs.PartCuts.{none_before, some_after, tied_first, tie_from}
use Rattle.pkg_name.proofs.version_order.compare_parts.Goals as goal

pub returns-in-None-Some : goal.returns-in-None-Some
returns-in-None-Some c =
    let mine = rw c.in-None-Some.is-0 at c.first_part.ensures.parts in
    let theirs = rw c.in-None-Some.is-1 at c.first_part-in-loop-behind.ensures.parts in
    let tie = tie_from c.compare_part-ordering.result (sym c.ne.ensures ∙ c.if-ne.false) in
    let behind = part_keys c.in-None-Some.field-0-1.now in
    sym (c.loop-behind.invariant.2
    ∙ tied_first (part_keys c.loop-behind.text.now) (part_keys c.loop-behind.other.now) (part_key c.first_part.result.0.now)
    (part_key c.first_part-in-loop-behind.result.0.now)
    [] behind mine theirs (sym c.compare_part-ordering.ensures ∙ tie)
    ∙ none_before c.in-None-Some.field-0-1.now)

pub returns-in-Some-None : goal.returns-in-Some-None
returns-in-Some-None c =
    let mine = rw c.in-Some-None.is-0 at c.first_part.ensures.parts in
    let theirs = rw c.in-Some-None.is-1 at c.first_part-in-loop-behind.ensures.parts in
    let tie = tie_from c.compare_part-ordering.result (sym c.ne.ensures ∙ c.if-ne.false) in
    let behind = part_keys c.in-Some-None.field-0-0.now in
    sym (c.loop-behind.invariant.2
    ∙ tied_first (part_keys c.loop-behind.text.now) (part_keys c.loop-behind.other.now) (part_key c.first_part.result.0.now)
    (part_key c.first_part-in-loop-behind.result.0.now)
    behind [] mine theirs (sym c.compare_part-ordering.ensures ∙ tie)
    ∙ some_after c.in-Some-None.field-0-0.now)
