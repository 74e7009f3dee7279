-- One part is taken, and the others are those that follow.
use Rattle.std.proofs.Common.{◌≡◌, ◌≤◌, ◌<◌, ◌+◌, ◌∙◌, sym, ap, ℕ, List, drop, get_or, cond, Option, Some, None, length}
use Rattle.std.specs.Borrow.{Bor}
use Rattle.std.specs.Option.{option_and_then}
use Rattle.std.proofs.lemmas.List.{at_drop_more, at_drop_all}
use Rattle.text_parts.specs.Cuts.{now_all}
use Rattle.mk_paths.specs.FileName.{kept_parts, with_part}
use Rattle.mk_paths.proofs.file_name.kept_of.Goals as goal

-- the parts from a place on, the next one taken
next_taken : (kept : List (List ℕ)) (parts : List (Bor (List ℕ))) (i : ℕ) (d : Bor (List ℕ)) (next : Option (List (List ℕ)))
    → i < length parts → with_part kept (get_or parts i d).now ≡ next
    → kept_parts kept (now_all (drop i parts)) ≡ option_and_then (λ more. kept_parts more (now_all (drop (i + 1) parts))) next
unfolding kept_parts
next_taken kept parts i d next inside taken =
    at_drop_more (λ rest. kept_parts kept (now_all rest)) parts i d inside
    ∙ ap (option_and_then (λ more. kept_parts more (now_all (drop (i + 1) parts)))) taken

-- no part is left
none_left : (kept : List (List ℕ)) (parts : List (Bor (List ℕ))) (i : ℕ) → length parts ≤ i
    → kept_parts kept (now_all (drop i parts)) ≡ Some kept
unfolding kept_parts
none_left kept parts i past = at_drop_all (λ rest. kept_parts kept (now_all rest)) parts i past

pub returns-then-not-placed : goal.returns-then-not-placed
returns-then-not-placed c =
    sym (next_taken (now_all c.loop-part.kept.items) c.args.parts.now c.loop-part.part-index _ None c.loop-part-test.true
    (c.in_ok-placed.ensures ∙ ap (λ b. cond b (Some (now_all c.take_part.new.kept.items)) None) c.if-not-placed.true))
    ∙ c.loop-part.invariant

pub loop-part-preserved : goal.loop-part-preserved
loop-part-preserved c =
    sym (next_taken (now_all c.loop-part.kept.items) c.args.parts.now c.loop-part.part-index _ (Some (now_all c.take_part.new.kept.items))
    c.loop-part-test.true (c.in_ok-placed.ensures
    ∙ ap (λ b. cond b (Some (now_all c.take_part.new.kept.items)) None) c.if-not-placed.false))
    ∙ c.loop-part.invariant

pub returns : goal.returns
returns c = sym (none_left (now_all c.loop-part.kept.items) c.args.parts.now c.loop-part.part-index c.loop-part-test.false)
    ∙ c.loop-part.invariant
