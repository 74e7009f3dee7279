-- The text is cut at no place so far.
use Rattle.std.proofs.Common.{◌≡◌, ℕ, Bool, List}
use Rattle.text_parts.specs.Cuts.{cut_where, AnswersAs}
use Rattle.text_parts.proofs.CutSteps.{from_here}
use Rattle.text_parts.proofs.cuts.mark_where.Given as goal

abbrev pub invariant-loop-at : goal.invariant-loop-at
invariant-loop-at g l =
    (test : List ℕ → Bool) → AnswersAs g.F.Fn l.passes test → cut_where l.mark test l.text ≡ from_here l.mark test l.text l.at
