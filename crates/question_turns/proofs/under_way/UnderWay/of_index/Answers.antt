-- Nothing is spent, and what is left of the index takes no more turns than the whole.
use Rattle.std.proofs.Common.{refl, subst, sym}
use Rattle.question_turns.specs.UnderWay.{IsSpentOnIndex}
use Rattle.question_turns.proofs.SpendingLemmas.{begins}
use Rattle.question_turns.proofs.TurnsLemmas.{begins-few}
use Rattle.question_turns.proofs.under_way.UnderWay.of_index.Goals as goal

pub returns : goal.returns
returns c = λ world refresh none. record {
  asked = refl;
  nothing = c.nothing.ensures;
  pending = subst (IsSpentOnIndex world refresh) (sym c.nothing.ensures) (begins world refresh none);
  turns = begins-few c.makefiles_are_evaluated.ensures world refresh c.args.question none;
}
