-- What is spent to answer a question over a world, if some evaluations and rows may be kept already.
use Rattle.std.specs.Prelude.{◌≡◌, ◌≤◌, Bool, true, false, length}
use Rattle.mk_paths.specs.World.{World}
use Rattle.turn_amounts.specs.declared.spent.Spent.{Spent}
use Rattle.turn_amounts.specs.Spent.{no_spending}
use Rattle.port_index.specs.Spent.{ChecksFew, SpendsOn}
use Rattle.plain_service.specs.declared.questions.Question.{Question}
use Rattle.plain_service.specs.declared.questions.Question.TheVariants.{Settled, OfFile, OfPort, OfIndex}
use Rattle.plain_service.specs.AnswerCosts.{path_asked, pair_of, rests_for, port_cost_at, cost_for}

-- No more units are spent than the answer to a question costs, and few answers are checked for each makefile on which
-- it rests.
pub record StaysWithin (world : World) (question : Question) (spent : Spent) : Type 0 where
  pub units : spent.units ≤ cost_for world question
  pub checks : ChecksFew (length (rests_for world question)) spent.checks

-- What is spent to answer a question, however much is kept. A question about a port takes all that it costs, or that
-- less the evaluation of the makefile if some answer was checked. One about the index takes at most what it costs, since
-- rows may be kept.
abbrev pub SpendsFor : World → Question → Spent → Type 0
SpendsFor world (Settled prepared) spent = spent ≡ no_spending
SpendsFor world (OfFile asked) spent = spent ≡ no_spending
SpendsFor world (OfPort asked) spent = SpendsOn world (port_cost_at world asked) (pair_of world (path_asked asked)) spent
SpendsFor world (OfIndex asked) spent = StaysWithin world (OfIndex asked) spent

-- what is spent for a question stays within what its answer costs
abbrev pub StayWithin : Type 0
StayWithin =
    (world : World) (question : Question) (spent : Spent) → SpendsFor world question spent → StaysWithin world question spent

-- the index is asked, and not one makefile at most
abbrev pub is_of_index : Question → Bool
is_of_index (Settled prepared) = false
is_of_index (OfFile asked) = false
is_of_index (OfPort asked) = false
is_of_index (OfIndex asked) = true

-- exactly these units, if one makefile at most is asked and no answer is checked
abbrev pub TakeAllUnchecked : Type 0
TakeAllUnchecked =
    (world : World) (question : Question) (spent : Spent) → is_of_index question ≡ false → spent.checks ≡ 0
    → SpendsFor world question spent → spent.units ≡ cost_for world question
