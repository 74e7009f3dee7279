-- The truth of a condition's tree: from left to right, and only as far as it is needed.
use Rattle.std.specs.Prelude.{Bool, true, false, not, if◌then◌else◌}
use Rattle.mk_base.specs.declared.faults.FaultKind.{FaultKind}
use Rattle.mk_base.specs.Outcome.{Work, give, ◌>>=◌}
use Rattle.mk_text.specs.Words.{span_text}
use Rattle.mk_files.specs.Questions.{Account, quietly}
use Rattle.mk_cond_tree.specs.Trees.{OrTree, OrOf, LaterAnds, NoAnds, MoreAnds, AndTree, AndOf, LaterNots, NoNots}
use Rattle.mk_cond_tree.specs.Trees.{MoreNots, NotTree, Negated, Grouped, Called, Compared, Alone}
use Rattle.mk_cond.specs.Leaves.{Surroundings, call_holds, compared, side_alone}

-- `||` looks at its next operand if none held so far, and `&&` if all did
abbrev mutual
  pub or_truth : Surroundings → OrTree → Work Account FaultKind Bool
  or_truth s (OrOf and more) = and_truth s and >>= later_ands_truth s more

  pub later_ands_truth : Surroundings → LaterAnds → Bool → Work Account FaultKind Bool
  later_ands_truth s NoAnds held = give held
  later_ands_truth s (MoreAnds and more) held = if held then give true else (and_truth s and >>= later_ands_truth s more)

  pub and_truth : Surroundings → AndTree → Work Account FaultKind Bool
  and_truth s (AndOf term more) = not_truth s term >>= later_nots_truth s more

  pub later_nots_truth : Surroundings → LaterNots → Bool → Work Account FaultKind Bool
  later_nots_truth s NoNots held = give held
  later_nots_truth s (MoreNots term more) held = if held then (not_truth s term >>= later_nots_truth s more) else give false

  pub not_truth : Surroundings → NotTree → Work Account FaultKind Bool
  not_truth s (Negated term) = not_truth s term >>= λ held. give (not held)
  not_truth s (Grouped or) = or_truth s or
  not_truth s (Called call argument) = call_holds s call (span_text s.text argument)
  not_truth s (Compared left comparison right) = quietly (compared s.variables s.text left comparison right)
  not_truth s (Alone side) = side_alone s side
