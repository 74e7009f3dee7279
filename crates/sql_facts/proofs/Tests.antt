-- What tests of a column against a parameter say.
use Rattle.std.proofs.Common.{◌≡◌, ℕ, pos, Bool, true, false, ◌&&◌, List, Some, is_eq, refl, ap, ◌∙◌, arith}
use Rattle.std.specs.Prelude.{◌==◌}
use Rattle.std.specs.Ordering.{nat_cmp}
use Rattle.std.specs.Cmp.{eq_by_cmp_equiv}
use Rattle.std.specs.Cmp.Lexicographic.{slice_cmp, nat_list_cmp_total}
use Rattle.std.proofs.lemmas.Bool.Decides.{nat_tests}
use Rattle.std.proofs.lemmas.Int.{ints}
use Rattle.sqlite_value.specs.declared.value.Value.TheVariants.{Int, Text}
use Rattle.sqlite_value.specs.declared.keys.Collation.TheVariants.{Binary}
use Rattle.sqlite_value.proofs.OrderLemmas.{value_cmp-Int, value_cmp-Text}
use Rattle.sqlite_sql.specs.declared.ops.BinaryOp.TheVariants.{Compare}
use Rattle.sqlite_sql.specs.declared.ops.CompareOp.TheVariants.{Eq}
use Rattle.sqlite_sql.specs.Ops.{binary, is_true, from_truth}
use Rattle.sqlite_sql.specs.Term.{Term, col, op2}

-- a column of the row equals a parameter
abbrev pub equals : ℕ → ℕ → Term
equals place parameter = op2 (Compare Eq Binary) (col 1 place) (col 0 parameter)

truth_of : (b : Bool) → is_true (from_truth (Some b)) ≡ b
truth_of true = refl
truth_of false = refl

pub same_number : (a b : ℕ) → is_true (binary (Compare Eq Binary) (Int (pos a)) (Int (pos b))) ≡ (a == b)
unfolding binary
same_number a b = truth_of _ ∙ ap is_eq (value_cmp-Int (pos a) (pos b)) ∙ grind (arith, ints, nat_tests)

pub same_text : (a b : List ℕ) → is_true (binary (Compare Eq Binary) (Text a) (Text b)) ≡ is_eq (slice_cmp nat_cmp b a)
unfolding binary
same_text a b = truth_of _ ∙ ap is_eq (value_cmp-Text a b) ∙ (eq_by_cmp_equiv nat_list_cmp_total).symm a b

-- a test alone
pub alone : (a : Bool) → (a && true) ≡ a
alone true = refl
alone false = refl
