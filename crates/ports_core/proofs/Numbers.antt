-- Numbers that differ.
use Rattle.std.proofs.Common.{◌≡◌, ◌≢◌, ℕ, false, arith}
use Rattle.std.specs.Prelude.{◌==◌}
use Rattle.std.proofs.lemmas.Bool.Decides.{nat_tests}

pub other_number : (a b : ℕ) → a ≢ b → (a == b) ≡ false
other_number a b ne = grind (arith, nat_tests)
