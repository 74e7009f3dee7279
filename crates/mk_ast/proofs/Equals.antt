-- The first `=` outside references.
use Rattle.std.proofs.Common.{◌≡◌, ℕ, ◌<◌, nat_eq, List, Some, length, get_or, arith, sym, ◌∙◌, eqb-true}
use Rattle.std.proofs.lemmas.List.Quantifiers.{position-Some}
use Rattle.std.specs.List.{position}
use Rattle.mk_ref.specs.Outside.{outside}
use Rattle.mk_ref.proofs.Covering.{length-outside, outside-at}

-- it is a `=` of the text
pub record IsEquals (text : List ℕ) (at : ℕ) : Type 0 where
  pub within : at < length text
  pub equals : get_or text at 0 ≡ 61

pub first-equals : (text : List ℕ) (at : ℕ) → position (λ b. nat_eq b 61) (outside text) ≡ Some at → IsEquals text at
first-equals text at is =
    let found = position-Some (λ b. nat_eq b 61) (outside text) at 0 is in
    let equals : get_or (outside text) at 0 ≡ 61 = eqb-true (get_or (outside text) at 0) 61 found.1 in
    record {
      within = omega (arith, found.0, length-outside text);
      equals = sym (outside-at text at (λ dollar. omega (arith, dollar, equals))) ∙ equals;
    }
