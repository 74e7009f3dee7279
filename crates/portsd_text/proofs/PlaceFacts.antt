-- The first place of a list where a test passes.
use Rattle.std.proofs.Common.{◌≡◌, ℕ, suc, ◌<◌, ◌≤◌, Bool, true, false, cond, List, ◌∷◌, length, nat_lt, refl, arith, Some, None, get_or}
use Rattle.std.proofs.lemmas.List.Sums.{passes_at_first}
use Rattle.std.specs.List.{position, position_or_len}
use Rattle.std.proofs.lemmas.Bool.Decides.{nat_tests}

-- no place passes
pub position-none : (p : ℕ → Bool) (xs : List ℕ) → position p xs ≡ None → length xs ≤ position_or_len p xs
position-none p xs none = by (nat_lt (position_or_len p xs) (length xs)) refl none
  where
    by : (b : Bool) → nat_lt (position_or_len p xs) (length xs) ≡ b → cond b (Some (position_or_len p xs)) None ≡ None
        → length xs ≤ position_or_len p xs
    by true t e = absurd (cc)
    by false t e = grind (arith, nat_tests)

pub position-some : (p : ℕ → Bool) (xs : List ℕ) (at : ℕ) → position p xs ≡ Some at → (at < length xs) × (position_or_len p xs ≡ at)
position-some p xs at found = by (nat_lt (position_or_len p xs) (length xs)) refl found
  where
    by : (b : Bool) → nat_lt (position_or_len p xs) (length xs) ≡ b → cond b (Some (position_or_len p xs)) None ≡ Some at → (at < length xs)
        × (position_or_len p xs ≡ at)
    by true t e =
        let place : position_or_len p xs ≡ at = cc in
        let within : position_or_len p xs < length xs = grind (arith, nat_tests) in
        (omega arith, place)
    by false t e = absurd (cc)

pub passes-at : (p : ℕ → Bool) (xs : List ℕ) (at : ℕ) → position p xs ≡ Some at → p (get_or xs at 0) ≡ true
passes-at p xs at found =
    let place = position-some p xs at found in
    rw place.1 at (passes_at_first p xs 0 (omega arith))

pub position_or_len-cons : (p : ℕ → Bool) (x : ℕ) (xs : List ℕ) → p x ≡ false → position_or_len p (x ∷ xs) ≡ suc (position_or_len p xs)
position_or_len-cons p x xs h = rw h (omega arith)
