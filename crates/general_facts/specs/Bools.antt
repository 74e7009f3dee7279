-- Booleans, and the answers of comparisons.
use Rattle.std.proofs.Common.{◌≡◌, refl, Bool, true, false, not, cond, ◌||◌, ◌&&◌, T, is_lt, is_eq, Ordering, Less, Equal, Greater}

pub or_swap : (a b : Bool) → (a || (b || false)) ≡ (b || a)
or_swap true true = refl
or_swap true false = refl
or_swap false true = refl
or_swap false false = refl

pub or_elim : {P : Type 0} (a b : Bool) → (a || b) ≡ true → (a ≡ true → P) → (b ≡ true → P) → P
or_elim true b is left right = left refl
or_elim false b is left right = right is

pub not-and : (a b : Bool) → (not a || not b) ≡ not (a && b)
not-and true b = refl
not-and false b = refl

pub T-left : (a b : Bool) → T (a && b) → T a
T-left true b h = tt
T-left false b h = absurd h

pub T-right : (a b : Bool) → T (a && b) → T b
T-right true b h = h
T-right false b h = absurd h

pub cond-or : (a b : Bool) → cond a true b ≡ (a || b)
cond-or true b = refl
cond-or false b = refl

-- what a comparison answered, by its tests
pub Less_from_is_lt : (o : Ordering) → T (is_lt o) → o ≡ Less
Less_from_is_lt Less h = refl
Less_from_is_lt Equal h = absurd h
Less_from_is_lt Greater h = absurd h

pub Equal_from_is_eq : (o : Ordering) → is_eq o ≡ true → o ≡ Equal
Equal_from_is_eq Less h = absurd cc
Equal_from_is_eq Equal h = refl
Equal_from_is_eq Greater h = absurd cc
