-- Where the first operator of a text begins.
use Rattle.std.proofs.Common.{◌≡◌, ◌∙◌, sym, ap, refl, ℕ, ◌+◌, ◌<◌, ◌≤◌, Bool, true, false, cond, ◌&&◌, List, [], ◌∷◌, length, drop, get_or}
use Rattle.std.proofs.Common.{Some, None, arith, eqb, nat_eq, codes, add-one, inl, inr, ◌⊎◌}
use Rattle.std.proofs.lemmas.Bool.{eqb-true, cases_lt}
use Rattle.std.proofs.lemmas.List.{drop_more, drop_all}
use Rattle.std.proofs.lemmas.Str.{IsCharBoundary-before_ascii, IsCharBoundary-end}
use Rattle.std.specs.List.{starts_with}
use Rattle.std.specs.Option.{is_some}
use Rattle.std.specs.Str.{IsCharBoundary}
use Rattle.ports_query.specs.Conditions.{OperatorAt, operator_at, plain_length}

-- where none begins, one goes on
pub plain_length-on : (byte : ℕ) (rest : List ℕ) → is_some (operator_at (byte ∷ rest)) ≡ false
    → plain_length (byte ∷ rest) ≡ plain_length rest + 1
unfolding plain_length
plain_length-on byte rest none = ap (λ begins. cond begins 0 (plain_length rest + 1)) none

pub plain_length-here : (byte : ℕ) (rest : List ℕ) → is_some (operator_at (byte ∷ rest)) ≡ true → plain_length (byte ∷ rest) ≡ 0
unfolding plain_length
plain_length-here byte rest some = ap (λ begins. cond begins 0 (plain_length rest + 1)) some

pub plain_length-end : plain_length [] ≡ 0
unfolding plain_length
plain_length-end = refl

-- from a place on
pub from-on : (text : List ℕ) (at : ℕ) → at < length text → is_some (operator_at (drop at text)) ≡ false
    → plain_length text ≡ at + plain_length (drop at text)
    → plain_length text ≡ at + 1 + plain_length (drop (at + 1) text)
from-on text at inside none so_far =
    let rest = drop_more text at 0 inside in
    let on : plain_length (drop at text) ≡ plain_length (drop (at + 1) text) + 1 =
    ap plain_length rest ∙ plain_length-on (get_or text at 0) (drop (at + 1) text) (ap (λ t. is_some (operator_at t)) (sym rest) ∙ none) in
    omega arith

pub from-here : (text : List ℕ) (at : ℕ) → at < length text → is_some (operator_at (drop at text)) ≡ true
    → plain_length text ≡ at + plain_length (drop at text) → at ≡ plain_length text
from-here text at inside some so_far =
    let rest = drop_more text at 0 inside in
    let none : plain_length (drop at text) ≡ 0 =
    ap plain_length rest ∙ plain_length-here (get_or text at 0) (drop (at + 1) text)
    (ap (λ t. is_some (operator_at t)) (sym rest) ∙ some) in
    omega arith

pub from-end : (text : List ℕ) (at : ℕ) → length text ≤ at → at ≤ length text → plain_length text ≡ at + plain_length (drop at text)
    → length text ≡ plain_length text
from-end text at past inside so_far =
    let none : plain_length (drop at text) ≡ 0 = ap plain_length (drop_all at text past) ∙ plain_length-end in
    omega arith

-- the first byte of an operator
first_byte : (wanted byte : ℕ) (more : Bool) → (eqb wanted byte && more) ≡ true → wanted < 128 → byte < 128
first_byte wanted byte more begins low =
    let is : wanted ≡ byte = eqb-true wanted byte (and_first (eqb wanted byte) more begins) in
    omega arith
  where
    and_first : (a b : Bool) → (a && b) ≡ true → a ≡ true
    and_first true b is = refl
    and_first false b is = is

by_tests : {X : Type 0} {P : Type 0} (a b c d e : Bool) (u v w x y : X)
    → is_some (cond a (Some u) (cond b (Some v) (cond c (Some w) (cond d (Some x) (cond e (Some y) None))))) ≡ true
    → (a ≡ true → P) → (b ≡ true → P) → (c ≡ true → P) → (d ≡ true → P) → (e ≡ true → P) → P
by_tests true b c d e u v w x y some f g h i j = f refl
by_tests false true c d e u v w x y some f g h i j = g refl
by_tests false false true d e u v w x y some f g h i j = h refl
by_tests false false false true e u v w x y some f g h i j = i refl
by_tests false false false false true u v w x y some f g h i j = j refl
by_tests false false false false false u v w x y some f g h i j = cc

-- a text begins with an operator's text
abbrev begins : List ℕ → List ℕ → Bool
begins operator text = starts_with nat_eq text operator

begins_low : (byte : ℕ) (rest : List ℕ) → is_some (operator_at (byte ∷ rest)) ≡ true → byte < 128
begins_low byte rest some =
    let text = byte ∷ rest in
    by_tests {X = OperatorAt} (begins (codes "!=") text) (begins (codes ">=") text) (begins (codes "=") text) (begins (codes "~") text)
    (begins (codes "<") text) _ _ _ _ _ some
    (λ is. first_byte 33 byte _ is (omega arith))
    (λ is. first_byte 62 byte _ is (omega arith))
    (λ is. first_byte 61 byte _ is (omega arith))
    (λ is. first_byte 126 byte _ is (omega arith))
    (λ is. first_byte 60 byte _ is (omega arith))

stops_by : (byte : ℕ) (rest : List ℕ) (begins : Bool) → is_some (operator_at (byte ∷ rest)) ≡ begins
    → (plain_length rest < length rest → get_or rest (plain_length rest) 0 < 128)
    → plain_length (byte ∷ rest) < length (byte ∷ rest) → get_or (byte ∷ rest) (plain_length (byte ∷ rest)) 0 < 128
stops_by byte rest true is further inside = rw (plain_length-here byte rest is) (begins_low byte rest is)
stops_by byte rest false is further inside =
    let on = plain_length-on byte rest is in
    rw (on, add-one) (further (omega (arith, inside, on)))

-- an operator stops it, which begins with an ASCII character
pub stops_low : (text : List ℕ) → plain_length text < length text → get_or text (plain_length text) 0 < 128
stops_low [] inside = absurd (omega (arith, inside))
stops_low (byte ∷ rest) inside = stops_by byte rest (is_some (operator_at (byte ∷ rest))) refl (stops_low rest) inside

boundary_by : (text : List ℕ) (at : ℕ) → at ≡ plain_length text → at ≤ length text → (at < length text) ⊎ (length text ≤ at)
    → IsCharBoundary text at
boundary_by text at is inside (inl before) = IsCharBoundary-before_ascii text at before (rw is (stops_low text (omega (arith, is, before))))
boundary_by text at is inside (inr past) = let same : at ≡ length text = omega (arith, inside, past) in rw same (IsCharBoundary-end text)

-- so a character begins there, or the text ends
pub boundary : (text : List ℕ) (at : ℕ) → at ≡ plain_length text → at ≤ length text → IsCharBoundary text at
boundary text at is inside = boundary_by text at is inside (cases_lt at (length text))
