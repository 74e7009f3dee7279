-- Places, writes and look-ups in lists.
use Rattle.std.proofs.Common.{◌≡◌, ◌≢◌, ◌<◌, ℕ, zero, suc, ◌+◌, Bool, List, [], ◌∷◌, length, drop, take, ◌-◌, Option, Some, None, refl, sym}
use Rattle.std.proofs.Common.{ap, subst, cond, arith, length-drop}
use Rattle.std.specs.Prelude.{IfNone, IfSome, map, option_map, replicate, slice_get, position, not}
use Rattle.std.specs.List.{prefix_len}
use Rattle.std.proofs.Math.ListN.{set}
use Rattle.std.proofs.Math.Seq.{take-length}

-- a test of mapped elements
pub prefix_len-map : {X Y : Type 0} (p : Y → Bool) (f : X → Y) (xs : List X) → prefix_len p (map f xs) ≡ prefix_len (λ x. p (f x)) xs
prefix_len-map p f [] = refl
prefix_len-map p f (x ∷ xs) = ap (λ n. cond (p (f x)) (1 + n) 0) (prefix_len-map p f xs)

pub length-map : {X Y : Type 0} (f : X → Y) (xs : List X) → length (map f xs) ≡ length xs
length-map f [] = refl
length-map f (x ∷ xs) = ap suc (length-map f xs)

pub position-map : {X Y : Type 0} (p : Y → Bool) (f : X → Y) (xs : List X) → position p (map f xs) ≡ position (λ x. p (f x)) xs
position-map p f xs = rw (prefix_len-map (λ y. not (p y)) f xs, length-map f xs)

-- an element that is written
pub slice_get-set_same : {X : Type 0} (xs : List X) (i : ℕ) (x : X) → i < length xs → slice_get (set xs i x) i ≡ Some x
slice_get-set_same [] i x lt = absurd (omega arith)
slice_get-set_same (y ∷ xs) zero x lt = refl
slice_get-set_same (y ∷ xs) (suc i) x lt = slice_get-set_same xs i x (omega arith)

pub slice_get-set_other : {X : Type 0} (xs : List X) (i j : ℕ) (x : X) → j ≢ i → slice_get (set xs i x) j ≡ slice_get xs j
slice_get-set_other [] i j x ne = refl
slice_get-set_other (y ∷ xs) zero zero x ne = absurd (ne refl)
slice_get-set_other (y ∷ xs) zero (suc j) x ne = refl
slice_get-set_other (y ∷ xs) (suc i) zero x ne = refl
slice_get-set_other (y ∷ xs) (suc i) (suc j) x ne = slice_get-set_other xs i j x (λ e. ne (ap suc e))

-- all that is left is taken
pub take-rest : {X : Type 0} (n : ℕ) (xs : List X) → take (length xs - n) (drop n xs) ≡ drop n xs
take-rest n xs = rw (← length-drop n xs) (take-length (drop n xs))

-- the same value for each element
pub map-same : {X Y : Type 0} (y : Y) (xs : List X) → map (λ x. y) xs ≡ replicate (length xs) y
map-same y [] = refl
map-same y (x ∷ xs) = ap (λ ys. y ∷ ys) (map-same y xs)

-- none isn't some
pub none_some : {A : Type 0} {y : A} → ◌≡◌ {A = Option A} None (Some y) → ⊥
none_some e = cc

pub some_same : {A : Type 0} {x y : A} → ◌≡◌ {A = Option A} (Some x) (Some y) → x ≡ y
some_same e = cc

-- what a mapped option comes from
pub option_from : {A B : Type 0} (f : A → B) (o : Option A) (y : B) → option_map f o ≡ Some y → (x : A) × (o ≡ Some x) × (f x ≡ y)
option_from f None y e = absurd (none_some e)
option_from f (Some x) y e = (x, refl, some_same e)

-- a fact for the case of an option that is there
pub on_none : {A : Type 0} {P : Type 0} (o : Option A) → o ≡ None → IfNone o P → P
on_none None is h = h
on_none (Some x) is h = absurd (none_some (sym is))

pub on_some : {A : Type 0} (P : A → Type 0) (o : Option A) (x : A) → o ≡ Some x → IfSome o P → P x
on_some P None x is h = absurd (none_some is)
on_some P (Some y) x is h = subst P (some_same is) h
