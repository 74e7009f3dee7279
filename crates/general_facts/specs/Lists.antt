-- Lists: filtered, mapped, tested and split.
use Rattle.std.proofs.Common.{◌≡◌, ◌∙◌, sym, ap, refl, ℕ, ◌+◌, ◌-◌, ◌<◌, Bool, true, false, cond, ◌||◌, arith}
use Rattle.std.proofs.Common.{List, [], ◌∷◌, ◌++◌, map, take, drop, length, get_or, Option, Some, None}
use Rattle.std.proofs.lemmas.List.{drop_more, take_more}
use Rattle.std.proofs.lemmas.List.Elements.{filter_map-append}
use Rattle.std.specs.List.{filter_map, list_any, onto_first, slice_split}
use Rattle.std.specs.Option.{option_to_list}
use Rattle.std.specs.Prelude.{slice_range}

filter_map-one : {X Y : Type 0} (h : X → Option Y) (x : X) → filter_map h (x ∷ []) ≡ option_to_list (h x)
filter_map-one h x = by (h x)
  where
    by : {Y : Type 0} (y : Option Y) → filter_map (λ y. y) (y ∷ []) ≡ option_to_list y
    by None = refl
    by (Some y) = refl

-- what is given of the first elements of a list, with one element more
pub filter_map-more : {X Y : Type 0} (h : X → Option Y) (xs : List X) (i : ℕ) (d : X) (before now : List Y) → i < length xs
    → before ≡ filter_map h (take i xs) → now ≡ before ++ option_to_list (h (get_or xs i d)) → now ≡ filter_map h (take (i + 1) xs)
filter_map-more h xs i d before now inside so_far more =
    more ∙ ap (λ ys. ys ++ option_to_list (h (get_or xs i d))) so_far
    ∙ ap (λ ys. filter_map h (take i xs) ++ ys) (sym (filter_map-one h (get_or xs i d)))
    ∙ sym (filter_map-append h (take i xs) (get_or xs i d ∷ []))
    ∙ ap (filter_map h) (sym (take_more xs i d inside))

-- a test of mapped elements
pub list_any-map : {X Y : Type 0} (test : Y → Bool) (f : X → Y) (xs : List X) → list_any test (map f xs) ≡ list_any (λ x. test (f x)) xs
list_any-map test f [] = refl
list_any-map test f (x ∷ xs) = ap (λ rest. test (f x) || rest) (list_any-map test f xs)

-- the range of one element
pub slice_range-one : (xs : List ℕ) (i : ℕ) → i < length xs → slice_range xs i (i + 1) ≡ get_or xs i 0 ∷ []
slice_range-one xs i within =
    let one : i + 1 - i ≡ 1 = omega arith in
    ap (λ n. take n (drop i xs)) one ∙ ap (take 1) (drop_more xs i 0 within)

-- a list that is split has a first part
pub slice_split-first : (p : ℕ → Bool) (xs : List ℕ) → (first : List ℕ) × (others : List (List ℕ)) × (slice_split p xs ≡ first ∷ others)
slice_split-first p [] = ([], [], refl)
slice_split-first p (x ∷ xs) = cases (p x) (slice_split-first p xs)
  where
    cases : (b : Bool) → (first : List ℕ) × (others : List (List ℕ)) × (slice_split p xs ≡ first ∷ others)
        → (first : List ℕ) × (others : List (List ℕ)) × (cond b ([] ∷ slice_split p xs) (onto_first x (slice_split p xs)) ≡ first ∷ others)
    cases true h = ([], slice_split p xs, refl)
    cases false h = (x ∷ h.0, h.1, rw h.2)
