-- How a walk over the items of a list goes on: at each item by a value or a stop, and at the end of the
-- list.
use Rattle.std.specs.Prelude.{◌≡◌, ◌<◌, ◌+◌, ℕ, suc, List, [], ◌∷◌, map, length, drop, refl, Ok, Err}
use Rattle.std.proofs.Common.{get_or, ap, sym, ◌∙◌, drop-cons, add-one}
use Rattle.std.proofs.Math.Seq.{drop-length}
use Rattle.mk_base.specs.Outcome.{Work, after, each}

module _ {M F S X Y : Type 0} (turn : S → X → Work M F S) (view : Y → X) where
  each-nil : (s : S) (m : M) → each turn s [] m ≡ Ok (s, m)
  unfolding each
  each-nil s m = refl

  each-cons : (s : S) (x : X) (xs : List X) (m : M) → each turn s (x ∷ xs) m ≡ after (turn s x m) (λ next. each turn next xs)
  unfolding each
  each-cons s x xs m = refl

  -- the items from place i on, seen by view
  abbrev pub from : List Y → ℕ → List X
  from items i = map view (drop i items)

  front : (items : List Y) (i : ℕ) (default item : Y) → i < length items → item ≡ get_or items i default
      → drop i items ≡ item ∷ drop (i + 1) items
  front items i default item below is =
      drop-cons items i default below ∙ ap (λ y. y ∷ drop (suc i) items) (sym is) ∙ ap (λ k. item ∷ drop k items) (sym (add-one i))

  walks : (s : S) (items : List Y) (i : ℕ) (default item : Y) (m : M) → i < length items
      → item ≡ get_or items i default
      → each turn s (from items i) m ≡ after (turn s (view item) m) (λ next. each turn next (from items (i + 1)))
  walks s items i default item m below is =
      ap (λ xs. each turn s (map view xs) m) (front items i default item below is)
      ∙ each-cons s (view item) (from items (i + 1)) m

  -- if the turn of the next item gives a value, the walk goes on after that item
  pub each-value : (s next : S) (items : List Y) (i : ℕ) (default item : Y) (m m' : M) → i < length items
      → item ≡ get_or items i default → turn s (view item) m ≡ Ok (next, m')
      → each turn s (from items i) m ≡ each turn next (from items (i + 1)) m'
  each-value s next items i default item m m' below is value =
      walks s items i default item m below is
      ∙ ap (λ end. after end (λ value'. each turn value' (from items (i + 1)))) value

  -- if the turn of the next item stops, so does the walk
  pub each-stop : (s : S) (items : List Y) (i : ℕ) (default item : Y) (m : M) (stop : F × M) → i < length items
      → item ≡ get_or items i default → turn s (view item) m ≡ Err stop → each turn s (from items i) m ≡ Err stop
  each-stop s items i default item m stop below is stops =
      walks s items i default item m below is
      ∙ ap (λ end. after end (λ value'. each turn value' (from items (i + 1)))) stops

  -- a walk with no item left gives the value that it has
  pub each-end : (s : S) (items : List Y) (m : M) → each turn s (from items (length items)) m ≡ Ok (s, m)
  each-end s items m = ap (λ xs. each turn s (map view xs) m) (drop-length items) ∙ each-nil s m
