-- Texts in order without doubles: `in_order` makes them, and so does a sort with a `dedup`. Their members
-- say which they are.
use Rattle.std.proofs.Common.{◌≡◌, ◌∙◌, sym, ap, subst, refl, ℕ, Bool, true, false, cond, ◌||◌, List, [], ◌∷◌, map}
use Rattle.std.proofs.lemmas.Bool.{false≢true}
use Rattle.std.proofs.lemmas.Cmp.{tied_itself, nat_list_cmp_total, on_total}
use Rattle.std.proofs.lemmas.List.Kept.{IsStrictlySortedBy-dedup}
use Rattle.std.proofs.lemmas.List.Sorted.{list_any-IsPermutation}
use Rattle.std.proofs.lemmas.Map.Lookups.{exact_bytes}
use Rattle.std.specs.BTreeSet.{insert_key}
use Rattle.std.specs.Cmp.Lexicographic.{slice_cmp}
use Rattle.std.specs.List.{AllByRecursion, list_any, dedup, dedup_from}
use Rattle.std.specs.Str.{bytes_eq}
use Rattle.std.proofs.lemmas.Slice.Eq.{bytes_eq-Decides}
use Rattle.std.proofs.lemmas.Map.Text.{is_eq-slice_cmp}
use Rattle.std.specs.List.Sorted.{IsStrictlySortedBy, IsSorted, IsPermutation}
use Rattle.std.specs.Ordering.{nat_cmp, eq_by_cmp, is_eq, match_ordering, ordering_reverse}
use Rattle.std.specs.declared.cmp.Ordering.{Ordering}
use Rattle.std.specs.declared.cmp.Ordering.TheVariants.{Less, Equal, Greater}
use Rattle.text_parts.specs.Order.{in_order}

-- the order of the bytes
abbrev pub by_bytes : List ℕ → List ℕ → Ordering
by_bytes = slice_cmp nat_cmp

-- a text is among texts
abbrev pub among : List ℕ → List (List ℕ) → Bool
among text texts = list_any (eq_by_cmp by_bytes text) texts

abbrev AllAbove : List ℕ → List (List ℕ) → Type 0
AllAbove text texts = AllByRecursion (λ other. by_bytes text other ≡ Less) texts

below_too : (x y : List ℕ) (zs : List (List ℕ)) → by_bytes x y ≡ Less → AllAbove y zs → AllAbove x zs
below_too x y [] e a = tt
below_too x y (z ∷ zs) e a = (nat_list_cmp_total.trans x y z e a.0, below_too x y zs e a.1)

turned : (x y : List ℕ) → by_bytes x y ≡ Greater → by_bytes y x ≡ Less
turned x y e = nat_list_cmp_total.antisymm y x ∙ ap ordering_reverse e

-- a text put in its place leaves texts in order

above_inserted_by : (x k y : List ℕ) (ys : List (List ℕ)) (o : Ordering) → by_bytes x k ≡ Less → AllAbove x (y ∷ ys)
    → AllAbove x (insert_key by_bytes ys k)
    → AllAbove x (match_ordering o (k ∷ y ∷ ys) (y ∷ ys) (y ∷ insert_key by_bytes ys k))
above_inserted_by x k y ys Less e a rest = (e, a)
above_inserted_by x k y ys Equal e a rest = a
above_inserted_by x k y ys Greater e a rest = (a.0, rest)

above_inserted : (x k : List ℕ) (ys : List (List ℕ)) → by_bytes x k ≡ Less → AllAbove x ys → AllAbove x (insert_key by_bytes ys k)
above_inserted x k [] e a = (e, tt)
above_inserted x k (y ∷ ys) e a = above_inserted_by x k y ys (by_bytes k y) e a (above_inserted x k ys e a.1)

inserted_by : (k x : List ℕ) (xs : List (List ℕ)) (o : Ordering) → by_bytes k x ≡ o
    → IsStrictlySortedBy by_bytes (x ∷ xs) → IsStrictlySortedBy by_bytes (insert_key by_bytes xs k)
    → IsStrictlySortedBy by_bytes (match_ordering o (k ∷ x ∷ xs) (x ∷ xs) (x ∷ insert_key by_bytes xs k))
unfolding IsStrictlySortedBy
inserted_by k x xs Less is sorted rest = ((is, below_too k x xs is sorted.0), sorted)
inserted_by k x xs Equal is sorted rest = sorted
inserted_by k x xs Greater is sorted rest = (above_inserted x k xs (turned k x is) sorted.0, rest)

inserted : (k : List ℕ) (xs : List (List ℕ)) → IsStrictlySortedBy by_bytes xs → IsStrictlySortedBy by_bytes (insert_key by_bytes xs k)
unfolding IsStrictlySortedBy
inserted k [] sorted = (tt, tt)
inserted k (x ∷ xs) sorted = inserted_by k x xs (by_bytes k x) refl sorted (inserted k xs sorted.1)

pub in_order-sorted : (texts : List (List ℕ)) → IsStrictlySortedBy by_bytes (in_order texts)
unfolding IsStrictlySortedBy
in_order-sorted [] = tt
in_order-sorted (text ∷ texts) = inserted text (in_order texts) (in_order-sorted texts)

-- which texts are among them

or_twice : (a b : Bool) → (a || b) ≡ (a || (a || b))
or_twice true b = refl
or_twice false b = refl

or_turned : (a b c : Bool) → (b || (a || c)) ≡ (a || (b || c))
or_turned true true c = refl
or_turned true false c = refl
or_turned false b c = refl

among_inserted_by : (p : List ℕ → Bool) (k x : List ℕ) (xs : List (List ℕ)) (o : Ordering) → by_bytes k x ≡ o
    → list_any p (insert_key by_bytes xs k) ≡ (p k || list_any p xs)
    → list_any p (match_ordering o (k ∷ x ∷ xs) (x ∷ xs) (x ∷ insert_key by_bytes xs k)) ≡ (p k || (p x || list_any p xs))
among_inserted_by p k x xs Less is rest = refl
among_inserted_by p k x xs Equal is rest =
    or_twice (p x) (list_any p xs) ∙ ap (λ text. p text || (p x || list_any p xs)) (sym (exact_bytes k x is))
among_inserted_by p k x xs Greater is rest = ap (λ b. p x || b) rest ∙ or_turned (p k) (p x) (list_any p xs)

among_inserted : (p : List ℕ → Bool) (k : List ℕ) (xs : List (List ℕ)) → list_any p (insert_key by_bytes xs k) ≡ (p k || list_any p xs)
among_inserted p k [] = refl
among_inserted p k (x ∷ xs) = among_inserted_by p k x xs (by_bytes k x) refl (among_inserted p k xs)

-- one of the texts put in order passes a test exactly if one of the texts does
pub among-in_order : (p : List ℕ → Bool) (texts : List (List ℕ)) → list_any p (in_order texts) ≡ list_any p texts
among-in_order p [] = refl
among-in_order p (text ∷ texts) = among_inserted p text (in_order texts) ∙ ap (λ b. p text || b) (among-in_order p texts)

-- texts in order are the same if the same texts are among them

not_among : (text : List ℕ) (texts : List (List ℕ)) → AllAbove text texts → among text texts ≡ false
not_among text [] a = refl
not_among text (x ∷ xs) a = ap (λ o. is_eq o || among text xs) a.0 ∙ not_among text xs a.1

first_among : (x : List ℕ) (xs : List (List ℕ)) → among x (x ∷ xs) ≡ true
first_among x xs = ap (λ o. is_eq o || among x xs) (tied_itself nat_list_cmp_total x)

apart : {P : Type 0} (x : List ℕ) (xs ys : List (List ℕ)) → among x (x ∷ xs) ≡ among x ys → AllAbove x ys → P
apart x xs ys e a = absurd (false≢true (sym (not_among x ys a) ∙ sym e ∙ first_among x xs))

tails_by : (q x : List ℕ) (xs ys : List (List ℕ)) (o : Ordering) → by_bytes q x ≡ o → AllAbove x xs → AllAbove x ys
    → (is_eq o || among q xs) ≡ (is_eq o || among q ys) → among q xs ≡ among q ys
tails_by q x xs ys Less is a b e = e
tails_by q x xs ys Equal is a b e =
    let same : q ≡ x = exact_bytes q x is in
    not_among q xs (subst (λ t. AllAbove t xs) (sym same) a) ∙ sym (not_among q ys (subst (λ t. AllAbove t ys) (sym same) b))
tails_by q x xs ys Greater is a b e = e

pub same_in_order : (xs ys : List (List ℕ)) → IsStrictlySortedBy by_bytes xs → IsStrictlySortedBy by_bytes ys
    → ((q : List ℕ) → among q xs ≡ among q ys) → xs ≡ ys
unfolding IsStrictlySortedBy
same_in_order [] [] a b e = refl
same_in_order [] (y ∷ ys) a b e = absurd (false≢true (e y ∙ first_among y ys))
same_in_order (x ∷ xs) [] a b e = absurd (false≢true (sym (e x) ∙ first_among x xs))
same_in_order (x ∷ xs) (y ∷ ys) a b e =
    elim (by_bytes x y) as (λ o. by_bytes x y ≡ o → x ∷ xs ≡ y ∷ ys) [
      | Less ↦ λ is. apart x xs (y ∷ ys) (e x) (is, below_too x y ys is b.0)
      | Equal ↦ λ is.
          let same : x ≡ y = exact_bytes x y is in
          let above : AllAbove x ys = subst (λ t. AllAbove t ys) (sym same) b.0 in
          let here : (q : List ℕ) → among q (x ∷ xs) ≡ among q (x ∷ ys) = λ q. e q ∙ ap (λ t. among q (t ∷ ys)) (sym same) in
          ap (λ t. t ∷ xs) same
          ∙ ap (λ t. y
          ∷ t) (same_in_order xs ys a.1 b.1 (λ q. tails_by q x xs ys (by_bytes q x) refl a.0 above (here q)))
      | Greater ↦ λ is. apart y ys (x ∷ xs) (sym (e y)) (turned x y is, below_too y x xs (turned x y is) a.0)
    ] refl

-- texts in order stay as they are
pub in_order-again : (texts : List (List ℕ)) → in_order (in_order texts) ≡ in_order texts
in_order-again texts =
    same_in_order (in_order (in_order texts)) (in_order texts) (in_order-sorted (in_order texts))
    (in_order-sorted texts) (λ q. among-in_order (eq_by_cmp by_bytes q) (in_order texts))

-- a sort and a `dedup` of values that have texts

module _ {X : Type 0} (f : X → List ℕ) where
  sorted_map : (xs : List X) → IsStrictlySortedBy (λ x y. by_bytes (f x) (f y)) xs → IsStrictlySortedBy by_bytes (map f xs)
  unfolding IsStrictlySortedBy
  sorted_map [] a = tt
  sorted_map (x ∷ xs) a = (above_map x xs a.0, sorted_map xs a.1)
    where
      above_map : (x : X) (xs : List X) → AllByRecursion (λ y. by_bytes (f x) (f y) ≡ Less) xs → AllAbove (f x) (map f xs)
      above_map x [] a = tt
      above_map x (y ∷ ys) a = (a.0, above_map x ys a.1)

  any_map : (p : List ℕ → Bool) (xs : List X) → list_any p (map f xs) ≡ list_any (λ x. p (f x)) xs
  any_map p [] = refl
  any_map p (x ∷ xs) = ap (λ b. p (f x) || b) (any_map p xs)

  any_dedup_by : (p : List ℕ → Bool) (k x : X) (xs : List X) (same : Bool) → bytes_eq (f x) (f k) ≡ same
      → list_any (λ y. p (f y)) (dedup_from (λ a b. bytes_eq (f a) (f b)) k xs) ≡ (p (f k) || list_any (λ y. p (f y)) xs)
      → list_any (λ y. p (f y)) (dedup_from (λ a b. bytes_eq (f a) (f b)) x xs) ≡ (p (f x) || list_any (λ y. p (f y)) xs)
      → list_any (λ y. p (f y))
      (cond same (dedup_from (λ a b. bytes_eq (f a) (f b)) k xs)
      (k ∷ dedup_from (λ a b. bytes_eq (f a) (f b)) x xs)) ≡ (p (f k) || (p (f x) || list_any (λ y. p (f y)) xs))
  any_dedup_by p k x xs true is at_k at_x =
      at_k ∙ or_twice (p (f k)) (list_any (λ y. p (f y)) xs)
      ∙ ap (λ t. p (f k) || (p t || list_any (λ y. p (f y)) xs)) (sym ((bytes_eq-Decides (f x) (f k)).0 is))
  any_dedup_by p k x xs false is at_k at_x = ap (λ b. p (f k) || b) at_x

  any_dedup : (p : List ℕ → Bool) (k : X) (xs : List X)
      → list_any (λ y. p (f y)) (dedup_from (λ a b. bytes_eq (f a) (f b)) k xs)
      ≡ (p (f k) || list_any (λ y. p (f y)) xs)
  any_dedup p k [] = refl
  any_dedup p k (x ∷ xs) = any_dedup_by p k x xs (bytes_eq (f x) (f k)) refl (any_dedup p k xs) (any_dedup p x xs)

  any_deduped : (p : List ℕ → Bool) (xs : List X)
      → list_any (λ y. p (f y)) (dedup (λ a b. bytes_eq (f a) (f b)) xs) ≡ list_any (λ y. p (f y)) xs
  any_deduped p [] = refl
  any_deduped p (x ∷ xs) = any_dedup p x xs

  pub sorted_once : (old sorted new : List X) → IsPermutation old sorted
      → IsSorted (λ a b. by_bytes (f a) (f b)) sorted → new ≡ dedup (λ a b. bytes_eq (f a) (f b)) sorted
      → map f new ≡ in_order (map f old)
  sorted_once old sorted new permutation ordered is =
      let rises : IsStrictlySortedBy by_bytes (map f (dedup (λ a b. bytes_eq (f a) (f b)) sorted)) =
      sorted_map _ (IsStrictlySortedBy-dedup (on_total f nat_list_cmp_total) (λ x y. sym (is_eq-slice_cmp (f x) (f y))) sorted ordered) in
      ap (map f) is
      ∙ same_in_order (map f (dedup (λ a b. bytes_eq (f a) (f b)) sorted)) (in_order (map f old)) rises
      (in_order-sorted (map f old)) (λ q.
      any_map (eq_by_cmp by_bytes q) _ ∙ any_deduped (eq_by_cmp by_bytes q) sorted
      ∙ sym (list_any-IsPermutation (λ x. eq_by_cmp by_bytes q (f x)) old sorted permutation)
      ∙ sym (any_map (eq_by_cmp by_bytes q) old) ∙ sym (among-in_order (eq_by_cmp by_bytes q) (map f old)))
