-- Sums over texts that are put in order, each once.
use Rattle.std.proofs.Common.{◌≡◌, ◌∙◌, sym, ap, subst, refl, ℕ, ◌+◌, Bool, true, false, ◌||◌, if◌then◌else◌, List, [], ◌∷◌, ◌++◌, arith}
use Rattle.std.proofs.lemmas.Cmp.{nat_list_cmp_total}
use Rattle.std.proofs.lemmas.List.Sums.{sum_by-cons}
use Rattle.std.proofs.lemmas.Map.Lookups.{exact_bytes}
use Rattle.std.proofs.lemmas.Map.Text.{is_eq-slice_cmp}
use Rattle.std.proofs.lemmas.Slice.Eq.{bytes_eq-Decides}
use Rattle.std.specs.BTreeSet.{insert_key}
use Rattle.std.specs.List.{AllByRecursion, sum_by, filter}
use Rattle.std.specs.List.Sorted.{IsStrictlySortedBy}
use Rattle.std.specs.Ordering.{is_eq, match_ordering}
use Rattle.std.specs.Str.{bytes_eq}
use Rattle.std.specs.declared.cmp.Ordering.{Ordering}
use Rattle.std.specs.declared.cmp.Ordering.TheVariants.{Less, Equal, Greater}
use Rattle.general_facts.specs.Texts.{bytes_eq-sym}
use Rattle.text_parts.specs.Order.{in_order}
use Rattle.text_parts.specs.Ordered.{by_bytes, in_order-sorted, among-in_order}
use Rattle.port_index.specs.FilledRows.{is_one_of}
use Rattle.port_index.proofs.Filled.{one_of-append}

-- the weight of a text, unless it is one of these
abbrev pub unless : List (List ℕ) → (List ℕ → ℕ) → List ℕ → ℕ
unless texts weight text = if is_one_of text texts then 0 else weight text

-- the weight of a text, unless it is this one
abbrev without : List ℕ → (List ℕ → ℕ) → List ℕ → ℕ
without one weight text = if bytes_eq one text then 0 else weight text

abbrev Above : List ℕ → List (List ℕ) → Type 0
Above text texts = AllByRecursion (λ other. by_bytes text other ≡ Less) texts

further : (x y : List ℕ) (texts : List (List ℕ)) → by_bytes x y ≡ Less → Above y texts → Above x texts
further x y [] e above = tt
further x y (z ∷ texts) e above = (nat_list_cmp_total.trans x y z e above.0, further x y texts e above.1)

differs : (x y : List ℕ) (o : Ordering) → by_bytes x y ≡ o → is_eq o ≡ false → bytes_eq y x ≡ false
differs x y o e other = bytes_eq-sym y x ∙ sym (is_eq-slice_cmp x y) ∙ ap is_eq e ∙ other

outside : (text : List ℕ) (texts : List (List ℕ)) → Above text texts → is_one_of text texts ≡ false
outside text [] above = refl
outside text (x ∷ texts) above = ap (λ b. b || is_one_of text texts) (differs text x Less above.0 refl) ∙ outside text texts above.1

module _ (weight : List ℕ → ℕ) where
  added_by : (k x : List ℕ) (texts : List (List ℕ)) (o : Ordering) → by_bytes k x ≡ o → IsStrictlySortedBy by_bytes (x ∷ texts)
      → sum_by weight (insert_key by_bytes texts k) ≡ sum_by weight texts + unless texts weight k
      → sum_by weight (match_ordering o (k ∷ x ∷ texts) (x ∷ texts) (x ∷ insert_key by_bytes texts k)) ≡ sum_by weight (x ∷ texts) +
      unless (x ∷ texts) weight k
  unfolding IsStrictlySortedBy
  added_by k x texts Less is sorted rest =
      let out = ap (λ (b : Bool). if b then 0 else weight k) (outside k (x ∷ texts) (is, further k x texts is sorted.0)) in
      omega (arith, sum_by-cons weight k (x ∷ texts), out)
  added_by k x texts Equal is sorted rest =
      let same = (bytes_eq-Decides x k).1 (sym (exact_bytes k x is)) in
      let there = ap (λ (b : Bool). if b || is_one_of k texts then 0 else weight k) same in
      omega (arith, there)
  added_by k x texts Greater is sorted rest =
      let other = ap (λ (b : Bool). if b || is_one_of k texts then 0 else weight k) (differs k x Greater is refl) in
      omega (arith, sum_by-cons weight x (insert_key by_bytes texts k), sum_by-cons weight x texts, rest, other)

  added : (k : List ℕ) (texts : List (List ℕ)) → IsStrictlySortedBy by_bytes texts → sum_by weight (insert_key by_bytes texts k) ≡ sum_by
      weight texts + unless texts weight k
  unfolding IsStrictlySortedBy
  added k [] sorted = refl
  added k (x ∷ texts) sorted = added_by k x texts (by_bytes k x) refl sorted (added k texts sorted.1)

  -- one text more
  one_more : (x : List ℕ) (texts : List (List ℕ)) → sum_by weight (in_order (x ∷ texts)) ≡ sum_by weight
      (in_order texts) + unless texts weight x
  one_more x texts =
      added x (in_order texts) (in_order-sorted texts)
      ∙ ap (λ (b : Bool). sum_by weight (in_order texts) + (if b then 0 else weight x)) (among-in_order (λ one. bytes_eq one x) texts)

  taken_out_by : (x z : List ℕ) (texts : List (List ℕ)) (same : Bool) → bytes_eq x z ≡ same → Above z texts
      → sum_by weight texts ≡ sum_by (without x weight) texts + (if is_one_of x texts then weight x else 0)
      → weight z + sum_by weight texts ≡ ((if same then 0 else weight z) + sum_by (without x weight) texts) +
      (if same || is_one_of x texts then weight x else 0)
  taken_out_by x z texts true is above rest =
      let this : x ≡ z = (bytes_eq-Decides x z).0 is in
      let out = ap (λ (b : Bool). if b then weight x else 0) (outside x texts (subst (λ t. Above t texts) (sym this) above)) in
      let weighs = ap weight this in
      omega (arith, rest, out, weighs)
  taken_out_by x z texts false is above rest = omega (arith, rest)

  -- one text less
  taken_out : (x : List ℕ) (texts : List (List ℕ)) → IsStrictlySortedBy by_bytes texts
      → sum_by weight texts ≡ sum_by (without x weight) texts + (if is_one_of x texts then weight x else 0)
  unfolding IsStrictlySortedBy
  taken_out x [] sorted = refl
  taken_out x (z ∷ texts) sorted =
      sum_by-cons weight z texts
      ∙ taken_out_by x z texts (bytes_eq x z) refl sorted.0 (taken_out x texts sorted.1)
      ∙ ap (λ (b : Bool). ((if bytes_eq x z then 0 else weight z) + sum_by (without x weight) texts) +
      (if b || is_one_of x texts then weight x else 0)) (bytes_eq-sym x z)
      ∙ ap (λ n. n + (if is_one_of x (z ∷ texts) then weight x else 0)) (sym (sum_by-cons (without x weight) z texts))

without_both : (weight : List ℕ → ℕ) (x : List ℕ) (texts : List (List ℕ)) (y : List ℕ) (same : Bool)
    → (if same then 0 else unless texts weight y) ≡ (if same || is_one_of y texts then 0 else weight y)
without_both weight x texts y true = refl
without_both weight x texts y false = refl

either : (first second : Bool) (n : ℕ) → (if second then (if first then 0 else n) else 0) + (if first || second then 0 else n) ≡
    (if first then 0 else n)
either true true n = refl
either true false n = refl
either false true n = omega arith
either false false n = omega arith

-- the sum of two lists of texts: those of the second count unless they are among the first
pub sum-joined : (weight : List ℕ → ℕ) (xs ys : List (List ℕ)) → sum_by weight (in_order (xs ++ ys)) ≡ sum_by weight (in_order xs) + sum_by
    (unless xs weight) (in_order ys)
sum-joined weight [] ys = omega arith
sum-joined weight (x ∷ xs) ys =
    let rest = sum-joined weight xs ys in
    let more = one_more weight x (xs ++ ys) in
    let first = one_more weight x xs in
    let out = taken_out (unless xs weight) x (in_order ys) (in_order-sorted ys) in
    let same : sum_by (without x (unless xs weight)) (in_order ys) ≡ sum_by (unless (x ∷ xs) weight) (in_order ys) =
    ap (λ f. sum_by f (in_order ys)) (λ i y. without_both weight x xs y (bytes_eq x y) i) in
    let there = ap (λ (b : Bool). if b then unless xs weight x else 0) (among-in_order (λ one. bytes_eq one x) ys) in
    let apart = ap (λ (b : Bool). if b then 0 else weight x) (one_of-append x xs ys) in
    let one = either (is_one_of x xs) (is_one_of x ys) (weight x) in
    omega (arith, rest, more, first, out, same, there, apart, one)

kept_by : {X : Type 0} (test : X → Bool) (weight : X → ℕ) (x : X) (xs : List X) (passes : Bool)
    → sum_by weight (filter test xs) ≡ sum_by (λ y. if test y then weight y else 0) xs
    → sum_by weight (if passes then x ∷ filter test xs else filter test xs) ≡ (if passes then weight x else 0) + sum_by
    (λ y. if test y then weight y else 0) xs
kept_by test weight x xs true rest = sum_by-cons weight x (filter test xs) ∙ ap (λ n. weight x + n) rest
kept_by test weight x xs false rest = rest ∙ omega arith

-- the sum of what passes a test
pub sum-filter : {X : Type 0} (test : X → Bool) (weight : X → ℕ) (xs : List X) → sum_by weight (filter test xs) ≡ sum_by
    (λ x. if test x then weight x else 0) xs
sum-filter test weight [] = refl
sum-filter test weight (x ∷ xs) =
    kept_by test weight x xs (test x) (sum-filter test weight xs) ∙ sym (sum_by-cons (λ y. if test y then weight y else 0) x xs)
