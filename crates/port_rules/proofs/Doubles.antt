-- Doubles in a list that is read from the front.
use Rattle.std.proofs.Common.{◌≡◌, ◌∙◌, ◌<◌, ◌+◌, sym, ap, refl, ℕ, Bool, true, false, not, ◌||◌, List, [], ◌∷◌, ◌++◌, length, map, take}
use Rattle.std.proofs.Common.{drop, get_or, String, string_bytes, Global}
use Rattle.std.proofs.lemmas.Bool.{false≢true}
use Rattle.std.proofs.lemmas.Cmp.{nat_list_eq_equiv}
use Rattle.std.proofs.lemmas.List.{map-append, take_more, take-append-drop}
use Rattle.std.proofs.lemmas.List.Folds.{list_any-append}
use Rattle.std.specs.Str.{bytes_eq}
use Rattle.general_facts.specs.Bools.{or_swap}
use Rattle.mk_env.specs.Expansion.{is_among}
use Rattle.port_rules.specs.Packages.{has_double}

regroup : (front same behind double : Bool) → ((front || (same || false)) || (behind || double)) ≡ ((same || behind) || (front || double))
regroup true true behind double = refl
regroup true false true double = refl
regroup true false false double = refl
regroup false true behind double = refl
regroup false false true double = refl
regroup false false false double = refl

-- one more text is a double if it was there already
pub has_double-more : (texts : List (List ℕ)) (text : List ℕ) → has_double (texts ++ text ∷ []) ≡ (is_among text texts || has_double texts)
has_double-more [] text = refl
has_double-more (first ∷ texts) text =
    ap (λ found. found || has_double (texts ++ text ∷ [])) (list_any-append (bytes_eq first) texts (text ∷ []))
    ∙ ap (λ found. (is_among first texts || (bytes_eq first text || false)) || found) (has_double-more texts text)
    ∙ ap (λ same. (is_among first texts || (same || false)) || (is_among text texts || has_double texts))
    (nat_list_eq_equiv.symm first text)
    ∙ regroup (is_among first texts) (bytes_eq text first) (is_among text texts) (has_double texts)

stays : (front more double whole : Bool) → (double ≡ true → whole ≡ true) → (front || double) ≡ true → ((front || more) || whole) ≡ true
stays true more double whole goes is = refl
stays false true double whole goes is = refl
stays false false double whole goes is = goes is

-- a double in the front of a list is one in all of it
pub has_double-front : (texts more : List (List ℕ)) → has_double texts ≡ true → has_double (texts ++ more) ≡ true
has_double-front [] more is = absurd (false≢true is)
has_double-front (first ∷ texts) more is =
    ap (λ found. found || has_double (texts ++ more)) (list_any-append (bytes_eq first) texts more)
    ∙ stays (is_among first texts) (is_among first more) (has_double texts) (has_double (texts ++ more)) (has_double-front texts more) is

with-false : (found double : Bool) → double ≡ false → (found || double) ≡ found
with-false true double is = refl
with-false false double is = is

with-one-more : (items : List (String Global)) (i : ℕ) (item : String Global) → i < length items → item ≡ get_or items i item
    → map string_bytes (take (i + 1) items) ≡ map string_bytes (take i items) ++ string_bytes item ∷ []
with-one-more items i item below is =
    ap (map string_bytes) (take_more items i item below ∙ ap (λ x. take i items ++ x ∷ []) (sym is))
    ∙ map-append string_bytes (take i items) (item ∷ [])

-- whether the next item is a double is whether it was there already
pub has_double-next : (items : List (String Global)) (i : ℕ) (item : String Global) (held : Bool) → i < length items
    → item ≡ get_or items i item
    → held ≡ is_among (string_bytes item) (map string_bytes (take i items)) → has_double (map string_bytes (take i items)) ≡ false
    → has_double (map string_bytes (take (i + 1) items)) ≡ held
has_double-next items i item held below is held-is apart =
    ap has_double (with-one-more items i item below is) ∙ has_double-more (map string_bytes (take i items)) (string_bytes item)
    ∙ with-false (is_among (string_bytes item) (map string_bytes (take i items))) (has_double (map string_bytes (take i items))) apart
    ∙ sym held-is

-- and then there is one in all of them
pub has_double-found : (items : List (String Global)) (i : ℕ) → has_double (map string_bytes (take i items)) ≡ true
    → has_double (map string_bytes items) ≡ true
has_double-found items i is =
    ap (λ all. has_double (map string_bytes all)) (sym (take-append-drop i items))
    ∙ ap has_double (map-append string_bytes (take i items) (drop i items))
    ∙ has_double-front (map string_bytes (take i items)) (map string_bytes (drop i items)) is

pub not-new : (is_new held : Bool) → is_new ≡ not held → is_new ≡ false → held ≡ true
not-new is_new true is old = refl
not-new is_new false is old = absurd (false≢true (sym old ∙ is))

pub new : (is_new held : Bool) → is_new ≡ not held → is_new ≡ true → held ≡ false
new is_new true is fresh = absurd (false≢true (sym is ∙ fresh))
new is_new false is fresh = refl

-- which texts are among the items, with one more
pub is_among-more : (items : List (String Global)) (i : ℕ) (item : String Global) (text : List ℕ) → i < length items
    → item ≡ get_or items i item
    → is_among text (map string_bytes (take (i + 1) items)) ≡
    (bytes_eq text (string_bytes item) || is_among text (map string_bytes (take i items)))
is_among-more items i item text below is =
    ap (is_among text) (with-one-more items i item below is)
    ∙ list_any-append (bytes_eq text) (map string_bytes (take i items)) (string_bytes item ∷ [])
    ∙ or_swap (is_among text (map string_bytes (take i items))) (bytes_eq text (string_bytes item))
