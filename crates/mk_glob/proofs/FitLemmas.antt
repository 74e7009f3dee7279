-- The test of a word against items, and where the word can be cut.
use Rattle.std.proofs.Common.{◌≡◌, ℕ, Bool, true, false, List, [], ◌∷◌, ◌++◌, refl, ap, sym, ◌∙◌, subst, inl, inr}
use Rattle.std.specs.List.{concat}
use Rattle.std.specs.Prelude.{◌↔◌, IsTrue}
use Rattle.std.specs.Str.{chars}
use Rattle.std.proofs.lemmas.Bool.{or_cases, or_left, or_right, and_parts, and_from, false≢true}
use Rattle.mk_glob.specs.Items.{Item, any_run, one_of, Range, admits, items_of}
use Rattle.mk_glob.specs.Matcher.{EachAllows, Fits, some_end, fits_items, fits}
use Rattle.mk_glob.specs.Laws.{FitsWhereCut}

pub some_end-whole : (test : List ℕ → Bool) (word : List ℕ) → test word ≡ true → some_end test word ≡ true
some_end-whole test [] h = h
some_end-whole test (c ∷ rest) h = or_left (test (c ∷ rest)) (some_end test rest) h

pub some_end-later : (test : List ℕ → Bool) (c : ℕ) (word : List ℕ) → some_end test word ≡ true → some_end test (c ∷ word) ≡ true
some_end-later test c word h = or_right (test (c ∷ word)) (some_end test word) h

some_end-after : (test : List ℕ → Bool) (front word : List ℕ) → some_end test word ≡ true → some_end test (front ++ word) ≡ true
some_end-after test [] word h = h
some_end-after test (c ∷ front) word h = some_end-later test c (front ++ word) (some_end-after test front word h)

-- an end of an end is an end
pub some_end-twice : (test : List ℕ → Bool) (word : List ℕ) → some_end (some_end test) word ≡ true → some_end test word ≡ true
some_end-twice test [] h = h
some_end-twice test (c ∷ rest) h = elim (or_cases (some_end test (c ∷ rest)) (some_end (some_end test) rest) h) [
  | inl here ↦ here
  | inr later ↦ some_end-later test c rest (some_end-twice test rest later)
]

-- if an end fits an item of one character and more, an end of what follows the first character fits what follows the item
pub some_end-one : (negated : Bool) (ranges : List Range) (items : List Item) (c : ℕ) (word : List ℕ)
    → some_end (fits_items (one_of negated ranges ∷ items)) (c ∷ word) ≡ true → some_end (fits_items items) word ≡ true
some_end-one negated ranges items c [] h = elim (or_cases (fits_items (one_of negated ranges ∷ items) (c ∷ [])) false h) [
  | inl here ↦ (and_parts (admits negated ranges c) (fits_items items []) here).1
  | inr later ↦ absurd (false≢true later)
]
some_end-one negated ranges items c (d ∷ word) h =
    elim (or_cases (fits_items (one_of negated ranges ∷ items) (c ∷ d ∷ word))
    (some_end (fits_items (one_of negated ranges ∷ items)) (d ∷ word)) h) [
      | inl here ↦ some_end-whole (fits_items items) (d ∷ word) (and_parts (admits negated ranges c) (fits_items items (d ∷ word)) here).1
      | inr later ↦ some_end-later (fits_items items) d word (some_end-one negated ranges items d word later)
    ]

-- an end that passes, and what is before it
end_at : (test : List ℕ → Bool) (word : List ℕ) → some_end test word ≡ true
    → (front : List ℕ) × (rest : List ℕ) × (word ≡ front ++ rest) × (test rest ≡ true)
end_at test [] h = ([], [], refl, h)
end_at test (c ∷ word) h = elim (or_cases (test (c ∷ word)) (some_end test word) h) [
  | inl here ↦ ([], c ∷ word, refl, here)
  | inr later ↦ let at = end_at test word later in (c ∷ at.0, at.1, ap (λ t. c ∷ t) at.2, at.3)
]

cut_where_fits : (items : List Item) (word : List ℕ) → fits_items items word ≡ true → Fits items word
unfolding Fits
cut_where_fits [] [] h = ([], refl, tt)
cut_where_fits [] (c ∷ word) h = absurd (false≢true h)
cut_where_fits (any_run ∷ items) word h =
    let at = end_at (fits_items items) word h in
    let cut = cut_where_fits items at.1 at.3 in
    (at.0 ∷ cut.0, at.2 ∙ ap (λ t. at.0 ++ t) cut.1, (tt, cut.2))
cut_where_fits (one_of negated ranges ∷ items) [] h = absurd (false≢true h)
cut_where_fits (one_of negated ranges ∷ items) (c ∷ word) h =
    let both = and_parts (admits negated ranges c) (fits_items items word) h in
    let cut = cut_where_fits items word both.1 in
    ((c ∷ []) ∷ cut.0, ap (λ t. c ∷ t) cut.1, ((c, refl, both.0), cut.2))

fits_where_each : (items : List Item) (parts : List (List ℕ)) → EachAllows items parts → fits_items items (concat parts) ≡ true
fits_where_each [] [] each = refl
fits_where_each [] (part ∷ parts) each = absurd each
fits_where_each (item ∷ items) [] each = absurd each
fits_where_each (any_run ∷ items) (part ∷ parts) each =
    some_end-after (fits_items items) part (concat parts)
    (some_end-whole (fits_items items) (concat parts) (fits_where_each items parts each.1))
fits_where_each (one_of negated ranges ∷ items) (part ∷ parts) each =
    let P : List ℕ → Type 0 = λ t. fits_items (one_of negated ranges ∷ items) (t ++ concat parts) ≡ true in
    let c = each.0.0 in
    subst P (sym each.0.1) (and_from (admits negated ranges c) (fits_items items (concat parts)) each.0.2
    (fits_where_each items parts each.1))

pub fits_items_where_cut : (items : List Item) (word : List ℕ) → IsTrue (fits_items items word) ↔ Fits items word
unfolding Fits
fits_items_where_cut items word = (
  cut_where_fits items word,
  λ cut. let P : List ℕ → Type 0 = λ t. fits_items items t ≡ true in subst P (sym cut.1) (fits_where_each items cut.0 cut.2),
)

pub fits_where_cut : FitsWhereCut
unfolding fits
fits_where_cut pattern word = fits_items_where_cut (items_of pattern) (chars word)
