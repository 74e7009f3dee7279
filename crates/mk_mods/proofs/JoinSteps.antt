-- Words joined one after another.
use Rattle.std.proofs.Common.{◌≡◌, Bool, true, false, ℕ, ◌+◌, ◌<◌, ◌≤◌, List, [], ◌∷◌, ◌++◌, length, get_or, drop, map, refl, sym, ap}
use Rattle.std.proofs.Common.{subst, ◌∙◌, arith, append_assoc, length-append, Option, Some, None}
use Rattle.std.specs.Prelude.{filter}
use Rattle.std.specs.List.{join_with_byte}
use Rattle.std.proofs.lemmas.List.{drop_more, drop-map}
use mathlib.Core.Bool.{beq}
use Rattle.mk_mods.specs.Applied.{keeps_word}
use Rattle.mk_text.specs.declared.word_spans.Span.{Span}
use Rattle.mk_text.specs.Words.{span_text}
use Rattle.mk_text.specs.declared.limits.TextFault.{TextFault}
use Rattle.mk_text.specs.declared.limits.TextFault.TheVariants as faults
use Rattle.mk_mods.specs.Joined.{joined, has_bytes, with_word, IsOverlong}
use Rattle.mk_text.specs.TextLimit.{IsTooLong}

-- words put after words that are joined
abbrev pub onto : List ℕ → List (List ℕ) → List ℕ
onto made [] = made
onto made (word ∷ words) = onto (with_word made word) words

with_word-grows : (made word : List ℕ) → length made ≤ length (with_word made word)
with_word-grows made [] = omega arith
with_word-grows [] (b ∷ word) = omega arith
with_word-grows (m ∷ made) (b ∷ word) = omega (arith, length-append (m ∷ made) (32 ∷ b ∷ word))

onto-grows : (made : List ℕ) (words : List (List ℕ)) → length made ≤ length (onto made words)
onto-grows made [] = omega arith
onto-grows made (word ∷ words) = omega (arith, with_word-grows made word, onto-grows (with_word made word) words)

join-front : (x y : List ℕ) (words : List (List ℕ)) → join_with_byte 32 ((x ++ y) ∷ words) ≡ x ++ join_with_byte 32 (y ∷ words)
join-front x y [] = refl
join-front x y (word ∷ words) = append_assoc x y (32 ∷ join_with_byte 32 (word ∷ words))

abbrev nonempty : List (List ℕ) → List (List ℕ)
nonempty words = filter has_bytes words

onto-made : (m : ℕ) (made : List ℕ) (words : List (List ℕ)) → onto (m ∷ made) words ≡ join_with_byte 32 ((m ∷ made) ∷ nonempty words)
onto-made m made [] = refl
onto-made m made ([] ∷ words) = onto-made m made words
onto-made m made ((b ∷ word) ∷ words) =
    onto-made m (made ++ 32 ∷ b ∷ word) words
    ∙ join-front (m ∷ made) (32 ∷ b ∷ word) (nonempty words)
    ∙ ap (λ l. (m ∷ made) ++ l) (join-front (32 ∷ []) (b ∷ word) (nonempty words))

onto-joined : (words : List (List ℕ)) → onto [] words ≡ joined words
onto-joined [] = refl
onto-joined ([] ∷ words) = onto-joined words
onto-joined ((b ∷ word) ∷ words) = onto-made b word words

-- words are joined as far as `made`, with `rest` to come; all of it is `whole`
pub record Joining (limit : ℕ) (whole made : List ℕ) (rest : List (List ℕ)) : Type 0 where
  pub small : length made ≤ limit
  pub goes : onto made rest ≡ whole

pub joining-none : (limit : ℕ) (words : List (List ℕ)) → Joining limit (joined words) [] words
joining-none limit words = record { small = omega arith; goes = onto-joined words }

pub joining-more : (limit : ℕ) (whole made made' word : List ℕ) (rest later : List (List ℕ))
    → Joining limit whole made rest → rest ≡ word ∷ later
    → length made' ≤ limit → made' ≡ with_word made word → Joining limit whole made' later
joining-more limit whole made made' word rest later so_far e small is =
    record { small = small; goes = ap (λ m. onto m later) is ∙ sym (ap (onto made) e) ∙ so_far.goes }

pub joining-same : (limit : ℕ) (whole made : List ℕ) (rest later : List (List ℕ)) → Joining limit whole made rest → rest ≡ later
    → Joining limit whole made later
joining-same limit whole made rest later so_far e = record { small = so_far.small; goes = sym (ap (onto made) e) ∙ so_far.goes }

pub joining-over : (limit : ℕ) (whole made word : List ℕ) (rest later : List (List ℕ)) → Joining limit whole made rest → rest ≡ word ∷ later
    → length (with_word made word) ≤ length whole
joining-over limit whole made word rest later so_far e =
    omega (arith, onto-grows (with_word made word) later, ap length (sym (ap (onto made) e) ∙ so_far.goes))

-- the next word, by its place
pub next-word : (text : List ℕ) (spans : List Span) (words : List (List ℕ)) (at : ℕ) (d : Span)
    → map (span_text text) spans ≡ words → at < length spans
    → drop at words ≡ span_text text (get_or spans at d) ∷ drop (at + 1) words
next-word text spans words at d is near =
    ap (drop at) (sym is) ∙ drop-map (span_text text) at spans ∙ ap (map (span_text text)) (drop_more spans at d near)
    ∙ ap (λ l. span_text text (get_or spans at d) ∷ l) (sym (drop-map (span_text text) (at + 1) spans) ∙ ap (drop (at + 1)) is)

-- what is at least as long as a text that is too long
pub too_long-over : (text whole : List ℕ) (fault : TextFault) → length text ≤ length whole → IsTooLong text fault → IsTooLong whole fault
too_long-over text whole faults.Length at_least long = omega arith
too_long-over text whole (faults.Memory _) at_least long = tt

-- what the comparison of a match with whether matches are wanted says
keeps_word-is : (matching is : Bool) → keeps_word matching is ≡ beq is matching
keeps_word-is true true = refl
keeps_word-is true false = refl
keeps_word-is false true = refl
keeps_word-is false false = refl

pub keeps_word-by : (found matching is : Bool) → found ≡ is → keeps_word matching is ≡ beq found matching
keeps_word-by found matching is e = keeps_word-is matching is ∙ ap (λ b. beq b matching) (sym e)

pub overlong-of : (made : Option (List ℕ)) (text : List ℕ) (fault : TextFault) → made ≡ Some text
    → IsTooLong text fault → IsOverlong made fault
overlong-of made text fault e long = subst (λ o. IsOverlong o fault) (sym e) long

with_word-covers : (made word : List ℕ) → length word ≤ length (with_word made word)
with_word-covers made [] = omega arith
with_word-covers [] (b ∷ word) = omega arith
with_word-covers (m ∷ made) (b ∷ word) = omega (arith, length-append (m ∷ made) (32 ∷ b ∷ word))

pub joining-covers : (limit : ℕ) (whole made word : List ℕ) (rest later : List (List ℕ))
    → Joining limit whole made rest → rest ≡ word ∷ later
    → length word ≤ length whole
joining-covers limit whole made word rest later so_far e =
    omega (arith, with_word-covers made word, joining-over limit whole made word rest later so_far e)

-- a whole that a text which wasn't made is part of
pub overlong-whole : (made : Option (List ℕ)) (whole : List ℕ) (fault : TextFault)
    → ((text : List ℕ) → made ≡ Some text → length text ≤ length whole)
    → IsOverlong made fault → IsTooLong whole fault
overlong-whole None whole fault part over = subst (IsTooLong whole) (sym over) tt
overlong-whole (Some text) whole fault part over = too_long-over text whole fault (part text refl) over
