-- The elements of a text, by its first comma.
use Rattle.std.proofs.Common.{◌≡◌, ◌∙◌, ap, sym, refl, ℕ, ◌+◌, ◌<◌, suc, not, Bool, true, false, cond, eqb, List, [], ◌∷◌, length, arith}
use Rattle.std.proofs.lemmas.List.Splits.{slice_split-cons_no, slice_split_first}
use Rattle.std.specs.List.{slice_split, position_or_len, before_first, after_first, onto_first}
use Rattle.pkg_path.specs.Paths.{elements_of}

abbrev pub is_comma : ℕ → Bool
is_comma = λ byte. eqb byte 44

whole_from : (byte : ℕ) (text : List ℕ) (b : Bool) → eqb byte 44 ≡ b
    → cond (not b) (1 + position_or_len is_comma text) 0 ≡ suc (length text)
    → (position_or_len is_comma text ≡ length text → slice_split is_comma text ≡ text ∷ [])
    → slice_split is_comma (byte ∷ text) ≡ (byte ∷ text) ∷ []
whole_from byte text true is far rest = absurd (omega arith)
whole_from byte text false is far rest = slice_split-cons_no is_comma byte text is ∙ ap (onto_first byte) (rest (omega arith))

whole : (text : List ℕ) → position_or_len is_comma text ≡ length text → slice_split is_comma text ≡ text ∷ []
whole [] none = refl
whole (byte ∷ text) none = whole_from byte text (eqb byte 44) refl none (whole text)

-- a text without a comma is its only element
pub without_comma : (text : List ℕ) → position_or_len (λ byte. eqb byte 44) text ≡ length text → text ∷ [] ≡ elements_of text
without_comma text none = sym (whole text none)

-- the first comma ends the first element
pub at_comma : (text directory choices : List ℕ) → position_or_len (λ byte. eqb byte 44) text < length text
    → directory ≡ before_first (λ byte. eqb byte 44) text → choices ≡ after_first (λ byte. eqb byte 44) text
    → directory ∷ slice_split (λ byte. eqb byte 44) choices ≡ elements_of text
at_comma text directory choices there is_directory are_choices =
    (λ i. is_directory i ∷ slice_split is_comma (are_choices i)) ∙ sym (slice_split_first is_comma text 0 there)
