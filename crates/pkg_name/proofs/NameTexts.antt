-- The text of a name that was split is the text that was split.
use Rattle.std.proofs.Common.{◌≡◌, ◌==◌, ℕ, true, ◌&&◌, List, [], ◌∷◌, ◌++◌, Option, Some, None, sym, ap, refl, ◌∙◌, inl, inr, append-nil}
use Rattle.std.proofs.lemmas.Bool.{cases_Bool}
use Rattle.std.proofs.lemmas.List.Splits.{join_with_byte-slice_split}
use Rattle.std.specs.Option.{option_and_then}
use Rattle.std.specs.List.{list_all, slice_split, flat_map, join_with_byte}
use Rattle.pkg_name.specs.Version.{begins_with_digit, is_version}
use Rattle.text_parts.specs.Cuts.{Cut}
use Rattle.text_parts.proofs.CutTexts.{cut_is_its_text}
use Rattle.pkg_name.specs.Name.{NameParts, IsName, at_version, name_of, name_if, name_text, split_name, is_stem_or_flavor}
use Rattle.general_facts.specs.Ascii.{dash}
use Rattle.pkg_name.specs.Laws.{NameIsItsText}

-- words with dashes between them, after a dash
words_joined : (first : List ℕ) (words : List (List ℕ)) → flat_map (λ word. dash ∷ word) (first ∷ words) ≡ dash ∷
    join_with_byte dash (first ∷ words)
words_joined first [] = ap (λ l. dash ∷ l) (append-nil first)
words_joined first (next ∷ words) = ap (λ rest. dash ∷ (first ++ rest)) (words_joined next words)

-- the text of a name made of a stem and words
named : (stem : List ℕ) (words : List (List ℕ)) (parts : NameParts) → name_of stem words ≡ Some parts
    → name_text parts ≡ stem ++ dash ∷ join_with_byte dash words
named stem [] parts e = cc
named stem (version ∷ flavors) parts e =
    elim (cases_Bool (is_stem_or_flavor stem && is_version version && list_all is_stem_or_flavor flavors)) [
      | inl h ↦
          let here = rw h at e in
          let is : parts ≡ record { stem = stem; version = version; flavors = flavors } = cc here in
          ap name_text is ∙ ap (λ rest. stem ++ rest) (words_joined version flavors)
      | inr h ↦ let here = rw h at e in cc here
    ]

-- the same, for a text that is cut or not
split_text : (text : List ℕ) (found : Option Cut) (parts : NameParts) → at_version text ≡ found
    → option_and_then (λ cut. name_of cut.before (slice_split (λ byte. byte == dash) cut.behind)) found ≡ Some parts
    → name_text parts ≡ text
split_text text None parts is e = cc
split_text text (Some cut) parts is e =
    named cut.before (slice_split (λ byte. byte == dash) cut.behind) parts e
    ∙ ap (λ behind. cut.before ++ dash ∷ behind) (join_with_byte-slice_split dash cut.behind)
    ∙ sym (cut_is_its_text dash begins_with_digit text cut is)

pub name_is_its_text : NameIsItsText
name_is_its_text text parts e = split_text text (at_version text) parts refl e

-- a name that was split is one that its text is split into
pub split-IsName : (text : List ℕ) (parts : NameParts) → split_name text ≡ Some parts → IsName parts
split-IsName text parts e = record { itself = ap split_name (name_is_its_text text parts e) ∙ e }

-- a text that is cut is the name of what is before the dash and the words after it
pub split_is : (text stem behind : List ℕ) (words : List (List ℕ)) → at_version text ≡ Some (record { before = stem; behind = behind })
    → words ≡ slice_split (λ byte. byte == dash) behind → split_name text ≡ name_of stem words
split_is text stem behind words cut are_words =
    ap (option_and_then (λ (cut : Cut). name_of cut.before (slice_split (λ byte. byte == dash) cut.behind))) cut
    ∙ ap (name_of stem) (sym are_words)

-- the name that is read: of what is before the dash, and the version and the flavors after it
pub name_read : (text stem behind version : List ℕ) (words flavors : List (List ℕ)) (parts : NameParts)
    → at_version text ≡ Some (record { before = stem; behind = behind }) → words ≡ slice_split (λ byte. byte == dash) behind
    → name_of stem words ≡ name_if (is_version version) stem version flavors → is_version version ≡ true
    → parts.stem ≡ stem → parts.version ≡ version → parts.flavors ≡ flavors → split_name text ≡ Some parts
name_read text stem behind version words flavors parts cut are_words named known is_stem is_version_text is_flavors =
    split_is text stem behind words cut are_words ∙ named
    ∙ ap (λ are_parts. name_if are_parts stem version flavors) known
    ∙ (λ i. Some (record { stem = sym is_stem i; version = sym is_version_text i; flavors = sym is_flavors i }))
