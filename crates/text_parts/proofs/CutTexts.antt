-- The two parts of a cut, with the mark between, are the text.
use Rattle.std.proofs.Common.{◌≡◌, ◌==◌, ℕ, ◌&&◌, List, [], ◌∷◌, ◌++◌, Option, Some, None, sym, ap, refl, ◌∙◌, inl, inr}
use Rattle.std.proofs.lemmas.Bool.{cases_Bool, and_parts, eqb-true}
use Rattle.std.specs.Option.{option_map}
use Rattle.text_parts.specs.Cuts.{Cut, cut_where}
use Rattle.text_parts.specs.Laws.{CutIsItsText}

abbrev joined : ℕ → Cut → List ℕ
joined mark cut = cut.before ++ mark ∷ cut.behind

-- the cut of a longer text
longer : (mark byte : ℕ) (rest : List ℕ) (found : Option Cut) (cut : Cut) → ((inner : Cut) → found ≡ Some inner → rest ≡ joined mark inner)
    → option_map (λ (inner : Cut). record { before = byte ∷ inner.before; behind = inner.behind }) found ≡ Some cut
    → byte ∷ rest ≡ joined mark cut
longer mark byte rest None cut known e = cc
longer mark byte rest (Some inner) cut known e =
    let is : cut ≡ record { before = byte ∷ inner.before; behind = inner.behind } = cc in
    ap (λ r. byte ∷ r) (known inner refl) ∙ ap (joined mark) (sym is)

pub cut_is_its_text : CutIsItsText
unfolding cut_where
cut_is_its_text mark test [] cut e = cc
cut_is_its_text mark test (byte ∷ rest) cut e = elim (cases_Bool (byte == mark && test rest)) [
  | inl h ↦
      let is_mark : byte ≡ mark = eqb-true byte mark (and_parts (byte == mark) (test rest) h).0 in
      let here = rw h at e in
      let is : cut ≡ record { before = []; behind = rest } = cc here in
      ap (λ b. b ∷ rest) is_mark ∙ ap (joined mark) (sym is)
  | inr h ↦
      let further = rw h at e in
      longer mark byte rest (cut_where mark test rest) cut (cut_is_its_text mark test rest) further
]
