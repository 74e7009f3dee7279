-- Signs are read one after another, up to the delimiter.
use Rattle.std.proofs.Common.{◌≡◌, ◌≢◌, ◌∙◌, ap, refl, sym, ℕ, ◌-◌, Bool, true, false, cond, ◌&&◌, ◌==◌, List, [], ◌∷◌, Option, Some, None}
use Rattle.std.proofs.Common.{option_map}
use Rattle.std.proofs.lemmas.Bool.{eq-eqb, ne_eqb, eqb-true}
use Rattle.mk_mods.specs.Marks.{TextMark, Char, EscapedDollar, Written, is_char}
use Rattle.mk_mods.specs.Signs.{TextSign, Plain, sign_of, is_escapable, escaped, or_alone, sign_at, sign_before, signs_from, BeginsNoEscape}
use Rattle.mk_mods.specs.Signs.{SignsAreReadInTurn}

-- what is read from a sign on
abbrev after_sign : ℕ → List TextMark → TextSign × ℕ → Option (List TextSign × List TextMark)
after_sign delimiter marks sign = option_map (sign_before sign.0) (signs_from (sign.1 - 1) delimiter marks)

not_delimiter : (delimiter : ℕ) (mark : TextMark) → mark ≢ Char delimiter → is_char delimiter mark ≡ false
not_delimiter delimiter (Char c) other = ne_eqb c delimiter (λ same. other (ap Char same))
not_delimiter delimiter EscapedDollar other = refl
not_delimiter delimiter (Written source) other = refl

not_escaped : (delimiter : ℕ) (mark next : TextMark) (marks : List TextMark) → BeginsNoEscape delimiter mark (next ∷ marks)
    → escaped delimiter mark next ≡ None
not_escaped delimiter (Char b) (Char c) marks apart = by (b == 92) refl
  where
    by : (back : Bool) → (b == 92) ≡ back → escaped delimiter (Char b) (Char c) ≡ None
    by true is =
        ap (λ t. cond (t && is_escapable delimiter c) (Some (Plain c)) None) is
        ∙ ap (λ t. cond t (Some (Plain c)) None) (apart c marks (ap Char (eqb-true b 92 is)) refl)
    by false is = ap (λ t. cond (t && is_escapable delimiter c) (Some (Plain c)) None) is
not_escaped delimiter (Char b) EscapedDollar marks apart = refl
not_escaped delimiter (Char b) (Written source) marks apart = refl
not_escaped delimiter EscapedDollar next marks apart = refl
not_escaped delimiter (Written source) next marks apart = refl

alone_at : (delimiter : ℕ) (mark : TextMark) (marks : List TextMark) → BeginsNoEscape delimiter mark marks
    → sign_at delimiter mark marks ≡ (sign_of mark, 1)
alone_at delimiter mark [] apart = refl
alone_at delimiter mark (next ∷ marks) apart = ap (or_alone mark) (not_escaped delimiter mark next marks apart)

pub read_in_turn : SignsAreReadInTurn
read_in_turn = record {
  ended = λ delimiter rest. ap (λ t. cond t (Some ([], rest)) (after_sign delimiter rest (sign_at delimiter (Char delimiter) rest)))
      (eq-eqb delimiter delimiter refl);
  escape = λ delimiter c marks other is.
      ap (λ t. cond t (Some ([], Char c ∷ marks)) (after_sign delimiter (Char c ∷ marks) (sign_at delimiter (Char 92) (Char c ∷ marks))))
      (ne_eqb 92 delimiter (λ same. other (sym same)))
      ∙ ap (λ t. after_sign delimiter (Char c ∷ marks) (or_alone (Char 92) (cond t (Some (Plain c)) None))) is;
  alone = λ delimiter mark marks other apart.
      ap (λ t. cond t (Some ([], marks)) (after_sign delimiter marks (sign_at delimiter mark marks))) (not_delimiter delimiter mark other)
      ∙ ap (after_sign delimiter marks) (alone_at delimiter mark marks apart);
  none = λ delimiter. refl;
}
