-- Characters and signs that a text begins with, and the bytes that they take.
use Rattle.std.proofs.Common.{◌≡◌, ℕ, ◌+◌, ◌≤◌, eqb, List, [], ◌∷◌, ◌++◌, length, refl, ap, sym, ◌∙◌, arith, inl, inr, length-append}
use Rattle.std.proofs.lemmas.Bool.{cond-true, cond-false, eqb-true, ne_eqb, cases_Bool}
use Rattle.std.proofs.lemmas.Str.{chars_past_char, chars-nil, encodes-chars, length-encode, len_utf8_bounds}
use Rattle.std.specs.Str.{IsUtf8, chars}
use Rattle.std.specs.Char.{len_utf8}
use lib.Utf8.{encodes, encode}
use Rattle.mk_glob.specs.declared.pattern_signs.PatternSign.{PatternSign}
use Rattle.mk_glob.specs.declared.pattern_signs.PatternSign.TheVariants.{Bare, Plain}
use Rattle.mk_glob.specs.Signs.{signs, signs_of}
use Rattle.mk_glob.specs.FirstSigns.{width, BeginsWithChar, BeginsWithSign}
use Rattle.mk_glob.specs.Steps.{widths}

pub begins_with_char : (text : List ℕ) (c : ℕ) (behind now : List ℕ) → IsUtf8 text → IsUtf8 now → text ≡ encode c ++ behind → now ≡ behind
    → BeginsWithChar text c now
begins_with_char text c behind now utf8 left e same = record {
  reads = chars_past_char text behind c utf8 e ∙ ap (λ t. c ∷ chars t) (sym same);
  bytes = let n = ap length e in let m = ap length same in omega (arith, length-append (encode c) behind, length-encode c, n, m);
  is_text = left;
}

-- a backslash with a character after it
pub begins_with_plain : (text : List ℕ) (c : ℕ) (behind : List ℕ) (d : ℕ) (further : List ℕ) → c ≡ 92 → BeginsWithChar text c behind
    → BeginsWithChar behind d further → BeginsWithSign text (Plain d) further
unfolding signs_of
begins_with_plain text c behind d further e first second = record {
  reads =
      ap signs (first.reads ∙ ap (λ b. b ∷ chars behind) e ∙ ap (λ t. 92 ∷ t) second.reads);
  bytes =
      let n : len_utf8 c ≡ 1 = ap len_utf8 e in
      let a = first.bytes in let b = second.bytes in omega arith;
  is_text = second.is_text;
}

signs-bare : (c d : ℕ) (rest : List ℕ) → (c ≡ 92 → ⊥) → signs (c ∷ d ∷ rest) ≡ Bare c ∷ signs (d ∷ rest)
signs-bare c d rest ne = cond-false (eqb c 92) _ _ (ne_eqb c 92 ne)

signs_with : (c : ℕ) (rest : List ℕ) → (c ≡ 92 → ⊥) → signs (c ∷ rest) ≡ Bare c ∷ signs rest
signs_with c [] ne = refl
signs_with c (d ∷ rest) ne = signs-bare c d rest ne

-- a character that isn't a backslash
pub begins_with_bare : (text : List ℕ) (c : ℕ) (behind : List ℕ) → (c ≡ 92 → ⊥) → BeginsWithChar text c behind
    → BeginsWithSign text (Bare c) behind
unfolding signs_of
begins_with_bare text c behind ne first = record {
  reads = ap signs first.reads ∙ signs_with c (chars behind) ne;
  bytes = first.bytes;
  is_text = first.is_text;
}

-- a character with nothing after it
pub begins_with_last : (text : List ℕ) (c : ℕ) (behind : List ℕ) → behind ≡ [] → BeginsWithChar text c behind
    → BeginsWithSign text (Bare c) behind
unfolding signs_of
begins_with_last text c behind e first =
    let none : chars behind ≡ [] = ap chars e ∙ chars-nil in record {
      reads = ap signs (first.reads ∙ ap (λ t. c ∷ t) none) ∙ ap (λ t. Bare c ∷ signs t) (sym none);
      bytes = first.bytes;
      is_text = first.is_text;
    }

-- signs take the bytes of the characters
widths-signs : (cs : List ℕ) → widths (signs cs) ≡ length (encodes cs)
widths-signs [] = refl
widths-signs (c ∷ []) = omega (arith, length-append (encode c) [], length-encode c)
widths-signs (c ∷ d ∷ rest) = elim (cases_Bool (eqb c 92)) [
  | inl e ↦
      let same : widths (signs (c ∷ d ∷ rest)) ≡ len_utf8 d + 1 + widths (signs rest) = ap widths (cond-true (eqb c 92) _ _ e) in
      let one : len_utf8 c ≡ 1 = ap len_utf8 (eqb-true c 92 e) in
      omega (
        arith,
        same,
        one,
        widths-signs rest,
        length-append (encode c) (encode d ++ encodes rest),
        length-append (encode d)
            (encodes rest),
        length-encode c,
        length-encode d,
      )
  | inr e ↦
      let same : widths (signs (c ∷ d ∷ rest)) ≡ len_utf8 c + widths (signs (d ∷ rest)) = ap widths (cond-false (eqb c 92) _ _ e) in
      omega (arith, same, widths-signs (d ∷ rest), length-append (encode c) (encodes (d ∷ rest)), length-encode c)
]

pub widths-signs_of : (text : List ℕ) → IsUtf8 text → widths (signs_of text) ≡ length text
unfolding signs_of
widths-signs_of text utf8 = widths-signs (chars text) ∙ ap length (encodes-chars text utf8)

pub width_positive : (sign : PatternSign) → 1 ≤ width sign
width_positive (Bare c) = (len_utf8_bounds c).0
width_positive (Plain c) = omega arith

pub widths-append : (front rest : List PatternSign) → widths (front ++ rest) ≡ widths front + widths rest
widths-append [] rest = omega arith
widths-append (sign ∷ front) rest = omega (arith, widths-append front rest)

pub signs_of-empty : (text : List ℕ) → text ≡ [] → signs_of text ≡ []
unfolding signs_of
signs_of-empty text e = ap signs (ap chars e ∙ chars-nil)

pub chars-empty : (text : List ℕ) → text ≡ [] → chars text ≡ []
chars-empty text e = ap chars e ∙ chars-nil
