-- Signs read from marks, and what they mean, one on.
use Rattle.std.proofs.Common.{◌≡◌, ℕ, zero, suc, ◌+◌, ◌-◌, ◌≤◌, ◌++◌, true, false, List, [], ◌∷◌, length, drop, Option, Some, None}
use Rattle.std.proofs.Common.{option_map, refl, sym, ap, subst, ◌∙◌, arith, append_assoc, append-nil}
use Rattle.std.proofs.lemmas.Bool.{cond-true, cond-false}
use Rattle.std.proofs.lemmas.List.{drop-drop}
use Rattle.mk_mods.specs.Marks.{TextMark, is_char}
use Rattle.mk_mods.specs.Signs.{TextSign, sign_at, or_alone, escaped, sign_before, signs_from, is_bare, without_end}

-- signs that were read before
abbrev pub signs_after : List TextSign → List TextSign × List TextMark → List TextSign × List TextMark
signs_after front read = (front ++ read.0, read.1)

-- where reading marks as far as a place gave these signs, and the rest is read from there
abbrev pub ReadAs : ℕ → List TextMark → List TextSign → ℕ → Type 0
ReadAs delimiter marks front at = signs_from zero delimiter marks ≡ option_map (signs_after front)
    (signs_from zero delimiter (drop at marks))

same : (o : Option (List TextSign × List TextMark)) → o ≡ option_map (signs_after []) o
same None = refl
same (Some read) = refl

one_more : (front : List TextSign) (sign : TextSign) (o : Option (List TextSign × List TextMark))
    → option_map (signs_after front) (option_map (sign_before sign) o) ≡ option_map (signs_after (front ++ sign ∷ [])) o
one_more front sign None = refl
one_more front sign (Some read) = ap (λ l. Some (l, read.1)) (sym (append_assoc front (sign ∷ []) read.0))

signs_from-drop : (left delimiter : ℕ) (marks : List TextMark) → signs_from left delimiter marks ≡ signs_from zero
    delimiter (drop left marks)
signs_from-drop zero delimiter marks = refl
signs_from-drop (suc left) delimiter [] = refl
signs_from-drop (suc left) delimiter (mark ∷ marks) = signs_from-drop left delimiter marks

or_alone-width : (mark : TextMark) (o : Option TextSign) → (1 ≤ (or_alone mark o).1) × ((or_alone mark o).1 ≤ 2)
or_alone-width mark None = (omega arith, omega arith)
or_alone-width mark (Some plain) = (omega arith, omega arith)

-- a sign is made of one mark at least, and of no more than there are
pub sign_at-width : (delimiter : ℕ) (mark : TextMark) (marks : List TextMark) → (1 ≤ (sign_at delimiter mark marks).1)
    × ((sign_at delimiter mark marks).1 ≤ length marks + 1)
sign_at-width delimiter mark [] = (omega arith, omega arith)
sign_at-width delimiter mark (next ∷ marks) =
    let both = or_alone-width mark (escaped delimiter mark next) in (both.0, omega (arith, both.1))

pub read-more : (delimiter : ℕ) (marks : List TextMark) (front : List TextSign) (at : ℕ) (mark : TextMark) (sign : TextSign) (width : ℕ)
    → ReadAs delimiter marks front at
    → drop at marks ≡ mark ∷ drop (at + 1) marks → is_char delimiter mark ≡ false
    → (sign, width) ≡ sign_at delimiter mark (drop (at + 1) marks)
    → ReadAs delimiter marks (front ++ sign ∷ []) (at + width)
read-more delimiter marks front at mark sign width so_far next other is =
    let rest = drop (at + 1) marks in
    let found = sign_at delimiter mark rest in
    let wide : 1 ≤ width = subst (λ s. 1 ≤ s.1) (sym is) (sign_at-width delimiter mark rest).0 in
    let place : (at + 1) + (width - 1) ≡ at + width = omega arith in
    so_far
    ∙ ap (λ l. option_map (signs_after front) (signs_from zero delimiter l)) next
    ∙ ap (option_map (signs_after front)) (cond-false (is_char delimiter mark) (Some ([], rest))
    (option_map (sign_before found.0) (signs_from (found.1 - 1) delimiter rest)) other)
    ∙ ap (λ s. option_map (signs_after front) (option_map (sign_before s.0) (signs_from (s.1 - 1) delimiter rest))) (sym is)
    ∙ ap (λ o. option_map (signs_after front) (option_map (sign_before sign) o)) (signs_from-drop (width - 1) delimiter rest
    ∙ ap (signs_from zero delimiter) (drop-drop (width - 1) (at + 1) marks ∙ ap (λ n. drop n marks) place))
    ∙ one_more front sign (signs_from zero delimiter (drop (at + width) marks))

pub read-all : (delimiter : ℕ) (marks : List TextMark) (front : List TextSign) (at : ℕ) (mark : TextMark) → ReadAs delimiter marks front at
    → drop at marks ≡ mark ∷ drop (at + 1) marks
    → is_char delimiter mark ≡ true → signs_from zero delimiter marks ≡ Some (front, drop (at + 1) marks)
read-all delimiter marks front at mark so_far next same =
    let rest = drop (at + 1) marks in
    let found = sign_at delimiter mark rest in
    so_far
    ∙ ap (λ l. option_map (signs_after front) (signs_from zero delimiter l)) next
    ∙ ap (option_map (signs_after front))
    (cond-true (is_char delimiter mark) (Some ([], rest)) (option_map (sign_before found.0) (signs_from (found.1 - 1) delimiter rest))
    same)
    ∙ ap (λ l. Some (l, rest)) (append-nil front)

-- signs that end in one, with the anchor or without it
pub without_end-anchor : (front : List TextSign) (last : TextSign) → is_bare 36 last ≡ true
    → without_end (front ++ last ∷ []) ≡ (true, front)
without_end-anchor [] last is = cond-true (is_bare 36 last) (true, []) (false, last ∷ []) is
without_end-anchor (x ∷ []) last is = ap (λ r. (r.0, x ∷ r.1)) (without_end-anchor [] last is)
without_end-anchor (x ∷ y ∷ front) last is = ap (λ r. (r.0, x ∷ r.1)) (without_end-anchor (y ∷ front) last is)

pub without_end-plain : (front : List TextSign) (last : TextSign) → is_bare 36 last ≡ false → without_end (front ++ last ∷ []) ≡
    (false, front ++ last ∷ [])
without_end-plain [] last is = cond-false (is_bare 36 last) (true, []) (false, last ∷ []) is
without_end-plain (x ∷ []) last is = ap (λ r. (r.0, x ∷ r.1)) (without_end-plain [] last is)
without_end-plain (x ∷ y ∷ front) last is = ap (λ r. (r.0, x ∷ r.1)) (without_end-plain (y ∷ front) last is)
