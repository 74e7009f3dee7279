-- Marks cut before a character, one on.
use Rattle.std.proofs.Common.{◌≡◌, ℕ, ◌++◌, true, false, List, [], ◌∷◌, sym, ap, ap₂, ◌∙◌, append_assoc, append-nil}
use Rattle.std.proofs.lemmas.Bool.{cond-true, cond-false}
use Rattle.mk_mods.specs.Marks.{TextMark, is_char}
use Rattle.mk_mods.specs.Grammar.{cut_before}

-- a cut of which these marks were passed before
abbrev pub cut_after : List TextMark → List TextMark × List TextMark → List TextMark × List TextMark
cut_after front cut = (front ++ cut.0, cut.1)

pub cut-more : (c : ℕ) (whole : List TextMark × List TextMark) (front front' : List TextMark) (mark : TextMark) (rest marks : List TextMark)
    → whole ≡ cut_after front (cut_before c rest) → rest ≡ mark ∷ marks → is_char c mark ≡ false → front' ≡ front ++ mark ∷ []
    → whole ≡ cut_after front' (cut_before c marks)
cut-more c whole front front' mark rest marks so_far next other is =
    let later = cut_before c marks in
    so_far ∙ ap (λ l. cut_after front (cut_before c l)) next
    ∙ ap (cut_after front) (cond-false (is_char c mark) ([], mark ∷ marks) (mark ∷ later.0, later.1) other)
    ∙ ap (λ l. (l, later.1)) (sym (append_assoc front (mark ∷ []) later.0) ∙ ap (λ l. l ++ later.0) (sym is))

pub cut-here : (c : ℕ) (whole : List TextMark × List TextMark) (front : List TextMark) (mark : TextMark) (rest marks : List TextMark)
    → whole ≡ cut_after front (cut_before c rest) → rest ≡ mark ∷ marks → is_char c mark ≡ true → whole ≡ (front, rest)
cut-here c whole front mark rest marks so_far next is =
    let later = cut_before c marks in
    so_far ∙ ap (λ l. cut_after front (cut_before c l)) next
    ∙ ap (cut_after front) (cond-true (is_char c mark) ([], mark ∷ marks) (mark ∷ later.0, later.1) is)
    ∙ ap₂ (λ l m. (l, m)) (append-nil front) (sym next)

pub cut-end : (c : ℕ) (whole : List TextMark × List TextMark) (front rest : List TextMark) → whole ≡ cut_after front (cut_before c rest)
    → rest ≡ [] → whole ≡ (front, [])
cut-end c whole front rest so_far none = so_far ∙ ap (λ l. cut_after front (cut_before c l)) none ∙ ap (λ l. (l, [])) (append-nil front)
