-- What `trim_start_matches` and `trim_end_matches` give at blanks.
use Rattle.std.proofs.Common.{◌≡◌, ℕ, ◌-◌, ◌<◌, ◌≤◌, Bool, true, false, ◌||◌, eqb, ◌⊎◌, ⊎_elim, inl, inr, List, [], ◌∷◌, ◌++◌, reverse}
use Rattle.std.proofs.Common.{length, take, drop, Option, Some, None, IfSome, refl, sym, ap, ap₂, subst, ◌∙◌, arith, take-append-drop}
use Rattle.std.proofs.Common.{eqb-true, eq-eqb, ne_eqb}
use Rattle.std.proofs.Math.Seq.{drop-length}
use Rattle.std.proofs.lemmas.Bool.{cases_Bool, cases_eq, both_ways, or_cases, cond-true, cond-false}
use Rattle.std.proofs.lemmas.List.{length-reverse, reverse-append, reverse-reverse}
use Rattle.std.proofs.lemmas.Str.{encode_ascii, len_utf8_bounds}
use Rattle.std.proofs.lemmas.Str.Pattern.{drop_at_char}
use Rattle.std.specs.Char.{IsScalar, char_set_contains}
use Rattle.std.specs.Str.Pattern.{FindsPrefixBy, FindsSuffixBy, HasPassingCharAt, CutsPrefixes, CutsSuffixes, IsTrimStartMatches}
use Rattle.std.specs.Str.Pattern.{IsTrimEndMatches}
use Rattle.std.proofs.Math.Bool.{or-false}
use Rattle.mk_text.specs.Blanks.{is_blank, skip_blanks, trim_blanks}

flip : (a b : ℕ) → eqb a b ≡ eqb b a
flip a b =
    ⊎_elim (λ e. eq-eqb a b e ∙ sym (eq-eqb b a (sym e)))
    (λ n. ne_eqb a b n ∙ sym (ne_eqb b a (λ e. n (sym e))))
    (cases_eq a b)

-- the blanks as the list of characters that the code has
pub blank_set : (c : ℕ) → char_set_contains (32 ∷ 9 ∷ []) c ≡ is_blank c
blank_set c = ap₂ (λ x y. x || y) (flip 32 c) (or-false (eqb 9 c) ∙ flip 9 c)

pub blank_is : (c : ℕ) → is_blank c ≡ true → (c ≡ 32) ⊎ (c ≡ 9)
blank_is c h = ⊎_elim (λ t. inl (eqb-true c 32 t)) (λ t. inr (eqb-true c 9 t)) (or_cases (eqb c 32) (eqb c 9) h)

pub blank_below : (c : ℕ) → is_blank c ≡ true → c < 128
blank_below c h = ⊎_elim (λ e. omega arith) (λ e. omega arith) (blank_is c h)

blank_scalar : (c : ℕ) → is_blank c ≡ true → IsScalar c
blank_scalar c h = ⊎_elim (λ e. subst (λ x. IsScalar x) (sym e) refl) (λ e. subst (λ x. IsScalar x) (sym e) refl) (blank_is c h)

skip_more : (b : ℕ) (rest : List ℕ) → is_blank b ≡ true → skip_blanks (b ∷ rest) ≡ skip_blanks rest
skip_more b rest h = cond-true (is_blank b) (skip_blanks rest) (b ∷ rest) h

skip_stops : (b : ℕ) (rest : List ℕ) → is_blank b ≡ false → skip_blanks (b ∷ rest) ≡ b ∷ rest
skip_stops b rest h = cond-false (is_blank b) (skip_blanks rest) (b ∷ rest) h

-- what the pattern of the two blanks says of a front, and of an end
abbrev pub Prefixes : List ℕ → Option ℕ → Type 0
Prefixes s r = (k : ℕ → Bool) → ((c : ℕ) → char_set_contains (32 ∷ 9 ∷ []) c ≡ k c) → FindsPrefixBy k s r

abbrev pub Suffixes : List ℕ → Option ℕ → Type 0
Suffixes s r = (k : ℕ → Bool) → ((c : ℕ) → char_set_contains (32 ∷ 9 ∷ []) c ≡ k c) → FindsSuffixBy k s r

-- cutting blanks off the front keeps what is left without its leading blanks
skip_cut : (s r : List ℕ) (ns : List ℕ) → CutsPrefixes Prefixes s ns r → skip_blanks s ≡ skip_blanks r
skip_cut s r [] h = ap skip_blanks (sym h)
skip_cut s r (n ∷ ns) h =
    let p : HasPassingCharAt is_blank h.0 0 n = h.2 is_blank blank_set in
    let front : h.0 ≡ p.0 ∷ drop n h.0 = drop_at_char p.0 h.0 0 n p.2 (blank_below p.0 p.1) in
    skip_cut s h.0 ns h.1 ∙ ap skip_blanks front ∙ skip_more p.0 (drop n h.0) p.1 ∙ ap skip_blanks (sym h.3)

skip_done : (r : List ℕ) (o : Option ℕ) → Prefixes r o → IfSome o (λ n. n ≡ 0) → skip_blanks r ≡ r
skip_done [] o gives none = refl
skip_done (b ∷ rest) None gives none =
    ⊎_elim
    (λ t. absurd (both_ways (is_blank b)
    (gives is_blank blank_set b rest (blank_scalar b t) (ap (λ l. l ++ rest) (sym (encode_ascii b (blank_below b t))))) t))
    (λ f. skip_stops b rest f)
    (cases_Bool (is_blank b))
skip_done (b ∷ rest) (Some n) gives none =
    let p : HasPassingCharAt is_blank (b ∷ rest) 0 n = gives is_blank blank_set in
    absurd (omega (arith, p.2.ends, len_utf8_bounds p.0))

-- `trim_start_matches`
pub skip_trimmed : (s r : List ℕ) → IsTrimStartMatches Prefixes s r → r ≡ skip_blanks s
skip_trimmed s r h = sym (skip_cut s r h.0.0 h.0.1 ∙ skip_done r h.1.0 h.1.1 h.1.2)

-- the same from the end
end_of : (s : List ℕ) (c n : ℕ) → drop (length s - n) s ≡ c ∷ drop (length s) s → s ≡ take (length s - n) s ++ c ∷ []
end_of s c n e = sym (take-append-drop (length s - n) s) ∙ ap (λ l. take (length s - n) s ++ l) (e ∙ ap (λ l. c ∷ l) (drop-length s))

back_cut : (s r : List ℕ) (ns : List ℕ) → CutsSuffixes Suffixes s ns r → skip_blanks (reverse s) ≡ skip_blanks (reverse r)
back_cut s r [] h = ap (λ l. skip_blanks (reverse l)) (sym h)
back_cut s r (n ∷ ns) h =
    let p : HasPassingCharAt is_blank h.0 (length h.0 - n) (length h.0) = h.2 is_blank blank_set in
    let front : List ℕ = take (length h.0 - n) h.0 in
    let back : h.0 ≡ front ++ p.0 ∷ [] = end_of h.0 p.0 n (drop_at_char p.0 h.0 (length h.0 - n) (length h.0) p.2 (blank_below p.0 p.1)) in
    let turned : reverse h.0 ≡ p.0 ∷ reverse front = ap reverse back ∙ reverse-append front (p.0 ∷ []) in
    back_cut s h.0 ns h.1 ∙ ap skip_blanks turned ∙ skip_more p.0 (reverse front) p.1 ∙ ap (λ l. skip_blanks (reverse l)) (sym h.3)

back_done : (q r : List ℕ) → r ≡ reverse q → (o : Option ℕ) → Suffixes r o → IfSome o (λ n. n ≡ 0) → skip_blanks q ≡ q
back_done [] r e o gives none = refl
back_done (b ∷ rest) r e None gives none =
    ⊎_elim
    (λ t. absurd (both_ways (is_blank b) (gives is_blank blank_set b (reverse rest) (blank_scalar b t)
    (e ∙ reverse-append (b ∷ []) rest ∙ ap (λ l. reverse rest ++ l) (sym (encode_ascii b (blank_below b t))))) t))
    (λ f. skip_stops b rest f)
    (cases_Bool (is_blank b))
back_done (b ∷ rest) r e (Some n) gives none =
    let p : HasPassingCharAt is_blank r (length r - n) (length r) = gives is_blank blank_set in
    absurd (omega (arith, p.2.ends, len_utf8_bounds p.0))

-- `trim_end_matches`
pub back_trimmed : (s r : List ℕ) → IsTrimEndMatches Suffixes s r → r ≡ reverse (skip_blanks (reverse s))
back_trimmed s r h =
    sym (ap reverse (back_cut s r h.0.0 h.0.1 ∙ back_done (reverse r) r (sym (reverse-reverse r)) h.1.0 h.1.1 h.1.2) ∙ reverse-reverse r)

-- ---- a text that is as long without its blanks has none

skip_short : (s : List ℕ) → length (skip_blanks s) ≤ length s
skip_short [] = omega arith
skip_short (b ∷ rest) =
    ⊎_elim
    (λ t. let shorter = skip_short rest in let front = ap length (skip_more b rest t) in omega (arith, shorter, front))
    (λ f. let front = ap length (skip_stops b rest f) in omega (arith, front))
    (cases_Bool (is_blank b))

skip_same : (s : List ℕ) → length s ≤ length (skip_blanks s) → skip_blanks s ≡ s
skip_same [] h = refl
skip_same (b ∷ rest) h =
    ⊎_elim
    (λ t. absurd (let shorter = skip_short rest in let front = ap length (skip_more b rest t) in omega (arith, shorter, front, h)))
    (λ f. skip_stops b rest f)
    (cases_Bool (is_blank b))

pub trim_same : (s : List ℕ) → length (trim_blanks s) ≡ length s → trim_blanks s ≡ s
unfolding trim_blanks
trim_same s same =
    let back = reverse (skip_blanks s) in
    let as_long = length-reverse (skip_blanks s) in
    let whole = length-reverse (skip_blanks back) in
    let less = skip_short back in
    let shorter = skip_short s in
    let front : skip_blanks s ≡ s = skip_same s (omega (arith, same, as_long, whole, less, shorter)) in
    let end : skip_blanks back ≡ back = skip_same back (omega (arith, same, as_long, whole, less, shorter)) in
    ap reverse end ∙ reverse-reverse (skip_blanks s) ∙ front
