-- A text cut at its number signs, and its comment.
use Rattle.std.proofs.Common.{◌≡◌, ◌≢◌, ℕ, suc, ◌+◌, ◌<◌, true, false, ◌&&◌, eqb, List, [], ◌∷◌, ◌++◌, length, get_or, drop, IsUtf8, refl}
use Rattle.std.proofs.Common.{sym, ap, subst, ◌∙◌, arith, ne_eqb, append_assoc, length-append, drop_at}
use Rattle.std.proofs.lemmas.List.{get_or_at, get_or_append_left}
use Rattle.std.proofs.lemmas.Str.{IsUtf8-drop, IsCharBoundary-after_ascii}
use Rattle.std.proofs.lemmas.Bool.{and_left, and_right}
use Rattle.mk_text.specs.Lines.{without_comment}

-- a text has no number sign
abbrev pub NoSign : List ℕ → Type 0
NoSign s = (i : ℕ) → i < length s → get_or s i 0 ≢ 35

first_no : (b : ℕ) (rest : List ℕ) → NoSign (b ∷ rest) → eqb b 35 ≡ false
first_no b rest h = ne_eqb b 35 (h 0 (omega arith))

later : (b : ℕ) (rest : List ℕ) → NoSign (b ∷ rest) → NoSign rest
later b rest h = λ i l. h (suc i) (omega arith)

-- two bytes of which neither begins a comment and which are no escaped sign: the first of them stays
stays : (b c : ℕ) (rest : List ℕ) → eqb b 35 ≡ false → (eqb b 92 && eqb c 35) ≡ false → without_comment (b ∷ c ∷ rest) ≡ b ∷
    without_comment (c ∷ rest)
stays b c rest x y = rw (x, y)

-- without a sign nothing is cut
pub without_comment-none : (s : List ℕ) → NoSign s → without_comment s ≡ s
without_comment-none [] h = refl
without_comment-none (b ∷ []) h = rw (first_no b [] h)
without_comment-none (b ∷ c ∷ rest) h =
    stays b c rest (first_no b (c ∷ rest) h) (and_right (eqb b 92) (eqb c 35) (first_no c rest (later b (c ∷ rest) h)))
    ∙ ap (λ l. b ∷ l) (without_comment-none (c ∷ rest) (later b (c ∷ rest) h))

begins : (rest : List ℕ) → without_comment (35 ∷ rest) ≡ []
begins [] = refl
begins (c ∷ rest) = refl

-- the first sign begins the comment if no backslash is before it
pub without_comment-cut : (front rest : List ℕ) → NoSign front → ((kept : List ℕ) → front ≢ kept ++ 92 ∷ [])
    → without_comment (front ++ 35 ∷ rest) ≡ front
without_comment-cut [] rest h p = begins rest
without_comment-cut (b ∷ []) rest h p =
    stays b 35 rest (first_no b [] h) (and_left (eqb b 92) true (ne_eqb b 92 (λ e. p [] (ap (λ x. x ∷ []) e))))
    ∙ ap (λ l. b ∷ l) (begins rest)
without_comment-cut (b ∷ c ∷ front) rest h p =
    stays b c (front ++ 35 ∷ rest) (first_no b (c ∷ front) h) (and_right (eqb b 92) (eqb c 35) (first_no c front (later b (c ∷ front) h)))
    ∙ ap (λ l. b ∷ l) (without_comment-cut (c ∷ front) rest (later b (c ∷ front) h) (λ kept e. p (b ∷ kept) (ap (λ l. b ∷ l) e)))

-- an escaped sign is plain
pub without_comment-escaped : (kept rest : List ℕ) → NoSign kept → without_comment (kept ++ 92 ∷ 35 ∷ rest) ≡ kept ++
    35 ∷ without_comment rest
without_comment-escaped [] rest h = refl
without_comment-escaped (b ∷ []) rest h =
    stays b 92 (35 ∷ rest) (first_no b [] h) (and_right (eqb b 92) false refl)
    ∙ ap (λ l. b ∷ l) (without_comment-escaped [] rest (λ i l. absurd (omega arith)))
without_comment-escaped (b ∷ c ∷ kept) rest h =
    stays b c (kept ++ 92 ∷ 35 ∷ rest) (first_no b (c ∷ kept) h) (and_right (eqb b 92) (eqb c 35) (first_no c kept (later b (c ∷ kept) h)))
    ∙ ap (λ l. b ∷ l) (without_comment-escaped (c ∷ kept) rest (later b (c ∷ kept) h))

-- what follows a sign is text
pub after_utf8 : (s front behind : List ℕ) → s ≡ front ++ 35 ∷ behind → IsUtf8 s → IsUtf8 behind
after_utf8 s front behind e u =
    let near : length front < length s = omega (arith, ap length e, length-append front (35 ∷ behind)) in
    let sign : get_or s (length front) 0 ≡ 35 = ap (λ l. get_or l (length front) 0) e ∙ get_or_at front 35 behind 0 (length front) refl in
    let rest : drop (length front + 1) s ≡ behind = ap (drop (length front + 1)) (e ∙ sym (append_assoc front (35 ∷ []) behind))
    ∙ drop_at (front ++ 35 ∷ []) behind (length front + 1) (omega (arith, length-append front (35 ∷ []))) in
    subst IsUtf8 rest (IsUtf8-drop s (length front + 1) u (IsCharBoundary-after_ascii s (length front) u near (omega arith)))

-- a step over an escaped sign
pub escaped_step : (done rest front behind kept line : List ℕ) → done ++ without_comment rest ≡ line → rest ≡ front ++ 35 ∷ behind
    → NoSign front → front ≡ kept ++ 92 ∷ []
    → ((done ++ kept) ++ 35 ∷ []) ++ without_comment behind ≡ line
escaped_step done rest front behind kept line h e none mark =
    let whole : rest ≡ kept ++ 92 ∷ 35 ∷ behind = e ∙ ap (λ l. l ++ 35 ∷ behind) mark ∙ append_assoc kept (92 ∷ []) (35 ∷ behind) in
    let clean : NoSign kept = λ i l. subst (λ x. x ≢ 35) (ap (λ l. get_or l i 0) mark ∙ get_or_append_left kept (92 ∷ []) 0 i l)
    (none i (omega (arith, ap length mark, length-append kept (92 ∷ [])))) in
    append_assoc (done ++ kept) (35 ∷ []) (without_comment behind) ∙ append_assoc done kept (35 ∷ without_comment behind)
    ∙ ap (λ l. done ++ l) (sym (without_comment-escaped kept behind clean)) ∙ ap (λ l. done ++ without_comment l) (sym whole) ∙ h
