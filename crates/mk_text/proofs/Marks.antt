-- Source lines that end in a backslash.
use Rattle.std.proofs.Common.{◌≡◌, ◌≢◌, ℕ, ◌-◌, ◌≤◌, Bool, true, false, List, [], ◌∷◌, ◌++◌, length, take, Some, None, MatchBool}
use Rattle.std.proofs.Common.{IsCharBoundary, refl, sym, ap, ◌∙◌, arith, lit<, length-append, take_at, drop_at}
use Rattle.std.proofs.lemmas.Bool.{cond-true, cond-false, true≢false}
use Rattle.std.proofs.lemmas.Str.Pattern.{ends_text, ends_char}
use Rattle.std.specs.Str.Pattern.{FindsCharSuffix}
use Rattle.mk_text.specs.Lines.{goes_on, unmarked}

one_less : (front : List ℕ) → length front ≡ length (front ++ 92 ∷ []) - 1
one_less front = omega (arith, length-append front (92 ∷ []))

pub goes_on-marked : (front : List ℕ) → goes_on (front ++ 92 ∷ []) ≡ true
goes_on-marked front = rw (drop_at front (92 ∷ []) (length (front ++ 92 ∷ []) - 1) (one_less front))

pub goes_on-plain : (s : List ℕ) → ((front : List ℕ) → s ≢ front ++ 92 ∷ []) → goes_on s ≡ false
goes_on-plain s h = sym (ends_text false (92 ∷ []) s h)

-- `ends_with` at a backslash
pub goes_on-from_ends : (s : List ℕ) (r : Bool)
    → MatchBool r ((n : ℕ) × FindsCharSuffix 92 s (Some n) × (n ≤ length s) × IsCharBoundary s (length s - n)) (FindsCharSuffix 92 s None)
    → r ≡ goes_on s
goes_on-from_ends s true h = sym (ap goes_on ((ends_char 92 s true h (lit< tt)).0 refl) ∙ goes_on-marked (take (length s - 1) s))
goes_on-from_ends s false h = sym (goes_on-plain s (λ front e. true≢false (sym ((ends_char 92 s false h (lit< tt)).1 front e))))

pub unmarked-marked : (front : List ℕ) → unmarked (front ++ 92 ∷ []) ≡ front
unmarked-marked front =
    cond-true (goes_on (front ++ 92 ∷ [])) (take (length (front ++ 92 ∷ []) - 1) (front ++ 92 ∷ []))
    (front ++ 92 ∷ []) (goes_on-marked front)
    ∙ take_at front (92 ∷ []) (length (front ++ 92 ∷ []) - 1) (one_less front)

pub unmarked-plain : (s : List ℕ) → goes_on s ≡ false → unmarked s ≡ s
unmarked-plain s h = cond-false (goes_on s) (take (length s - 1) s) s h
