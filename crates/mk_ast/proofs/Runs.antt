-- The run of passing bytes that a text begins with.
use Rattle.std.proofs.Common.{◌≡◌, ◌&&◌, nat_le, true≢false, ℕ, zero, suc, ◌+◌, ◌<◌, ◌≤◌, ⊎_elim, add-one, Bool, true, false, List, [], ◌∷◌}
use Rattle.std.proofs.Common.{length, get_or, IsUtf8, IsCharBoundary, sym, subst, arith}
use Rattle.std.proofs.lemmas.Bool.{cond-true, cond-false, cases_Bool, or_cases, leb-true}
use Rattle.std.proofs.lemmas.Str.{IsCharBoundary-start, IsCharBoundary-after_ascii}
use Rattle.std.specs.Char.{is_ascii_alphabetic}
use Rattle.std.specs.Int.{is_in_range}
use Rattle.std.specs.List.{prefix_len}

run-within : (p : ℕ → Bool) (text : List ℕ) → prefix_len p text ≤ length text
run-within p [] = omega arith
run-within p (b ∷ text) =
    ⊎_elim
    (λ t. omega (arith, cond-true (p b) (1 + prefix_len p text) 0 t, run-within p text))
    (λ f. omega (arith, cond-false (p b) (1 + prefix_len p text) 0 f))
    (cases_Bool (p b))

-- the byte before a place in the run passes
run-last : (p : ℕ → Bool) (text : List ℕ) (at : ℕ) → at < prefix_len p text → p (get_or text at 0) ≡ true
run-last p [] at near = absurd (omega (arith, near))
run-last p (b ∷ text) zero near =
    ⊎_elim (λ t. t) (λ f. absurd (omega (arith, near, cond-false (p b) (1 + prefix_len p text) 0 f))) (cases_Bool (p b))
run-last p (b ∷ text) (suc at) near =
    ⊎_elim
    (λ t. run-last p text at (omega (arith, near, cond-true (p b) (1 + prefix_len p text) 0 t)))
    (λ f. absurd (omega (arith, near, cond-false (p b) (1 + prefix_len p text) 0 f)))
    (cases_Bool (p b))

both : (x y : Bool) → (x && y) ≡ true → y ≡ true
both true y is = is
both false y is = absurd (true≢false (sym is))

letter_ascii : (b : ℕ) → is_ascii_alphabetic b ≡ true → b < 128
letter_ascii b is =
    ⊎_elim
    (λ u. omega (arith, leb-true b 90 (both (nat_le 65 b) (nat_le b 90) u)))
    (λ l. omega (arith, leb-true b 122 (both (nat_le 97 b) (nat_le b 122) l)))
    (or_cases (is_in_range 65 90 b) (is_in_range 97 122 b) is)

boundary_by : (text : List ℕ) (end : ℕ) → IsUtf8 text → end ≤ prefix_len is_ascii_alphabetic text → IsCharBoundary text end
boundary_by text zero utf8 near = IsCharBoundary-start text utf8
boundary_by text (suc at) utf8 near =
    subst (IsCharBoundary text) (add-one at)
    (IsCharBoundary-after_ascii text at utf8 (omega (arith, near, run-within is_ascii_alphabetic text))
    (letter_ascii (get_or text at 0) (run-last is_ascii_alphabetic text at (omega (arith, near)))))

-- a text may be cut after the letters that it begins with
pub letters-boundary : (text : List ℕ) (end : ℕ) → IsUtf8 text → end ≡ prefix_len is_ascii_alphabetic text → IsCharBoundary text end
letters-boundary text end utf8 is = boundary_by text end utf8 (omega (arith, is))
