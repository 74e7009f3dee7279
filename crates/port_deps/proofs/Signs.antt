-- A sign is one byte of a text, so that a character begins there.
use Rattle.std.proofs.Common.{◌≡◌, ◌<◌, ℕ, ◌==◌, ◌||◌, List, Some, true, get_or, sym, subst, ⊎_elim, lit<, IsCharBoundary}
use Rattle.std.proofs.lemmas.Bool.{or_cases, eqb-true}
use Rattle.std.proofs.lemmas.List.Quantifiers.{position-Some}
use Rattle.std.proofs.lemmas.Str.{IsCharBoundary-before_ascii}
use Rattle.std.specs.List.{position}
use Rattle.port_deps.specs.ItemText.{is_sign}

is_ascii : (byte : ℕ) → is_sign byte ≡ true → byte < 128
is_ascii byte is =
    ⊎_elim
    (λ front. ⊎_elim (λ e. subst (λ b. b < 128) (sym (eqb-true byte 60 e)) (lit< tt))
    (λ e. subst (λ b. b < 128) (sym (eqb-true byte 62 e)) (lit< tt)) (or_cases (byte == 60) (byte == 62) front))
    (λ e. subst (λ b. b < 128) (sym (eqb-true byte 61 e)) (lit< tt))
    (or_cases (byte == 60 || byte == 62) (byte == 61) is)

pub sign-cuts : (text : List ℕ) (at : ℕ) → Some at ≡ position is_sign text → IsCharBoundary text at
sign-cuts text at is =
    let found = position-Some is_sign text at 0 (sym is) in
    IsCharBoundary-before_ascii text at found.0 (is_ascii (get_or text at 0) found.1)
