-- Where the path of a target in absolute form begins.
use Rattle.std.proofs.Common.{◌≡◌, ◌≢◌, ℕ, suc, ◌+◌, ◌<◌, ◌≤◌, false, List, [], ◌∷◌, ◌++◌, length, drop, get_or, sym, ap, ◌∙◌, arith}
use Rattle.std.proofs.Common.{add-one, drop-cons}
use Rattle.std.specs.List.{position_or_len, after_first}
use Rattle.std.proofs.lemmas.List.{drop_all}
use Rattle.std.proofs.lemmas.List.Sums.{position_or_len_is}
use Rattle.std.proofs.lemmas.Bool.Decides.{nat_tests}
use Rattle.plain_service.specs.Target.{local_part, scheme, is_slash}

-- what is no slash is told from one
no_slash : (byte : ℕ) → byte ≢ 47 → is_slash byte ≡ false
no_slash byte other = grind (arith, nat_tests)

-- after the first slash of a text
pub from_slash : (rest : List ℕ) (at : ℕ) → at < length rest → get_or rest at 0 ≡ 47 → ((i : ℕ) → i < at → get_or rest i 0 ≢ 47)
    → drop at rest ≡ 47 ∷ after_first is_slash rest
from_slash rest at within here before =
    let place : position_or_len is_slash rest ≡ at =
    position_or_len_is is_slash rest at 0 (omega arith) (λ k below. no_slash (get_or rest k 0) (before k below)) (λ _. ap is_slash here) in
    rw (place, add-one, drop-cons rest at 0) (ap (λ byte. byte ∷ drop (suc at) rest) here)

-- a text without a slash has nothing after one
pub without_slash : (rest : List ℕ) → ((i : ℕ) → i < length rest → get_or rest i 0 ≢ 47) → 47 ∷ [] ≡ 47 ∷ after_first is_slash rest
without_slash rest none =
    let place : position_or_len is_slash rest ≡ length rest =
    position_or_len_is is_slash rest (length rest) 0 (omega arith) (λ k below. no_slash (get_or rest k 0) (none k below))
    (λ h. absurd (omega arith)) in
    let past : length rest ≤ length rest + 1 = omega arith in
    rw place (ap (λ behind. 47 ∷ behind) (sym (drop_all (length rest + 1) rest past)))

-- the local part of a target that begins with the scheme
pub after_scheme : (target rest : List ℕ) (n : ℕ) → target ≡ scheme ++ drop n target → rest ≡ drop n target
    → local_part target ≡ 47 ∷ after_first is_slash rest
after_scheme target rest n begins is = ap local_part (begins ∙ ap (λ behind. scheme ++ behind) (sym is))
