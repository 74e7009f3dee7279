-- Texts without a dollar.
use Rattle.std.proofs.Common.{◌≡◌, ℕ, Bool, true, false, true≢false, nat_eq, List, [], ◌∷◌, map, Some, refl, ap, ◌∙◌}
use Rattle.std.specs.Prelude.{◌==◌}
use Rattle.std.specs.List.{list_any}
use Rattle.mk_ref.specs.Atoms.{Byte, atom_before, first_atom, cut_on, cut_by, cut}
use Rattle.mk_ref.proofs.AtomSteps.{cut-next}

first-byte : (b : ℕ) (rest : List ℕ) → nat_eq b 36 ≡ false → first_atom (b ∷ rest) ≡ Some (Byte b, rest)
unfolding first_atom
first-byte b rest other = rw other refl

by-first : (b : ℕ) (rest : List ℕ) (first : Bool) → nat_eq b 36 ≡ first
    → (list_any (λ c. c == 36) rest ≡ false → cut rest ≡ (map Byte rest, []))
    → list_any (λ c. c == 36) (b ∷ rest) ≡ false → cut (b ∷ rest) ≡ (map Byte (b ∷ rest), [])
by-first b rest true is goes none = absurd (true≢false (rw is at none))
by-first b rest false is goes none =
    cut-next (b ∷ rest) ∙ ap (cut_on cut (b ∷ rest)) (first-byte b rest is) ∙ ap (atom_before (Byte b)) (goes (rw is at none))

pub cut-plain : (text : List ℕ) → list_any (λ b. b == 36) text ≡ false → cut text ≡ (map Byte text, [])
unfolding cut cut_by
cut-plain [] none = refl
cut-plain (b ∷ rest) none = by-first b rest (nat_eq b 36) refl (cut-plain rest) none
