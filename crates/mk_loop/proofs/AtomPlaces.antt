-- The atoms at a place of a line.
use Rattle.std.proofs.Common.{◌≡◌, ℕ, ◌+◌, ◌<◌, ◌≤◌, List, ◌∷◌, length, take, drop, get_or, Some, None, sym, ap, ◌∙◌, arith, drop-drop}
use Rattle.std.proofs.lemmas.List.{drop_more}
use Rattle.mk_ref.specs.declared.opening.Opening.TheVariants.{Doubled, Letter}
use Rattle.mk_ref.specs.Atoms.{TextAtom, Byte, EscapedDollar, Reference, opening_of, first_atom}
use Rattle.mk_ref.proofs.ScanSteps.{first-opening}
use Rattle.mk_ref.proofs.InsideSteps.{OccursAt, written_as}

standing : (text : List ℕ) (at next : ℕ) (atom : TextAtom) → at < next → next ≤ length text
    → first_atom (drop at text) ≡ Some (atom, drop next text) → OccursAt text at next atom
standing text at next atom later within first = record {
  first = first;
  written = written_as text at next atom (omega (arith, later)) first;
  later = later;
  within = within;
}

-- a byte that means itself
pub byte-at-place : (text : List ℕ) (at : ℕ) → at < length text → opening_of (drop at text) ≡ None
    → OccursAt text at (at + 1) (Byte (get_or text at 0))
byte-at-place text at near opens =
    let here = drop_more text at 0 near in
    standing text at (at + 1) (Byte (get_or text at 0)) (omega arith) (omega arith)
    (ap first_atom here ∙ first-opening (get_or text at 0 ∷ drop (at + 1) text) None (ap opening_of (sym here) ∙ opens))

-- a pair
pub pair-at-place : (text : List ℕ) (at : ℕ) → at + 2 ≤ length text → opening_of (drop at text) ≡ Some Doubled
    → OccursAt text at (at + 2) EscapedDollar
pair-at-place text at room opens =
    standing text at (at + 2) EscapedDollar (omega arith) room (first-opening (drop at text) (Some Doubled) opens
    ∙ ap (λ l. Some (EscapedDollar, l)) (drop-drop 2 at text))

-- a reference of one letter
pub letter-at-place : (text : List ℕ) (at : ℕ) → at + 2 ≤ length text → opening_of (drop at text) ≡ Some Letter
    → OccursAt text at (at + 2) (Reference (take 2 (drop at text)) (take 1 (drop 1 (drop at text))) None)
letter-at-place text at room opens =
    let atom = Reference (take 2 (drop at text)) (take 1 (drop 1 (drop at text))) None in
    standing text at (at + 2) atom (omega arith) room (first-opening (drop at text) (Some Letter) opens
    ∙ ap (λ l. Some (atom, l)) (drop-drop 2 at text))
