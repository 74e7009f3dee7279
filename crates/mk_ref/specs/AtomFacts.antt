-- Facts about the atoms of a text that proofs above need.
use Rattle.std.proofs.Common.{◌≡◌, ◌≢◌, ◌∙◌, refl, sym, ap, subst, inl, inr, arith, append_assoc}
use Rattle.std.proofs.Common.{ℕ, List, [], ◌∷◌, ◌++◌, length, option_map}
use Rattle.std.proofs.lemmas.Bool.Decides.{eqb_tells}
use Rattle.std.proofs.lemmas.List.{length-drop}
use Rattle.general_facts.specs.Ascii.{dollar}
use Rattle.mk_ref.specs.declared.pieces_of_text.PiecesFault.{PiecesFault}
use Rattle.mk_ref.specs.declared.pieces_of_text.PiecesFault.TheVariants as faults
use Rattle.mk_ref.specs.Laws.{with_colon}
use Rattle.mk_ref.specs.Places.{IsUnclosedAt, IsFaultOf}
use Rattle.mk_ref.specs.Atoms.{TextAtom, Byte, EscapedDollar, Reference, sources, before_colon, following_colon, left_of}

-- the name and the modifiers in a reference, put together with the colon, are what its atoms are written as
pub around_colon : (atoms : List TextAtom)
    → sources (before_colon atoms) ++ with_colon (option_map sources (following_colon atoms)) ≡ sources atoms
around_colon [] = refl
around_colon (Byte b ∷ atoms) =
    elim (eqb_tells b 58) [
      | inl colon ↦ rw colon.0 (ap (λ n. n ∷ sources atoms) (sym colon.1))
      | inr other ↦ rw other.0 (ap (λ l. b ∷ l) (around_colon atoms))
    ]
around_colon (EscapedDollar ∷ atoms) = ap (λ l. dollar ∷ dollar ∷ l) (around_colon atoms)
around_colon (Reference written name modifiers ∷ atoms) =
    append_assoc written (sources (before_colon atoms)) (with_colon (option_map sources (following_colon atoms)))
    ∙ ap (λ l. written ++ l) (around_colon atoms)

-- a text in which a reference doesn't end has something left
pub IsFaultOf-left : (text : List ℕ) (fault : PiecesFault) (at : ℕ) → IsFaultOf text fault → fault ≡ faults.Unclosed at → left_of text ≢ []
IsFaultOf-left text fault at is_fault is =
    let unclosed : IsUnclosedAt text at = subst (IsFaultOf text) is is_fault in
    λ none. omega (arith, unclosed.inside, length-drop at text, ap length (sym unclosed.left ∙ none))
