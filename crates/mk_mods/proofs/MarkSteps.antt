-- Texts that have no marks.
use Rattle.std.proofs.Common.{◌≡◌, ℕ, ◌<◌, List, [], ◌∷◌, length, None, refl, ap, arith, length-drop}
use Rattle.std.specs.List.{flat_map}
use Rattle.mk_ref.specs.declared.pieces_of_text.PiecesFault.{PiecesFault}
use Rattle.mk_ref.specs.declared.pieces_of_text.PiecesFault.TheVariants as faults
use Rattle.mk_ref.specs.Atoms.{atoms_of, left_of}
use Rattle.mk_ref.specs.Pieces.{pieces_of}
use Rattle.mk_ref.specs.Places.{IsFaultOf}
use Rattle.mk_mods.specs.Marks.{TextMark, marks_of, marks_if_whole, piece_marks}
use Rattle.mk_mods.specs.Views.{IsUnread, unread_by}

where_left : (left : List ℕ) (marks : List TextMark) → 0 < length left → marks_if_whole left marks ≡ None
where_left [] marks some = absurd (omega arith)
where_left (b ∷ left) marks some = refl

pub marks-unread : (text : List ℕ) (fault : PiecesFault) → IsFaultOf text fault → IsUnread (marks_of text) (unread_by fault)
unfolding marks_of
marks-unread text (faults.Unclosed at) is = where_left (left_of text) (flat_map piece_marks (pieces_of (atoms_of text)))
    (omega (arith, is.inside, ap length is.left, length-drop at text))
marks-unread text (faults.Memory _) is = tt
