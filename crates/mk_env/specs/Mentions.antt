-- References by their texts, as the code has them.
use Rattle.std.specs.Prelude.{◌≡◌, ℕ, List, map, Option, option_map, Result, IfOk, Vec}
use Rattle.std.specs.Borrow.{Bor}
use Rattle.std.specs.declared.alloc.Global.{Global}
use Rattle.mk_text.specs.Words.{span_text}
use Rattle.mk_ref.specs.declared.pieces_of_text.Piece.{Piece}
use Rattle.mk_ref.specs.declared.pieces_of_text.Reference.{Reference}
use Rattle.mk_ref.specs.Atoms.{sources, before_colon, following_colon, atoms_of}
use Rattle.mk_ref.specs.Pieces.{pieces_of}
use Rattle.mk_ref.specs.Places.{piece_in_text}
use Rattle.mk_env.specs.declared.mentions.Mention.{Mention}

-- the text that is lent, if there is one
abbrev pub lent_text : Option (Bor (List ℕ)) → Option (List ℕ)
lent_text text = option_map (λ t. t.now) text

-- the name of the reference with this inside: what is before the first colon outside references
abbrev pub name_inside : List ℕ → List ℕ
name_inside inside = sources (before_colon (atoms_of inside))

-- its modifiers: what follows that colon, if there is one
abbrev pub modifiers_inside : List ℕ → Option (List ℕ)
modifiers_inside inside = option_map sources (following_colon (atoms_of inside))

-- it has the modifiers of this reference in a text
abbrev pub HasModifiersOf : Mention → List ℕ → Reference → Type 0
HasModifiersOf mention text reference = lent_text mention.modifiers ≡ option_map (span_text text) reference.modifiers

-- if it succeeds, it cut this text into its pieces
abbrev pub GivesPieces : {F : Type 0} → Result (Vec Piece Global) F → List ℕ → Type 0
GivesPieces result text = IfOk result (λ found. map (piece_in_text text) found.items ≡ pieces_of (atoms_of text))
