-- What is outside references is in the place where it was.
use Rattle.std.proofs.Common.{◌≡◌, ◌≢◌, ◌⊎◌, ℕ, zero, suc, ◌+◌, ◌<◌, List, [], ◌∷◌, ◌++◌, length, take, drop, map, get_or, refl, sym, ap}
use Rattle.std.proofs.Common.{subst, ◌∙◌, inl, inr, append-nil}
use Rattle.std.specs.List.{flat_map}
use Rattle.mk_ref.specs.Atoms.{TextAtom, Byte, EscapedDollar, Reference, source, sources, atoms_of, left_of}
use Rattle.mk_ref.proofs.AtomSteps.{atoms-text}
use Rattle.mk_ref.specs.Pieces.{TextPiece, LiteralPiece, EscapedDollarPiece, ReferencePiece, with_byte, pieces_of}
use Rattle.std.proofs.lemmas.List.{drop_more, drop-map}
use Rattle.mk_ref.specs.declared.pieces_of_text.Piece.{Piece}
use Rattle.mk_ref.specs.Places.{piece_in_text, IsUnclosedAt}
use Rattle.mk_ref.specs.Outside.{dollars, covered, covered_piece, outside}
use Rattle.mk_ref.proofs.Alone.{cut-front}

-- bytes are those of a text, or dollars in their place
abbrev pub Covers : List ℕ → List ℕ → Type 0
Covers [] [] = Unit {0}
Covers [] (c ∷ text) = ⊥
Covers (b ∷ plain) [] = ⊥
Covers (b ∷ plain) (c ∷ text) = ((b ≡ 36) ⊎ (b ≡ c)) × Covers plain text

covers-dollars : (text : List ℕ) → Covers (dollars text) text
covers-dollars [] = tt
covers-dollars (c ∷ text) = (inl refl, covers-dollars text)

covers-append : (plain text more rest : List ℕ) → Covers plain text → Covers more rest → Covers (plain ++ more) (text ++ rest)
covers-append [] [] more rest front back = back
covers-append [] (c ∷ text) more rest front back = absurd front
covers-append (b ∷ plain) [] more rest front back = absurd front
covers-append (b ∷ plain) (c ∷ text) more rest front back = (front.0, covers-append plain text more rest front.1 back)

covers-atom : (atom : TextAtom) → Covers (covered atom) (source atom)
covers-atom (Byte b) = (inr refl, tt)
covers-atom EscapedDollar = (inl refl, (inl refl, tt))
covers-atom (Reference written name modifiers) = covers-dollars written

covers-atoms : (atoms : List TextAtom) → Covers (flat_map covered atoms) (sources atoms)
covers-atoms [] = tt
covers-atoms (atom ∷ atoms) = covers-append (covered atom) (source atom) (flat_map covered atoms) (sources atoms)
    (covers-atom atom) (covers-atoms atoms)

pub covers-outside : (text : List ℕ) → Covers (outside text) text
unfolding outside
covers-outside text =
    subst (Covers (flat_map covered (atoms_of text) ++ dollars (left_of text))) (atoms-text text)
    (covers-append (flat_map covered (atoms_of text)) (sources (atoms_of text)) (dollars (left_of text)) (left_of text)
    (covers-atoms (atoms_of text)) (covers-dollars (left_of text)))

covers-length : (plain text : List ℕ) → Covers plain text → length plain ≡ length text
covers-length [] [] is = refl
covers-length [] (c ∷ text) is = absurd is
covers-length (b ∷ plain) [] is = absurd is
covers-length (b ∷ plain) (c ∷ text) is = ap suc (covers-length plain text is.1)

covers-at : (plain text : List ℕ) (at : ℕ) → Covers plain text → get_or plain at 0 ≢ 36 → get_or plain at 0 ≡ get_or text at 0
covers-at [] [] at is other = refl
covers-at [] (c ∷ text) at is other = absurd is
covers-at (b ∷ plain) [] at is other = absurd is
covers-at (b ∷ plain) (c ∷ text) zero is other = elim is.0 [ inl dollar ↦ absurd (other dollar) | inr same ↦ same ]
covers-at (b ∷ plain) (c ∷ text) (suc at) is other = covers-at plain text at is.1 other

pub length-outside : (text : List ℕ) → length (outside text) ≡ length text
length-outside text = covers-length (outside text) text (covers-outside text)

-- a byte outside references is at that place of the text
pub outside-at : (text : List ℕ) (at : ℕ) → get_or (outside text) at 0 ≢ 36 → get_or (outside text) at 0 ≡ get_or text at 0
outside-at text at other = covers-at (outside text) text at (covers-outside text) other

-- of pieces as of their atoms
covered-with_byte : (b : ℕ) (pieces : List TextPiece) → flat_map covered_piece (with_byte b pieces) ≡ b ∷ flat_map covered_piece pieces
covered-with_byte b [] = refl
covered-with_byte b (LiteralPiece bytes ∷ pieces) = refl
covered-with_byte b (EscapedDollarPiece ∷ pieces) = refl
covered-with_byte b (ReferencePiece written name modifiers ∷ pieces) = refl

pub covered-pieces : (atoms : List TextAtom) → flat_map covered_piece (pieces_of atoms) ≡ flat_map covered atoms
covered-pieces [] = refl
covered-pieces (Byte b ∷ atoms) = covered-with_byte b (pieces_of atoms) ∙ ap (λ l. b ∷ l) (covered-pieces atoms)
covered-pieces (EscapedDollar ∷ atoms) = ap (λ l. 36 ∷ 36 ∷ l) (covered-pieces atoms)
covered-pieces (Reference written name modifiers ∷ atoms) = ap (λ l. dollars written ++ l) (covered-pieces atoms)

-- a text whose references all end, from its pieces
pub outside-whole : (text : List ℕ) (found : List TextPiece) → found ≡ pieces_of (atoms_of text) → left_of text ≡ []
    → flat_map covered_piece found ≡ outside text
unfolding outside
outside-whole text found is whole =
    ap (flat_map covered_piece) is ∙ covered-pieces (atoms_of text) ∙ sym (append-nil (flat_map covered (atoms_of text)))
    ∙ ap (λ l. flat_map covered (atoms_of text) ++ dollars l) (sym whole)

-- a text in which a reference begins that doesn't end, from the pieces before that
pub outside-unclosed : (text : List ℕ) (at : ℕ) (found : List TextPiece) → IsUnclosedAt text at
    → found ≡ pieces_of (atoms_of (take at text))
    → flat_map covered_piece found ++ dollars (drop at text) ≡ outside text
unfolding outside
outside-unclosed text at found unclosed is =
    ap (λ l. flat_map covered_piece l ++ dollars (drop at text)) is
    ∙ ap (λ l. l ++ dollars (drop at text)) (covered-pieces (atoms_of (take at text))
    ∙ ap (λ x. flat_map covered x.0) (cut-front text at unclosed))
    ∙ ap (λ l. flat_map covered (atoms_of text) ++ dollars l) (sym unclosed.left)

-- the next piece
pub covered-next : (text : List ℕ) (found : List Piece) (at : ℕ) (other : Piece) → at < length found
    → flat_map covered_piece (drop at (map (piece_in_text text) found))
    ≡ covered_piece (piece_in_text text (get_or found at other)) ++ flat_map covered_piece (drop (at + 1) (map (piece_in_text text) found))
covered-next text found at other near =
    ap (flat_map covered_piece)
    (drop-map (piece_in_text text) at found ∙ ap (map (piece_in_text text)) (drop_more found at other near)
    ∙ ap (λ l. piece_in_text text (get_or found at other) ∷ l) (sym (drop-map (piece_in_text text) (at + 1) found)))
