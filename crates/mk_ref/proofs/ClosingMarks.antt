-- What is inside a reference ends at the first closing mark outside inner references.
use Rattle.std.proofs.Common.{◌≡◌, ◌≢◌, ◌⊎◌, inl, inr, ℕ, zero, suc, false, cond, nat_eq, List, [], ◌∷◌, ◌++◌, take, drop, Option, Some}
use Rattle.std.proofs.Common.{None, option_map, IfSome, All, refl, sym, ap, subst, ◌∙◌, append_assoc}
use Rattle.std.proofs.lemmas.Bool.{eq-eqb, eqb-false}
use Rattle.std.proofs.lemmas.Bool.Decides.{eqb_tells}
use Rattle.std.proofs.lemmas.List.{append_cancel_left}
use Rattle.std.proofs.lemmas.List.Elements.{All-nil, All-cons, All-head, All-tail}
use Rattle.mk_ref.specs.declared.opening.Opening.{Opening}
use Rattle.mk_ref.specs.declared.opening.Opening.TheVariants.{Doubled, Letter, Marked}
use Rattle.mk_ref.specs.Atoms.{TextAtom, Byte, source, sources, opening_after, opening_of, marked_first, atom_by, atom_before, with_more}
use Rattle.mk_ref.specs.Atoms.{read_up_to, up_to_mark, first_atom, cut_on, cut, left_of}
use Rattle.mk_ref.specs.Laws.{AreMarks, AreCutAlone, ClosesReferences, IsUpToMark, NeverCloses, ReadsToTheFirstMark, OnlyTheUnclosedIsLeft}
use Rattle.mk_ref.proofs.AtomSteps.{IsAtomOf, opens_with, read_faithful, atom_whole, up_to_faithful, up_to-cons, first_whole, first-nil}
use Rattle.mk_ref.proofs.AtomSteps.{second_of, cut-next}
use Rattle.mk_ref.proofs.PartSteps.{letter_stays, marked_stays, up_to_local, first_same, inside-alone}
use Rattle.mk_ref.proofs.Alone.{cut-alone}

-- no atom before the mark is the mark

abbrev NoneIs : ℕ → Option (List TextAtom × List ℕ) → Type 0
NoneIs mark read = IfSome read (λ x. All (λ atom. atom ≢ Byte mark) x.0)

none_joined : (mark : ℕ) (atom : TextAtom) (read : Option (List TextAtom × List ℕ)) → atom ≢ Byte mark → NoneIs mark read
    → NoneIs mark (option_map (atom_before atom) read)
none_joined mark atom None other h = tt
none_joined mark atom (Some x) other h = All-cons (λ atom. atom ≢ Byte mark) atom x.0 other h

none_with : (mark b : ℕ) (rest : List ℕ) (more : List ℕ → Option (List TextAtom × List ℕ)) (first : Option (TextAtom × List ℕ))
    → nat_eq b mark ≡ false
    → IfSome first (λ x. IsAtomOf (b ∷ rest) x.0 x.1) → ((rest : List ℕ) → NoneIs mark (more rest)) → NoneIs mark (with_more more first)
none_with mark b rest more None other is h = tt
none_with mark b rest more (Some x) other is h =
    none_joined mark x.0 (more x.1) (λ same.
    let whole : mark ∷ x.1 ≡ b ∷ rest = ap (λ atom. source atom ++ x.1) (sym same) ∙ is.whole in
    let byte : b ≡ mark = cc in
    eqb-false b mark other byte) (h x.1)

none_read : (bound mark : ℕ) (text : List ℕ) → NoneIs mark (read_up_to bound mark text)
unfolding read_up_to
none_read zero mark text = tt
none_read (suc bound) mark [] = tt
none_read (suc bound) mark (b ∷ rest) =
    elim (eqb_tells b mark) [
      | inl same ↦ rw same.0 (All-nil _)
      | inr other ↦ rw other.0
          (none_with mark b rest (read_up_to bound mark) (atom_by (read_up_to bound) (opening_of (b ∷ rest)) (b ∷ rest)) other.0
          (atom_whole (read_up_to bound) (read_faithful bound) (opening_of (b ∷ rest)) (b ∷ rest) refl) (none_read bound mark))
    ]

none_up_to : (mark : ℕ) (text : List ℕ) → NoneIs mark (up_to_mark mark text)
unfolding up_to_mark
none_up_to mark text = none_read _ mark text

-- what is read is what is up to the mark
read_is : (mark : ℕ) (text : List ℕ) (atoms : List TextAtom) (rest : List ℕ) → up_to_mark mark text ≡ Some (atoms, rest)
    → IsUpToMark mark text atoms rest
read_is mark text atoms rest is =
    let alone : AreCutAlone atoms = subst (λ o. IfSome o (λ x. AreCutAlone x.0)) is (inside-alone mark text) in
    record {
      written = sym (subst (λ o. IfSome o (λ x. sources x.0 ++ mark ∷ x.1 ≡ text)) is (up_to_faithful mark text));
      alone = alone.inside;
      first = subst (NoneIs mark) is (none_up_to mark text);
    }

-- an atom is read the same before a closing mark

abbrev first_or : Option (TextAtom × List ℕ) → TextAtom
first_or None = Byte 0
first_or (Some x) = x.0

no_opening : (b mark : ℕ) (rest : List ℕ) → ClosesReferences mark → opening_of (b ∷ mark ∷ rest) ≡ None
no_opening b mark rest closes =
    let after : opening_after (mark ∷ rest) ≡ None = elim closes [
      | inl brace ↦ subst (λ m. opening_after (m ∷ rest) ≡ None) (sym brace) refl
      | inr parenthesis ↦ subst (λ m. opening_after (m ∷ rest) ≡ None) (sym parenthesis) refl
    ] in
    elim (eqb_tells b 36) [ inl dollar ↦ rw dollar.0 after | inr other ↦ rw other.0 refl ]

marked_then : (front : List ℕ) (mark : ℕ) (read : Option (List TextAtom × List ℕ)) (rest : List ℕ) → AreMarks front mark
    → IfSome read (λ x. (other : List ℕ) → up_to_mark mark (sources x.0 ++ mark ∷ other) ≡ Some (x.0, other))
    → IfSome (option_map (marked_first front mark) read) (λ x. atom_by up_to_mark (opening_of (source x.0 ++ rest))
    (source x.0 ++ rest) ≡ Some (x.0, rest))
marked_then front mark None rest marks h = tt
marked_then front mark (Some x) rest marks h = marked_stays up_to_mark front mark x.0 rest marks (h rest)

module _ (close : ℕ) (rest : List ℕ) (closes : ClosesReferences close) where
  atom_then : (opening : Option Opening) (text : List ℕ) → opening_of text ≡ opening
      → IfSome (atom_by up_to_mark opening text) (λ x. atom_by up_to_mark (opening_of (source x.0 ++ close ∷ rest))
      (source x.0 ++ close ∷ rest) ≡ Some (x.0, close ∷ rest))
  atom_then None [] is = tt
  atom_then None (b ∷ more) is = ap (λ o. atom_by up_to_mark o (b ∷ close ∷ rest)) (no_opening b close rest closes)
  atom_then (Some Doubled) text is = refl
  atom_then (Some Letter) text is =
      let front = (opens_with text Letter is).front in
      letter_stays up_to_mark front.0 (close ∷ rest) (take 2 text) (take 1 (drop 1 text)) front.1 front.2 (second_of text front.0 front.2)
  atom_then (Some (Marked mark)) text is =
      marked_then (take 2 text) mark (up_to_mark mark (drop 2 text)) (close ∷ rest) (opens_with text (Marked mark) is).front
      (up_to_local mark (drop 2 text))

  first_then : (text : List ℕ) (atom : TextAtom) (behind : List ℕ) → first_atom text ≡ Some (atom, behind)
      → first_atom (source atom ++ close ∷ rest) ≡ Some (atom, close ∷ rest)
  unfolding first_atom
  first_then text atom behind is =
      subst (λ o. IfSome o (λ x. atom_by up_to_mark (opening_of (source x.0 ++ close ∷ rest)) (source x.0 ++ close ∷ rest) ≡ Some
      (x.0, close ∷ rest))) is
      (atom_then (opening_of text) text refl)

  -- more atoms may be between it and the mark
  first_before : (atom : TextAtom) (l : List ℕ) → first_atom (source atom ++ l) ≡ Some (atom, l)
      → first_atom (source atom ++ (l ++ close ∷ rest)) ≡ Some (atom, l ++ close ∷ rest)
  first_before atom [] is = first_then (source atom ++ []) atom [] is
  first_before atom (b ∷ l) is = first_same (source atom ++ b ∷ l) atom (b ∷ l) (b ∷ (l ++ close ∷ rest)) is refl

  -- a closing mark that comes first is a byte
  first_close : (text : List ℕ) → first_atom (close ∷ text) ≡ Some (Byte close, text)
  unfolding first_atom
  first_close text =
      elim closes [
        | inl brace ↦ subst (λ m. first_atom (m ∷ text) ≡ Some (Byte m, text)) (sym brace) refl
        | inr parenthesis ↦ subst (λ m. first_atom (m ∷ text) ≡ Some (Byte m, text)) (sym parenthesis) refl
      ]

  -- one atom more before what is read up to the mark
  read_more : (text : List ℕ) (atom : TextAtom) (behind : List ℕ) (read : Option (List TextAtom × List ℕ)) → atom ≢ Byte close
      → first_atom text ≡ Some (atom, behind) → up_to_mark close behind ≡ read
      → up_to_mark close text ≡ option_map (atom_before atom) read
  read_more [] atom behind read other is more = absurd (let no : None ≡ Some (atom, behind) = sym first-nil ∙ is in cc)
  read_more (b ∷ text) atom behind read other is more =
      elim (eqb_tells b close) [
        | inl same ↦ absurd (let byte : Some (Byte close, text) ≡ Some (atom, behind) = sym (first_close text)
            ∙ ap (λ m. first_atom (m ∷ text)) (sym same.1) ∙ is in other (sym (ap first_or byte)))
        | inr different ↦
            up_to-cons close b text ∙ ap (λ t. cond t (Some ([], text)) (with_more (up_to_mark close) (first_atom (b ∷ text)))) different.0
            ∙ ap (with_more (up_to_mark close)) is ∙ ap (option_map (atom_before atom)) more
      ]

cut_by_first : (atom : TextAtom) (atoms : List TextAtom) (first : Option (TextAtom × List ℕ))
    → first_atom (source atom ++ sources atoms) ≡ first
    → IfSome first (λ x. IsAtomOf (source atom ++ sources atoms) x.0 x.1) → cut_on cut (source atom ++ sources atoms)
    first ≡ (atom ∷ atoms, [])
    → (first_atom (source atom ++ sources atoms) ≡ Some (atom, sources atoms)) × (cut (sources atoms) ≡ (atoms, []))
cut_by_first atom atoms None at whole e = absurd (let no : [] ≡ atom ∷ atoms = ap (λ x. x.0) e in cc)
cut_by_first atom atoms (Some x) at whole e =
    let parts : x.0 ∷ (cut x.1).0 ≡ atom ∷ atoms = ap (λ x. x.0) e in
    let same : x.0 ≡ atom = cc in
    let others : (cut x.1).0 ≡ atoms = cc in
    let left : (cut x.1).1 ≡ [] = ap (λ x. x.1) e in
    let behind : x.1 ≡ sources atoms = append_cancel_left (source atom) x.1 (sources atoms)
    (ap (λ atom. source atom ++ x.1) (sym same) ∙ whole.whole) in
    (at ∙ (λ i. Some (same i, behind i)), ap cut (sym behind) ∙ (λ i. (others i, left i)))

-- the first of atoms that a text is cut into, and what is cut after it
cut_first : (atom : TextAtom) (atoms : List TextAtom) → cut (source atom ++ sources atoms) ≡ (atom ∷ atoms, [])
    → (first_atom (source atom ++ sources atoms) ≡ Some (atom, sources atoms)) × (cut (sources atoms) ≡ (atoms, []))
cut_first atom atoms is = cut_by_first atom atoms (first_atom (source atom ++ sources atoms)) refl
    (first_whole (source atom ++ sources atoms)) (sym (cut-next (source atom ++ sources atoms)) ∙ is)

module _ (close : ℕ) (rest : List ℕ) (closes : ClosesReferences close) where
  read_atoms : (atoms : List TextAtom) → cut (sources atoms) ≡ (atoms, []) → All (λ atom. atom ≢ Byte close) atoms
      → up_to_mark close (sources atoms ++ close ∷ rest) ≡ Some (atoms, rest)
  read_atoms [] alone first = up_to-cons close close rest
      ∙ ap (λ t. cond t (Some ([], rest)) (with_more (up_to_mark close) (first_atom (close ∷ rest)))) (eq-eqb close close refl)
  read_atoms (atom ∷ atoms) alone first =
      let c = cut_first atom atoms alone in
      let here = first_before close rest closes atom (sources atoms) c.0 in
      ap (up_to_mark close) (append_assoc (source atom) (sources atoms) (close ∷ rest))
      ∙ read_more close rest closes (source atom ++ (sources atoms ++ close ∷ rest)) atom (sources atoms ++ close ∷ rest)
      (Some (atoms, rest)) (All-head (λ atom. atom ≢ Byte close) atom atoms first) here
      (read_atoms atoms c.1 (All-tail (λ atom. atom ≢ Byte close) atom atoms first))

is_read : (mark : ℕ) (text : List ℕ) (atoms : List TextAtom) (rest : List ℕ) → ClosesReferences mark → IsUpToMark mark text atoms rest
    → up_to_mark mark text ≡ Some (atoms, rest)
is_read mark text atoms rest closes is = ap (up_to_mark mark) is.written ∙ read_atoms mark rest closes atoms is.alone is.first

pub reads_to_mark : ReadsToTheFirstMark
reads_to_mark mark text atoms rest closes = (read_is mark text atoms rest, is_read mark text atoms rest closes)

-- what is left of a text

marks_close : (front : List ℕ) (mark : ℕ) → AreMarks front mark → ClosesReferences mark
marks_close front mark marks = elim marks [ inl brace ↦ inl brace.1 | inr parenthesis ↦ inr parenthesis.1 ]

not_read : (front : List ℕ) (mark : ℕ) (read : Option (List TextAtom × List ℕ)) → option_map (marked_first front mark)
    read ≡ None → read ≡ None
not_read front mark None is = refl
not_read front mark (Some x) is = absurd cc

unclosed_by : (opening : Option Opening) (text : List ℕ) → opening_of text ≡ opening → atom_by up_to_mark opening text ≡ None
    → (text ≡ []) ⊎ NeverCloses text
unclosed_by None [] is none = inl refl
unclosed_by None (b ∷ rest) is none = absurd cc
unclosed_by (Some Doubled) text is none = absurd cc
unclosed_by (Some Letter) text is none = absurd cc
unclosed_by (Some (Marked mark)) text is none =
    let unread : up_to_mark mark (drop 2 text) ≡ None = not_read (take 2 text) mark (up_to_mark mark (drop 2 text)) none in
    let closes = marks_close (take 2 text) mark (opens_with text (Marked mark) is).front in
    inr (record {
      mark = mark;
      begins = is;
      unclosed = λ atoms rest up. let no : None ≡ Some (atoms, rest) = sym unread ∙ is_read mark (drop 2 text) atoms rest closes up in cc;
    })

pub left_unclosed : OnlyTheUnclosedIsLeft
unfolding first_atom
left_unclosed text = unclosed_by (opening_of (left_of text)) (left_of text) refl (cut-alone text).ends
