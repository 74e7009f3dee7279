-- What is inside a reference reads the same alone.
use Rattle.std.proofs.Common.{◌≡◌, ℕ, zero, suc, ◌+◌, ◌<◌, ◌≤◌, Bool, true, false, cond, nat_eq, List, [], ◌∷◌, ◌++◌, length, take, drop}
use Rattle.std.proofs.Common.{get_or, Option, Some, None, option_map, IfSome, All, refl, sym, ap, subst, subst₂, ◌∙◌, arith, inl, inr}
use Rattle.std.proofs.Common.{append_assoc, append-nil, length-append}
use Rattle.std.proofs.lemmas.Bool.{eq-eqb}
use Rattle.std.proofs.lemmas.Bool.Decides.{eqb_tells}
use Rattle.std.specs.Char.{is_ascii_alphabetic}
use Rattle.mk_ref.specs.declared.opening.Opening.{Opening}
use Rattle.mk_ref.specs.declared.opening.Opening.TheVariants.{Doubled, Letter, Marked}
use Rattle.mk_ref.specs.Atoms.{TextAtom, Byte, Reference, source, sources, is_colon, before_colon, following_colon, opening_after}
use Rattle.mk_ref.specs.Atoms.{opening_of, marked_reference, marked_first, atom_by, atom_before, with_more, read_up_to, up_to_mark}
use Rattle.mk_ref.specs.Atoms.{first_atom, cut_on, cut, left_of}
use Rattle.mk_ref.specs.Laws.{AreMarks, HasWholeParts, AreCutAlone}
use Rattle.mk_ref.proofs.AtomSteps.{Reader, IsAtomOf, opens_with, atom_whole, read_faithful, up_to_faithful, read_any, up_to-nil}
use Rattle.mk_ref.proofs.AtomSteps.{up_to-cons, first_whole, first-nil, second_of, cut-next, cut_all}

-- what may follow an atom in place of what followed it: nothing, or what begins with the same byte
abbrev pub StartsLike : List ℕ → List ℕ → Type 0
StartsLike rest [] = Unit {0}
StartsLike [] (c ∷ other) = ⊥
StartsLike (b ∷ rest) (c ∷ other) = b ≡ c

-- a reader that reads the same atoms wherever they come before the mark
abbrev pub IsLocal : Reader → Type 0
IsLocal up_to = (mark : ℕ) (text : List ℕ)
    → IfSome (up_to mark text) (λ x. (other : List ℕ) → up_to mark (sources x.0 ++ mark ∷ other) ≡ Some (x.0, other))

-- an atom that is read the same before another rest
abbrev pub StaysFirst : Reader → TextAtom → List ℕ → Type 0
StaysFirst up_to atom rest = (other : List ℕ) → StartsLike rest other → atom_by up_to (opening_of (source atom ++ other))
    (source atom ++ other) ≡ Some (atom, other)

plain_stays : (b : ℕ) (rest other : List ℕ) → opening_of (b ∷ rest) ≡ None → StartsLike rest other → opening_of (b ∷ other) ≡ None
plain_stays b rest [] is like = elim (eqb_tells b 36) [ inl dollar ↦ rw dollar.0 refl | inr no_dollar ↦ rw no_dollar.0 refl ]
plain_stays b [] (c ∷ other) is like = absurd like
plain_stays b (d ∷ rest) (c ∷ other) is like = subst (λ n. opening_of (b ∷ n ∷ other) ≡ None) like is

letter_opens : (letter : ℕ) (other : List ℕ) → is_ascii_alphabetic letter ≡ true → opening_after (letter ∷ other) ≡ Some Letter
letter_opens letter other is =
    elim (eqb_tells letter 36) [
      | inl dollar ↦ absurd (let no : is_ascii_alphabetic 36 ≡ true = subst (λ n. is_ascii_alphabetic n ≡ true) dollar.1 is in cc)
      | inr no_dollar ↦ elim (eqb_tells letter 123) [
        | inl brace ↦ absurd (let no : is_ascii_alphabetic 123 ≡ true = subst (λ n. is_ascii_alphabetic n ≡ true) brace.1 is in cc)
        | inr no_brace ↦ elim (eqb_tells letter 40) [
          | inl parenthesis ↦ absurd (let no : is_ascii_alphabetic 40 ≡ true =
              subst (λ n. is_ascii_alphabetic n ≡ true) parenthesis.1 is in cc)
          | inr other_byte ↦ rw (no_dollar.0, no_brace.0, other_byte.0, is) refl
        ]
      ]
    ]

pub letter_stays : (up_to : Reader) (letter : ℕ) (other written name : List ℕ) → is_ascii_alphabetic letter ≡ true
    → written ≡ 36 ∷ letter ∷ [] → name ≡ letter ∷ []
    → atom_by up_to (opening_of (written ++ other)) (written ++ other) ≡ Some (Reference written name None, other)
letter_stays up_to letter other written name is front second =
    ap (λ l. atom_by up_to (opening_of (l ++ other)) (l ++ other)) front
    ∙ ap (λ o. atom_by up_to o (36 ∷ letter ∷ other)) (letter_opens letter other is)
    ∙ ap (λ l. Some (Reference l (letter ∷ []) None, other)) (sym front) ∙ ap (λ l. Some (Reference written l None, other)) (sym second)

marked_by : (up_to : Reader) (b mark : ℕ) (inside : List TextAtom) (other : List ℕ)
    → opening_after (b ∷ sources inside ++ mark ∷ other) ≡ Some (Marked mark)
    → up_to mark (sources inside ++ mark ∷ other) ≡ Some (inside, other)
    → atom_by up_to (opening_after (b ∷ sources inside ++ mark ∷ other)) (36 ∷ b ∷ sources inside ++ mark ∷ other) ≡ Some
    (marked_reference (36 ∷ b ∷ []) inside mark, other)
marked_by up_to b mark inside other is h =
    ap (λ o. atom_by up_to o (36 ∷ b ∷ sources inside ++ mark ∷ other)) is ∙ ap (option_map (marked_first (36 ∷ b ∷ []) mark)) h

pub marked_stays : (up_to : Reader) (front : List ℕ) (mark : ℕ) (inside : List TextAtom) (other : List ℕ) → AreMarks front mark
    → up_to mark (sources inside ++ mark ∷ other) ≡ Some (inside, other)
    → atom_by up_to (opening_of (source (marked_reference front inside mark) ++ other))
    (source (marked_reference front inside mark) ++ other)
    ≡ Some (marked_reference front inside mark, other)
marked_stays up_to front mark inside other marks h =
    let P : ℕ → List ℕ → Type 0 = λ m f. up_to m (sources inside ++ m ∷ other) ≡ Some (inside, other)
    → atom_by up_to (opening_of (f ++ (sources inside ++ m ∷ other))) (f ++ (sources inside ++ m ∷ other)) ≡ Some
    (marked_reference f inside m, other) in
    let read : P mark front = elim marks [
      | inl brace ↦ subst₂ P (sym brace.1) (sym brace.0) (marked_by up_to 123 125 inside other refl)
      | inr parenthesis ↦ subst₂ P (sym parenthesis.1) (sym parenthesis.0) (marked_by up_to 40 41 inside other refl)
    ] in
    ap (λ l. atom_by up_to (opening_of l) l) (append_assoc (front ++ sources inside) (mark ∷ []) other ∙ append_assoc front (sources inside)
    (mark ∷ other)) ∙ read h

marked_atom_stays : (up_to : Reader) (front : List ℕ) (mark : ℕ) (read : Option (List TextAtom × List ℕ)) → AreMarks front mark
    → IfSome read (λ x. (other : List ℕ) → up_to mark (sources x.0 ++ mark ∷ other) ≡ Some (x.0, other))
    → IfSome (option_map (marked_first front mark) read) (λ x. StaysFirst up_to x.0 x.1)
marked_atom_stays up_to front mark None marks h = tt
marked_atom_stays up_to front mark (Some x) marks h = λ other like. marked_stays up_to front mark x.0 other marks (h other)

atom_stays : (up_to : Reader) → IsLocal up_to → (opening : Option Opening) (text : List ℕ) → opening_of text ≡ opening
    → IfSome (atom_by up_to opening text) (λ x. StaysFirst up_to x.0 x.1)
atom_stays up_to h None [] is = tt
atom_stays up_to h None (b ∷ rest) is = λ other like. ap (λ o. atom_by up_to o (b ∷ other)) (plain_stays b rest other is like)
atom_stays up_to h (Some Doubled) text is = λ other like. refl
atom_stays up_to h (Some Letter) text is =
    let front = (opens_with text Letter is).front in
    λ other like. letter_stays up_to front.0 other (take 2 text) (take 1 (drop 1 text)) front.1 front.2 (second_of text front.0 front.2)
atom_stays up_to h (Some (Marked mark)) text is =
    marked_atom_stays up_to (take 2 text) mark (up_to mark (drop 2 text)) (opens_with text (Marked mark) is).front (h mark (drop 2 text))

-- two texts that begin with the same bytes and a mark
starts_same : (front : List ℕ) (mark : ℕ) (rest other : List ℕ) → StartsLike (front ++ mark ∷ rest) (front ++ mark ∷ other)
starts_same [] mark rest other = refl
starts_same (b ∷ front) mark rest other = refl

head_same : (front rest other : List ℕ) → 0 < length front → get_or (front ++ rest) 0 0 ≡ get_or (front ++ other) 0 0
head_same [] rest other some = absurd (omega arith)
head_same (b ∷ front) rest other some = refl

-- one more atom, if the mark doesn't come first
read_step : (bound mark : ℕ) (text : List ℕ) (atom : TextAtom) (rest : List ℕ) → nat_eq (get_or text 0 0) mark ≡ false → 0 < length text
    → atom_by (read_up_to bound) (opening_of text) text ≡ Some (atom, rest) → read_up_to (suc bound) mark text ≡ option_map
    (atom_before atom) (read_up_to bound mark rest)
unfolding read_up_to
read_step bound mark [] atom rest other some is = absurd (omega arith)
read_step bound mark (b ∷ text) atom rest other some is =
    ap (λ t. cond t (Some ([], text)) (with_more (read_up_to bound mark) (atom_by (read_up_to bound) (opening_of (b ∷ text)) (b ∷ text))))
    other
    ∙ ap (with_more (read_up_to bound mark)) is

more_stays : (bound mark b : ℕ) (rest : List ℕ) (atom : TextAtom) (behind : List ℕ) (read : Option (List TextAtom × List ℕ))
    → nat_eq b mark ≡ false
    → IsAtomOf (b ∷ rest) atom behind → StaysFirst (read_up_to bound) atom behind
    → IfSome read (λ x. sources x.0 ++ mark ∷ x.1 ≡ behind)
    → IfSome read (λ x. (other : List ℕ) → read_up_to bound mark (sources x.0 ++ mark ∷ other) ≡ Some (x.0, other))
    → IfSome (option_map (atom_before atom) read) (λ x. (other : List ℕ)
    → read_up_to (suc bound) mark (sources x.0 ++ mark ∷ other) ≡ Some (x.0, other))
more_stays bound mark b rest atom behind None no_mark is stays whole h = tt
more_stays bound mark b rest atom behind (Some x) no_mark is stays whole h = λ other.
    let after : List ℕ = sources x.0 ++ mark ∷ other in
    let first : get_or (source atom ++ after) 0 0 ≡ b = head_same (source atom) after behind is.some ∙ ap (λ l. get_or l 0 0) is.whole in
    ap (read_up_to (suc bound) mark) (append_assoc (source atom) (sources x.0) (mark ∷ other))
    ∙ read_step bound mark (source atom ++ after) atom after (ap (λ n. nat_eq n mark) first ∙ no_mark)
    (omega (arith, is.some, length-append (source atom) after))
    (stays after (subst (λ l. StartsLike l after) whole (starts_same (sources x.0) mark x.1 other)))
    ∙ ap (option_map (atom_before atom)) (h other)

first_stays : (bound mark b : ℕ) (rest : List ℕ) (first : Option (TextAtom × List ℕ)) → nat_eq b mark ≡ false
    → IfSome first (λ x. IsAtomOf (b ∷ rest) x.0 x.1) → IfSome first (λ x. StaysFirst (read_up_to bound) x.0 x.1)
    → IsLocal (read_up_to bound)
    → IfSome (with_more (read_up_to bound mark) first) (λ x. (other : List ℕ)
    → read_up_to (suc bound) mark (sources x.0 ++ mark ∷ other) ≡ Some (x.0, other))
first_stays bound mark b rest None no_mark is stays h = tt
first_stays bound mark b rest (Some x) no_mark is stays h =
    more_stays bound mark b rest x.0 x.1 (read_up_to bound mark x.1) no_mark is stays (read_faithful bound mark x.1) (h mark x.1)

at_mark : (bound mark : ℕ) (other : List ℕ) → read_up_to (suc bound) mark (mark ∷ other) ≡ Some ([], other)
unfolding read_up_to
at_mark bound mark other =
    ap (λ t. cond t (Some ([], other))
    (with_more (read_up_to bound mark) (atom_by (read_up_to bound) (opening_of (mark ∷ other)) (mark ∷ other)))) (eq-eqb mark mark refl)

read_local : (bound : ℕ) → IsLocal (read_up_to bound)
unfolding read_up_to
read_local zero mark text = tt
read_local (suc bound) mark [] = tt
read_local (suc bound) mark (b ∷ rest) =
    elim (eqb_tells b mark) [
      | inl same ↦ rw same.0 (at_mark bound mark)
      | inr other ↦ rw other.0 (first_stays bound mark b rest (atom_by (read_up_to bound) (opening_of (b ∷ rest)) (b ∷ rest)) other.0
          (atom_whole (read_up_to bound) (read_faithful bound) (opening_of (b ∷ rest)) (b ∷ rest) refl)
          (atom_stays (read_up_to bound) (read_local bound) (opening_of (b ∷ rest)) (b ∷ rest) refl) (read_local bound))
    ]

local_by : (mark : ℕ) (text : List ℕ) (read : Option (List TextAtom × List ℕ)) → up_to_mark mark text ≡ read
    → IfSome read (λ x. (other : List ℕ) → up_to_mark mark (sources x.0 ++ mark ∷ other) ≡ Some (x.0, other))
local_by mark text None is = tt
local_by mark text (Some x) is = λ other.
    let after : List ℕ = sources x.0 ++ mark ∷ other in
    let bound : ℕ = length text + length after in
    let P : Option (List TextAtom × List ℕ)
    → Type 0 = λ o. IfSome o (λ y. (more : List ℕ) → read_up_to bound mark (sources y.0 ++ mark ∷ more) ≡ Some (y.0, more)) in
    sym (read_any bound mark after (omega arith)) ∙ subst P (read_any bound mark text (omega arith) ∙ is) (read_local bound mark text) other

pub up_to_local : IsLocal up_to_mark
up_to_local mark text = local_by mark text (up_to_mark mark text) refl

-- an atom is read the same before another rest
pub first_same : (text : List ℕ) (atom : TextAtom) (rest other : List ℕ) → first_atom text ≡ Some (atom, rest) → StartsLike rest other
    → first_atom (source atom ++ other) ≡ Some (atom, other)
unfolding first_atom
first_same text atom rest other is like =
    subst (λ o. IfSome o (λ x. StaysFirst up_to_mark x.0 x.1)) is (atom_stays up_to_mark up_to_local (opening_of text) text refl) other like

-- atoms that are read one after another before a rest
abbrev pub ReadBefore : List TextAtom → List ℕ → Type 0
ReadBefore [] rest = Unit {0}
ReadBefore (atom ∷ atoms) rest = (first_atom (source atom ++ (sources atoms ++ rest)) ≡ Some (atom, sources atoms ++ rest))
    × ReadBefore atoms rest

atom_size : (text : List ℕ) (atom : TextAtom) (rest : List ℕ) → first_atom text ≡ Some (atom, rest) → IsAtomOf text atom rest
atom_size text atom rest is = subst (λ o. IfSome o (λ x. IsAtomOf text x.0 x.1)) is (first_whole text)

before_more : (mark : ℕ) (text : List ℕ) (atom : TextAtom) (rest : List ℕ) (read : Option (List TextAtom × List ℕ))
    → first_atom text ≡ Some (atom, rest)
    → IfSome read (λ x. sources x.0 ++ mark ∷ x.1 ≡ rest) → IfSome read (λ x. ReadBefore x.0 (mark ∷ x.1))
    → IfSome (option_map (atom_before atom) read) (λ x. ReadBefore x.0 (mark ∷ x.1))
before_more mark text atom rest None is whole h = tt
before_more mark text atom rest (Some x) is whole h =
    let size = atom_size text atom rest is in
    (ap first_atom (ap (λ l. source atom ++ l) whole ∙ size.whole) ∙ is ∙ ap (λ l. Some (atom, l)) (sym whole), h)

before_first : (mark : ℕ) (text : List ℕ) (first : Option (TextAtom × List ℕ)) → first_atom text ≡ first
    → ((rest : List ℕ) → length rest < length text → IfSome (up_to_mark mark rest) (λ x. ReadBefore x.0 (mark ∷ x.1)))
    → IfSome (with_more (up_to_mark mark) first) (λ x. ReadBefore x.0 (mark ∷ x.1))
before_first mark text None is h = tt
before_first mark text (Some x) is h =
    let size = atom_size text x.0 x.1 is in
    before_more mark text x.0 x.1 (up_to_mark mark x.1) is (up_to_faithful mark x.1)
    (h x.1 (omega (arith, size.some, ap length size.whole, length-append (source x.0) x.1)))

read_before : (bound mark : ℕ) (text : List ℕ) → length text ≤ bound → IfSome (up_to_mark mark text) (λ x. ReadBefore x.0 (mark ∷ x.1))
read_before bound mark [] low = rw (up_to-nil mark) tt
read_before zero mark (b ∷ rest) low = absurd (omega arith)
read_before (suc bound) mark (b ∷ rest) low =
    rw (up_to-cons mark b rest)
    (elim (eqb_tells b mark) [
      | inl same ↦ rw same.0 tt
      | inr other ↦ rw other.0 (before_first mark (b ∷ rest) (first_atom (b ∷ rest)) refl
          (λ text near. read_before bound mark text (omega arith)))
    ])

like_source : (front back rest other : List ℕ) → 0 < length front → StartsLike ((front ++ back) ++ rest) ((front ++ other) ++ [])
like_source [] back rest other some = absurd (omega arith)
like_source (b ∷ front) back rest other some = refl

like_front : (atoms more : List TextAtom) (rest : List ℕ) → ReadBefore (atoms ++ more) rest
    → StartsLike (sources (atoms ++ more) ++ rest) (sources atoms ++ [])
like_front [] more rest h = tt
like_front (atom ∷ atoms) more rest h =
    let size = atom_size (source atom ++ (sources (atoms ++ more) ++ rest)) atom (sources (atoms ++ more) ++ rest) h.0 in
    like_source (source atom) (sources (atoms ++ more)) rest (sources atoms) size.some

-- the first of the atoms, alone
read_front : (atoms more : List TextAtom) (rest : List ℕ) → ReadBefore (atoms ++ more) rest → ReadBefore atoms []
read_front [] more rest h = tt
read_front (atom ∷ atoms) more rest h = (
  first_same (source atom ++ (sources (atoms ++ more) ++ rest)) atom (sources (atoms ++ more) ++ rest) (sources atoms ++ []) h.0
      (like_front atoms more rest h.1),
  read_front atoms more rest h.1,
)

-- atoms that are read alone leave nothing
alone_whole : (atoms : List TextAtom) → ReadBefore atoms [] → left_of (sources atoms) ≡ []
alone_whole [] h = ap (λ x. x.1) (cut-next [] ∙ ap (cut_on cut []) first-nil)
alone_whole (atom ∷ atoms) h =
    let first : first_atom (source atom ++ sources atoms) ≡ Some (atom, sources atoms) =
    subst (λ l. first_atom (source atom ++ l) ≡ Some (atom, l)) (append-nil (sources atoms)) h.0 in
    ap (λ x. x.1) (cut-next (source atom ++ sources atoms) ∙ ap (cut_on cut (source atom ++ sources atoms)) first) ∙ alone_whole atoms h.1

-- atoms that are read alone are those that their text is cut into
alone_cut : (atoms : List TextAtom) → ReadBefore atoms [] → cut (sources atoms) ≡ (atoms, [])
alone_cut [] h = cut-next [] ∙ ap (cut_on cut []) first-nil
alone_cut (atom ∷ atoms) h =
    let first : first_atom (source atom ++ sources atoms) ≡ Some (atom, sources atoms) =
    subst (λ l. first_atom (source atom ++ l) ≡ Some (atom, l)) (append-nil (sources atoms)) h.0 in
    cut-next (source atom ++ sources atoms) ∙ ap (cut_on cut (source atom ++ sources atoms)) first
    ∙ ap (atom_before atom) (alone_cut atoms h.1)

front_by : (test : Bool) (atom : TextAtom) (atoms : List TextAtom) → (more : List TextAtom) × (atoms ≡ before_colon atoms ++ more)
    → (more : List TextAtom) × (atom ∷ atoms ≡ cond test [] (atom ∷ before_colon atoms) ++ more)
front_by true atom atoms h = (atom ∷ atoms, refl)
front_by false atom atoms h = (h.0, ap (λ l. atom ∷ l) h.1)

front_of : (atoms : List TextAtom) → (more : List TextAtom) × (atoms ≡ before_colon atoms ++ more)
front_of [] = ([], refl)
front_of (atom ∷ atoms) = front_by (is_colon atom) atom atoms (front_of atoms)

after_by : (test : Bool) (atoms : List TextAtom) (rest : List ℕ) → ReadBefore atoms rest
    → IfSome (following_colon atoms) (λ found. ReadBefore found rest)
    → IfSome (cond test (Some atoms) (following_colon atoms)) (λ found. ReadBefore found rest)
after_by true atoms rest h more = h
after_by false atoms rest h more = more

after_read : (atoms : List TextAtom) (rest : List ℕ) → ReadBefore atoms rest
    → IfSome (following_colon atoms) (λ found. ReadBefore found rest)
after_read [] rest h = tt
after_read (atom ∷ atoms) rest h = after_by (is_colon atom) atoms rest h.1 (after_read atoms rest h.1)

name_whole : (atoms : List TextAtom) (rest : List ℕ) → ReadBefore atoms rest → left_of (sources (before_colon atoms)) ≡ []
name_whole atoms rest h =
    let front = front_of atoms in
    alone_whole (before_colon atoms) (read_front (before_colon atoms) front.0 rest (subst (λ l. ReadBefore l rest) front.1 h))

modifiers_whole : (rest : List ℕ) (found : Option (List TextAtom)) → IfSome found (λ atoms. ReadBefore atoms rest)
    → IfSome (option_map sources found) (λ text. left_of text ≡ [])
modifiers_whole rest None h = tt
modifiers_whole rest (Some atoms) h =
    alone_whole atoms (read_front atoms [] rest (subst (λ l. ReadBefore l rest) (sym (append-nil atoms)) h))

first_letter : (letter : ℕ) → first_atom (letter ∷ []) ≡ Some (Byte letter, [])
unfolding first_atom
first_letter letter = elim (eqb_tells letter 36) [ inl dollar ↦ rw dollar.0 refl | inr other ↦ rw other.0 refl ]

letter_whole : (letter : ℕ) → left_of (letter ∷ []) ≡ []
letter_whole letter = alone_whole (Byte letter ∷ []) (first_letter letter, tt)

parts_marked : (front : List ℕ) (mark : ℕ) (read : Option (List TextAtom × List ℕ)) → IfSome read (λ x. ReadBefore x.0 (mark ∷ x.1))
    → IfSome (option_map (marked_first front mark) read) (λ x. HasWholeParts x.0)
parts_marked front mark None h = tt
parts_marked front mark (Some x) h = (
  name_whole x.0 (mark ∷ x.1) h,
  modifiers_whole (mark ∷ x.1) (following_colon x.0)
      (after_read x.0 (mark ∷ x.1) h),
)

parts_whole : (opening : Option Opening) (text : List ℕ) → opening_of text ≡ opening → IfSome (atom_by up_to_mark opening text)
    (λ x. HasWholeParts x.0)
parts_whole None [] is = tt
parts_whole None (b ∷ rest) is = tt
parts_whole (Some Doubled) text is = tt
parts_whole (Some Letter) text is =
    let front = (opens_with text Letter is).front in
    (ap left_of (second_of text front.0 front.2) ∙ letter_whole front.0, tt)
parts_whole (Some (Marked mark)) text is = parts_marked (take 2 text) mark (up_to_mark mark (drop 2 text))
    (read_before (length (drop 2 text)) mark (drop 2 text) (omega arith))

first_parts : (text : List ℕ) → IfSome (first_atom text) (λ x. HasWholeParts x.0)
unfolding first_atom
first_parts text = parts_whole (opening_of text) text refl

pub atoms-whole : (text : List ℕ) → All HasWholeParts (cut text).0
atoms-whole text = cut_all HasWholeParts first_parts text

read_all : (atoms : List TextAtom) (rest : List ℕ) → ReadBefore atoms rest → ReadBefore atoms []
read_all atoms rest h = read_front atoms [] rest (subst (λ l. ReadBefore l rest) (sym (append-nil atoms)) h)

cut_modifiers : (rest : List ℕ) (found : Option (List TextAtom)) → IfSome found (λ atoms. ReadBefore atoms rest)
    → IfSome found (λ atoms. cut (sources atoms) ≡ (atoms, []))
cut_modifiers rest None h = tt
cut_modifiers rest (Some atoms) h = alone_cut atoms (read_all atoms rest h)

cut_inside : (rest : List ℕ) (atoms : List TextAtom) → ReadBefore atoms rest → AreCutAlone atoms
cut_inside rest atoms h =
    let front = front_of atoms in
    record {
      inside = alone_cut atoms (read_all atoms rest h);
      name = alone_cut (before_colon atoms) (read_front (before_colon atoms) front.0 rest (subst (λ l. ReadBefore l rest) front.1 h));
      modifiers = cut_modifiers rest (following_colon atoms) (after_read atoms rest h);
    }

cut_read : (mark : ℕ) (read : Option (List TextAtom × List ℕ)) → IfSome read (λ x. ReadBefore x.0 (mark ∷ x.1))
    → IfSome read (λ x. AreCutAlone x.0)
cut_read mark None h = tt
cut_read mark (Some x) h = cut_inside (mark ∷ x.1) x.0 h

-- what is read inside a reference is cut the same alone
pub inside-alone : (mark : ℕ) (text : List ℕ) → IfSome (up_to_mark mark text) (λ x. AreCutAlone x.0)
inside-alone mark text = cut_read mark (up_to_mark mark text) (read_before (length text) mark text (omega arith))
