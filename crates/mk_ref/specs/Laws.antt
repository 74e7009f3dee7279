-- What holds of the atoms of every text.
use Rattle.std.specs.Prelude.{◌≡◌, ◌≢◌, ◌⊎◌, ◌↔◌, ℕ, true, false, ◌==◌, List, [], ◌∷◌, ◌++◌, length, drop, slice_index, Option}
use Rattle.std.specs.Prelude.{Some, None, IfSome, All, map, if◌then◌else◌}
use Rattle.std.specs.Char.{is_ascii_alphabetic}
use Rattle.std.specs.List.{flat_map, list_any}
use Rattle.general_facts.specs.Ascii.{dollar, left_paren, right_paren, colon, left_brace, right_brace}
use Rattle.mk_ref.specs.Outside.{outside}
use Rattle.mk_ref.specs.declared.opening.Opening.TheVariants.{Marked}
use Rattle.mk_ref.specs.Pieces.{atoms_in, pieces_of}
use Rattle.mk_ref.specs.Atoms.{TextAtom, Byte, EscapedDollar, Reference, opening_of, sources, before_colon, following_colon}
use Rattle.mk_ref.specs.Atoms.{with_more, cut_on, up_to_mark, first_atom, cut, atoms_of, left_of}

-- the atoms of a text and what is left, put together, are the text
abbrev pub AtomsAreText : Type 0
AtomsAreText = (text : List ℕ) → sources (atoms_of text) ++ left_of text ≡ text

-- modifiers with the colon before them
abbrev pub with_colon : Option (List ℕ) → List ℕ
with_colon None = []
with_colon (Some modifiers) = colon ∷ modifiers

-- the first two bytes of a reference and its closing mark: `${` and `}`, or `$(` and `)`
abbrev pub AreMarks : List ℕ → ℕ → Type 0
AreMarks front mark =
    ((front ≡ dollar ∷ left_brace ∷ []) × (mark ≡ right_brace)) ⊎ ((front ≡ dollar ∷ left_paren ∷ []) × (mark ≡ right_paren))

-- a reference of one letter: a `$` and its name, without modifiers
pub record IsLetterReference (written name : List ℕ) (modifiers : Option (List ℕ)) : Type 0 where
  pub letter : ℕ
  pub is_letter : is_ascii_alphabetic letter ≡ true
  pub written_as : written ≡ dollar ∷ letter ∷ []
  pub named : name ≡ letter ∷ []
  pub bare : modifiers ≡ None

-- a reference with marks: between its marks are its name and, if it has modifiers, the colon and these
pub record IsMarkedReference (written name : List ℕ) (modifiers : Option (List ℕ)) : Type 0 where
  pub front : List ℕ
  pub mark : ℕ
  pub marks : AreMarks front mark
  pub written_as : written ≡ front ++ name ++ with_colon modifiers ++ mark ∷ []

-- a reference is its name and its modifiers put together with their marks
abbrev pub IsPutTogether : TextAtom → Type 0
IsPutTogether (Byte b) = Unit {0}
IsPutTogether EscapedDollar = Unit {0}
IsPutTogether (Reference written name modifiers) = IsLetterReference written name modifiers ⊎ IsMarkedReference written name modifiers

-- each reference of a text is put together from its name and its modifiers
abbrev pub ReferencesArePutTogether : Type 0
ReferencesArePutTogether = (text : List ℕ) → All IsPutTogether (atoms_of text)

-- every reference in the name and in the modifiers of a reference ends there: cut alone, they leave nothing
abbrev pub HasWholeParts : TextAtom → Type 0
HasWholeParts (Byte b) = Unit {0}
HasWholeParts EscapedDollar = Unit {0}
HasWholeParts (Reference written name modifiers) = (left_of name ≡ []) × IfSome modifiers (λ text. left_of text ≡ [])

-- the name and the modifiers of each reference of a text are cut alone with nothing left
abbrev pub PartsAreWhole : Type 0
PartsAreWhole = (text : List ℕ) → All HasWholeParts (atoms_of text)

-- the inside of a reference, its name and its modifiers, each cut alone, have the atoms that are read of
-- them in their place
pub record AreCutAlone (atoms : List TextAtom) : Type 0 where
  pub inside : cut (sources atoms) ≡ (atoms, [])
  pub name : cut (sources (before_colon atoms)) ≡ (before_colon atoms, [])
  pub modifiers : IfSome (following_colon atoms) (λ more. cut (sources more) ≡ (more, []))

-- this holds for the inside of each reference
abbrev pub InsidesAreCutAlone : Type 0
InsidesAreCutAlone = (mark : ℕ) (text : List ℕ) → IfSome (up_to_mark mark text) (λ read. AreCutAlone read.0)

-- pieces are made of the atoms that they are the pieces of
abbrev pub PiecesAreAtoms : Type 0
PiecesAreAtoms = (atoms : List TextAtom) → flat_map atoms_in (pieces_of atoms) ≡ atoms

-- a text is cut by cutting off its first atom and then cutting what follows that
abbrev pub CutGoesOn : Type 0
CutGoesOn = (text : List ℕ) → cut text ≡ cut_on cut text (first_atom text)

-- atoms up to a mark are read one after another, until the mark comes first
abbrev pub ReadGoesOn : Type 0
ReadGoesOn = (mark b : ℕ) (rest : List ℕ)
    → up_to_mark mark (b ∷ rest) ≡ (if b == mark then Some ([], rest) else with_more (up_to_mark mark) (first_atom (b ∷ rest)))

-- a text without a dollar is cut into its bytes, and nothing is left
abbrev pub DollarsAlonePartTexts : Type 0
DollarsAlonePartTexts = (text : List ℕ) → list_any (λ b. b == dollar) text ≡ false → cut text ≡ (map Byte text, [])

-- what `outside` gives is as long as the text, and each of its bytes that isn't a dollar is the text's
-- byte at the same place
abbrev pub OutsideKeepsPlaces : Type 0
OutsideKeepsPlaces = (text : List ℕ)
    → (length (outside text) ≡ length text)
    × ((at : ℕ) → slice_index (outside text) at ≢ dollar → slice_index (outside text) at ≡ slice_index text at)

-- a mark that closes a reference: `}` or `)`
abbrev pub ClosesReferences : ℕ → Type 0
ClosesReferences mark = (mark ≡ right_brace) ⊎ (mark ≡ right_paren)

-- A text is what these atoms are written as, a mark, and a rest. Before the mark it is cut into just these atoms,
-- with nothing left, and none of them is the mark itself. So the mark is the first one outside references.
pub record IsUpToMark (mark : ℕ) (text : List ℕ) (atoms : List TextAtom) (rest : List ℕ) : Type 0 where
  pub written : text ≡ sources atoms ++ mark ∷ rest
  pub alone : cut (sources atoms) ≡ (atoms, [])
  pub first : All (λ atom. atom ≢ Byte mark) atoms

-- the atoms up to a closing mark are exactly those up to the first one outside references
abbrev pub ReadsToTheFirstMark : Type 0
ReadsToTheFirstMark = (mark : ℕ) (text : List ℕ) (atoms : List TextAtom) (rest : List ℕ) → ClosesReferences mark
    → (up_to_mark mark text ≡ Some (atoms, rest)) ↔ IsUpToMark mark text atoms rest

-- a text begins with the first two bytes of a reference that no mark closes
pub record NeverCloses (text : List ℕ) : Type 0 where
  pub mark : ℕ
  pub begins : opening_of text ≡ Some (Marked mark)
  pub unclosed : (atoms : List TextAtom) (rest : List ℕ) → ¬ IsUpToMark mark (drop 2 text) atoms rest

-- what is left of a text after its atoms is nothing, or begins with a reference that no mark closes
abbrev pub OnlyTheUnclosedIsLeft : Type 0
OnlyTheUnclosedIsLeft = (text : List ℕ) → (left_of text ≡ []) ⊎ NeverCloses (left_of text)
