-- References in a text of the make language. make(1) ("VARIABLES") says that `${NAME}` and `$(NAME)` refer
-- to a variable, and so does a `$` with one letter. It says too that `$$` means a dollar, and that modifiers follow
-- a colon. It is this project's choice that only an ASCII letter makes a reference of one letter, that any
-- other `$` is itself, and where exactly a reference ends. A text is its bytes.
use Rattle.std.specs.Prelude.{◌==◌, ℕ, suc, zero, Bool, false, List, [], ◌∷◌, ◌++◌, length, take, drop, Option, Some}
use Rattle.std.specs.Prelude.{None, option_map, if◌then◌else◌}
use Rattle.std.specs.Char.{is_ascii_alphabetic}
use Rattle.std.specs.List.{flat_map}
use Rattle.general_facts.specs.Ascii.{dollar, left_paren, right_paren, colon, left_brace, right_brace}
use Rattle.mk_ref.specs.declared.opening.Opening.{Opening}
use Rattle.mk_ref.specs.declared.opening.Opening.TheVariants.{Doubled, Letter, Marked}

-- what a text is made of: a byte that means itself; a pair, `$$`; or a reference, with all that it is
-- written as, its name and its modifiers. The modifiers are what follows the colon, if there is one.
-- References may be in a name and in modifiers.
pub data TextAtom : Type 0 where
  Byte : ℕ → TextAtom
  EscapedDollar : TextAtom
  Reference : List ℕ → List ℕ → Option (List ℕ) → TextAtom

-- what an atom is written as
abbrev pub source : TextAtom → List ℕ
source (Byte b) = b ∷ []
source EscapedDollar = dollar ∷ dollar ∷ []
source (Reference written name modifiers) = written

-- what atoms are written as, one after another
abbrev pub sources : List TextAtom → List ℕ
sources atoms = flat_map source atoms

-- a colon outside references
abbrev pub is_colon : TextAtom → Bool
is_colon (Byte b) = b == colon
is_colon EscapedDollar = false
is_colon (Reference written name modifiers) = false

-- the atoms before the first colon outside references; all of them if there is none
abbrev pub before_colon : List TextAtom → List TextAtom
before_colon [] = []
before_colon (atom ∷ atoms) = if is_colon atom then [] else atom ∷ before_colon atoms

-- the atoms after the first colon outside references, if there is one
abbrev pub following_colon : List TextAtom → Option (List TextAtom)
following_colon [] = None
following_colon (atom ∷ atoms) = if is_colon atom then Some atoms else following_colon atoms

-- What a `$` makes with what follows it. With a second `$` it makes a pair, and with an ASCII letter a
-- reference of one letter. With `{` or `(` it begins a reference, which `}` or `)`
-- closes. With anything else, or nothing, it is itself.
abbrev pub opening_after : List ℕ → Option Opening
opening_after [] = None
opening_after (b ∷ rest) =
    if b == dollar then Some Doubled
    else if b == left_brace then Some (Marked right_brace)
    else if b == left_paren then Some (Marked right_paren)
    else if is_ascii_alphabetic b then Some Letter
    else None

-- what a text begins with, if that is a `$` which makes more than itself; it takes two bytes
abbrev pub opening_of : List ℕ → Option Opening
opening_of [] = None
opening_of (b ∷ rest) = if b == dollar then opening_after rest else None

-- the reference that begins with these two bytes and has these atoms inside and this closing mark
abbrev pub marked_reference : List ℕ → List TextAtom → ℕ → TextAtom
marked_reference front inside mark =
    Reference (front ++ sources inside ++ mark ∷ []) (sources (before_colon inside)) (option_map sources (following_colon inside))

-- such a reference and what follows it, from what was read after its first two bytes
abbrev pub marked_first : List ℕ → ℕ → List TextAtom × List ℕ → TextAtom × List ℕ
marked_first front mark read = (marked_reference front read.0 mark, read.1)

-- The atom that a text begins with, and what follows it; `up_to` gives the atoms up to a closing mark. None
-- if the text is empty, and if a reference begins that doesn't end.
abbrev pub atom_by : (ℕ → List ℕ → Option (List TextAtom × List ℕ)) → Option Opening → List ℕ → Option (TextAtom × List ℕ)
atom_by up_to None [] = None
atom_by up_to None (b ∷ rest) = Some (Byte b, rest)
atom_by up_to (Some Doubled) text = Some (EscapedDollar, drop 2 text)
atom_by up_to (Some Letter) text = Some (Reference (take 2 text) (take 1 (drop 1 text)) None, drop 2 text)
atom_by up_to (Some (Marked mark)) text =
    option_map (marked_first (take 2 text) mark) (up_to mark (drop 2 text))

-- an atom before atoms that were read
abbrev pub atom_before : TextAtom → List TextAtom × List ℕ → List TextAtom × List ℕ
atom_before atom read = (atom ∷ read.0, read.1)

-- an atom before the atoms that `more` reads after it
abbrev pub with_more : (List ℕ → Option (List TextAtom × List ℕ)) → Option (TextAtom × List ℕ) → Option (List TextAtom × List ℕ)
with_more more None = None
with_more more (Some (atom, rest)) = option_map (atom_before atom) (more rest)

-- The atoms of a text up to the first closing mark outside references, and what follows that mark. None if
-- there is no such mark or a reference before it doesn't end. The first argument bounds how many atoms are
-- read.
unfoldable pub read_up_to : ℕ → ℕ → List ℕ → Option (List TextAtom × List ℕ)
read_up_to zero mark text = None
read_up_to (suc fuel) mark [] = None
read_up_to (suc fuel) mark (b ∷ rest) =
    if b == mark then Some ([], rest)
    else with_more (read_up_to fuel mark) (atom_by (read_up_to fuel) (opening_of (b ∷ rest)) (b ∷ rest))

-- the same with no bound: a text has no more atoms than bytes
unfoldable pub up_to_mark : ℕ → List ℕ → Option (List TextAtom × List ℕ)
up_to_mark mark text = read_up_to (length text) mark text

-- the atom that a text begins with, and what follows it; none if the text is empty, and if a reference
-- begins that doesn't end
unfoldable pub first_atom : List ℕ → Option (TextAtom × List ℕ)
first_atom text = atom_by up_to_mark (opening_of text) text

-- an atom before the cut that `more` makes of what follows it; if a text begins with no atom, nothing is cut
-- off it
abbrev pub cut_on : (List ℕ → List TextAtom × List ℕ) → List ℕ → Option (TextAtom × List ℕ) → List TextAtom × List ℕ
cut_on more text None = ([], text)
cut_on more text (Some (atom, rest)) = atom_before atom (more rest)

-- a text cut into its first atoms, at most as many as the first argument says, and what is left
unfoldable pub cut_by : ℕ → List ℕ → List TextAtom × List ℕ
cut_by zero text = ([], text)
cut_by (suc fuel) text = cut_on (cut_by fuel) text (first_atom text)

-- all atoms of a text, and what is left: nothing, or the text from the first reference on that doesn't end
unfoldable pub cut : List ℕ → List TextAtom × List ℕ
cut text = cut_by (length text) text

-- the atoms of a text
abbrev pub atoms_of : List ℕ → List TextAtom
atoms_of text = (cut text).0

-- what is left of a text after its atoms: nothing, or the text from the first reference on that doesn't end
abbrev pub left_of : List ℕ → List ℕ
left_of text = (cut text).1
