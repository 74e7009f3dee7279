-- What texts with references in them mean among variables (make(1), "VARIABLES"). The order in which faults
-- are looked for, the limits and the cost are this project's choice.
use Rattle.std.specs.Prelude.{ℕ, suc, zero, Bool, false, true, if◌then◌else◌, nat_lt, List, [], ◌∷◌, ◌++◌, length}
use Rattle.std.specs.Prelude.{Option, Some, None, option_map}
use Rattle.std.specs.List.{list_any}
use Rattle.std.specs.Str.{bytes_eq}
use Rattle.general_facts.specs.Ascii.{dollar}
use Rattle.mk_base.specs.declared.faults.FaultKind.{FaultKind}
use Rattle.mk_base.specs.declared.faults.FaultKind.TheVariants as kinds
use Rattle.mk_base.specs.Meter.{Meter, pay}
use Rattle.mk_base.specs.Outcome.{Work, give, fail, each, ◌>>=◌}
use Rattle.mk_text.specs.Words.{words_of}
use Rattle.mk_ref.specs.Atoms.{TextAtom, sources, before_colon, following_colon, atoms_of, left_of}
use Rattle.mk_ref.specs.Pieces.{TextPiece, LiteralPiece, EscapedDollarPiece, ReferencePiece, pieces_of}
use Rattle.mk_text.specs.declared.limits.TheConstants.{TEXT_LIMIT}
use Rattle.mk_mods.specs.Actions.{Symbol, Byte, Whole, Reference, Action, Match, Exclude, Substitute, Change, Suffix}
use Rattle.mk_mods.specs.Grammar.{modifiers_of}
use Rattle.mk_mods.specs.Joined.{joined, within_limit}
use Rattle.mk_mods.specs.Applied.{applied}
use Rattle.mk_mods.specs.Substituted.{substituted}
use Rattle.mk_env.specs.declared.scope.Undefined.{Undefined}
use Rattle.mk_env.specs.declared.scope.Undefined.TheVariants as kept
use Rattle.mk_text.specs.declared.profile.Profile.{Profile}
use Rattle.mk_env.specs.Texts.{Variables, language_of, text_in}

-- what a text means
abbrev pub Meaning : Type 0
Meaning = List ℕ → Work Meter FaultKind (List ℕ)

-- what references mean: each is given by all that it is written as, by its name and by its modifiers
abbrev pub References : Type 0
References = List ℕ → List ℕ → Option (List ℕ) → Work Meter FaultKind (List ℕ)

-- a text; it is a fault if it is too long
abbrev pub bounded : Meaning
bounded text m = if nat_lt TEXT_LIMIT (length text) then fail kinds.Length m else give text m

-- a text with what follows joined on
abbrev pub join : List ℕ → Work Meter FaultKind (List ℕ) → Work Meter FaultKind (List ℕ)
join text more = more >>= λ found. bounded (text ++ found)

-- what a piece of a text means: a pair is a dollar
abbrev pub piece_meaning : References → TextPiece → Work Meter FaultKind (List ℕ)
piece_meaning references (LiteralPiece bytes) = give bytes
piece_meaning references EscapedDollarPiece = give (dollar ∷ [])
piece_meaning references (ReferencePiece written name modifiers) = references written name modifiers

-- a text with the meaning of its next piece joined on
abbrev pub join_piece : References → List ℕ → TextPiece → Work Meter FaultKind (List ℕ)
join_piece references text piece = join text (piece_meaning references piece)

-- The meanings of pieces, joined from the left. If some of the text is left, it begins a reference that
-- doesn't end. That is a fault before any piece is looked at.
abbrev pub where_whole : References → List ℕ → List TextPiece → Work Meter FaultKind (List ℕ)
where_whole references [] pieces = each (join_piece references) [] pieces
where_whole references (b ∷ left) pieces = fail kinds.Reference

-- what a text means, given what its references mean
unfoldable pub text_meaning : References → Meaning
text_meaning references text m = where_whole references (left_of text) (pieces_of (atoms_of text)) m

-- what a symbol of `:S` means, given the old text: a reference is expanded as a text of its own
abbrev pub symbol_meaning : References → List ℕ → Symbol → Work Meter FaultKind (List ℕ)
symbol_meaning references old (Byte b) = give (b ∷ [])
symbol_meaning references old Whole = give old
symbol_meaning references old (Reference source) = text_meaning references source

-- a text with the meaning of its next symbol joined on
abbrev pub join_symbol : References → List ℕ → List ℕ → Symbol → Work Meter FaultKind (List ℕ)
join_symbol references old text symbol = join text (symbol_meaning references old symbol)

-- the meanings of symbols, joined from the left
abbrev pub symbols_meaning : References → List ℕ → List Symbol → Work Meter FaultKind (List ℕ)
symbols_meaning references old symbols = each (join_symbol references old) [] symbols

-- a text that was made; if there is none, it would be too long, and that is a fault
abbrev pub made : Option (List ℕ) → Work Meter FaultKind (List ℕ)
made None = fail kinds.Length
made (Some text) = give text

-- What a modifier makes of a value: the references in it are expanded, and then it is applied. A pattern is
-- expanded before it is read as a pattern. The old text of `:S`, or of `old=new`, is expanded before the new one.
abbrev pub modified : References → List ℕ → Action → Work Meter FaultKind (List ℕ)
modified references value (Match pattern) = text_meaning references pattern >>= λ found. made (applied (Match found) value)
modified references value (Exclude pattern) = text_meaning references pattern >>= λ found. made (applied (Exclude found) value)
modified references value (Substitute s) =
    symbols_meaning references [] s.old >>= λ old. symbols_meaning references old s.new
    >>= λ new. made (within_limit (joined (substituted s old new (words_of value))))
modified references value (Change word_map) = made (applied (Change word_map) value)
modified references value (Suffix old new) =
    text_meaning references old >>= λ old. text_meaning references new >>= λ new. made (applied (Suffix old new) value)

-- the modifiers of a reference in this profile; None if they can't be read
abbrev pub actions_of : Profile → Option (List ℕ) → Option (List Action)
actions_of profile None = Some []
actions_of profile (Some text) = modifiers_of profile text

-- the modifiers that were read; if they couldn't be read, that is a fault
abbrev pub readable : Option (List Action) → Work Meter FaultKind (List Action)
readable None = fail kinds.Modifier
readable (Some actions) = give actions

-- what a variable's value means: an empty text if it has none
abbrev pub value_meaning : References → Option (List ℕ) → Work Meter FaultKind (List ℕ)
value_meaning references None = give []
value_meaning references (Some value) = text_meaning references value

-- the name is one of these
abbrev pub is_among : List ℕ → List (List ℕ) → Bool
is_among name names = list_any (bytes_eq name) names

-- the modifiers of a reference to this name; it is a fault if the value of the name is being expanded
abbrev pub modifiers_for : Profile → List (List ℕ) → List ℕ → Option (List ℕ) → Work Meter FaultKind (List Action)
modifiers_for profile active name modifiers =
    if is_among name active then fail kinds.Recursive else readable (actions_of profile modifiers)

-- What a reference means once its name is known. `references` says what others mean while the values of some
-- names are being expanded. The modifiers are read, the value is expanded, and the modifiers are applied
-- from left to right.
abbrev pub named_meaning :
    (List (List ℕ) → References) → Variables → List (List ℕ) → List ℕ → Option (List ℕ) → Work Meter FaultKind (List ℕ)
named_meaning references variables active name modifiers =
    modifiers_for (language_of variables) active name modifiers
    >>= λ actions. value_meaning (references (name ∷ active)) (text_in variables name)
    >>= λ value. each (modified (references active)) value actions

-- whether a reference to a variable with this text, or with none, is kept as it is written
abbrev pub is_kept : Undefined → Option (List ℕ) → Bool
is_kept kept.Empty text = false
is_kept kept.Kept None = true
is_kept kept.Kept (Some text) = false

-- what a reference that is written like this means, once its name is known
abbrev pub by_name : Undefined → (List (List ℕ) → References) → Variables → List (List ℕ) → List ℕ → Option (List ℕ)
    → List ℕ → Work Meter FaultKind (List ℕ)
by_name undefined_gives references variables active written modifiers name =
    if is_kept undefined_gives (text_in variables name) then give written else named_meaning references variables active name modifiers

-- The beginning of a reference, if this many references may be nested, itself included. Its unit is paid
-- before anything else is looked at. Then it is a fault if the reference is nested too deep.
unfoldable pub enter_reference : ℕ → Work Meter FaultKind (Unit {0})
enter_reference zero m = (pay >>= λ _. fail kinds.Depth) m
enter_reference (suc levels) m = pay m

-- What a reference means if this many may be nested, itself included, and while the values of these names
-- are being expanded. It costs a unit; then its name is expanded. The first argument says what becomes of
-- the reference if that name isn't defined.
unfoldable pub reference : Undefined → ℕ → Variables → List (List ℕ) → References
reference undefined_gives zero variables active written name modifiers m = (pay >>= λ _. fail kinds.Depth) m
reference undefined_gives (suc levels) variables active written name modifiers m =
    (pay >>= λ _. text_meaning (reference kept.Empty levels variables active) name
    >>= by_name undefined_gives (reference kept.Empty levels variables) variables active written modifiers) m

-- what a text means among these variables
abbrev pub expand : Variables → Meaning
expand variables = text_meaning (reference kept.Empty 32 variables [])

-- the same for `:=`: a reference in the text itself to a variable that isn't defined is kept as
-- it is written
abbrev pub expand_now : Variables → Meaning
expand_now variables = text_meaning (reference kept.Kept 32 variables [])

-- what a reference to the variable of exactly this name means, if it isn't inside another reference
abbrev pub variable : Variables → Meaning
variable variables name = pay >>= λ _. named_meaning (reference kept.Empty 31 variables) variables [] name None

-- What a reference means that is given by its inside, of which these atoms are read and this is left. Its
-- name is the atoms before the first colon outside references. Its modifiers are the atoms after that colon.
-- If a reference inside it doesn't end, that is a fault before anything is paid.
abbrev pub by_inside : References → List ℕ → List TextAtom → List ℕ → Work Meter FaultKind (List ℕ)
by_inside references text atoms [] = references text (sources (before_colon atoms)) (option_map sources (following_colon atoms))
by_inside references text atoms (b ∷ left) = fail kinds.Reference

-- What a reference with this inside means, if it isn't inside another reference. A mark that would close it
-- is a byte like any other. It is never kept as it is written, so only its name and its modifiers count.
abbrev pub inside_meaning : Variables → Meaning
inside_meaning variables text = by_inside (reference kept.Empty 32 variables []) text (atoms_of text) (left_of text)

-- What these modifiers make of a text that is given, such as the word that a loop puts in the place of a
-- reference. That reference is already paid for, and the references in the modifiers count as inside it.
abbrev pub modified_by : Variables → List ℕ → List ℕ → Work Meter FaultKind (List ℕ)
modified_by variables modifiers text =
    readable (modifiers_of (language_of variables) modifiers)
    >>= λ actions. each (modified (reference kept.Empty 31 variables [])) text actions
