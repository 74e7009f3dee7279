-- What functions give that expand. A relation has the result, the budget before and after, and what was expanded.
use Rattle.std.specs.Prelude.{◌≡◌, ◌≤◌, ℕ, ◌-◌, List, ◌++◌, length, map, Option, Result, Ok, IfOk, String, string_bytes}
use Rattle.std.specs.Prelude.{Vec}
use Rattle.std.specs.Borrow.{Bor}
use Rattle.std.specs.List.{flat_map}
use Rattle.std.specs.declared.alloc.Global.{Global}
use Rattle.mk_base.specs.declared.faults.FaultKind.{FaultKind}
use Rattle.mk_base.specs.declared.stops.PureStop.{PureStop}
use Rattle.mk_base.specs.Meter.{Meter}
use Rattle.mk_base.specs.Outcome.{Work, each}
use Rattle.mk_base.specs.Stops.{GivesPurely}
use Rattle.mk_text.specs.declared.limits.TheConstants.{TEXT_LIMIT}
use Rattle.mk_mods.specs.declared.modifiers.Modifier.{Modifier}
use Rattle.mk_mods.specs.declared.modifiers.Part.{Part}
use Rattle.mk_mods.specs.Actions.{Action, action_of, symbols_of}
use Rattle.mk_mods.specs.Applied.{applied}
use Rattle.mk_env.specs.declared.mentions.Mention.{Mention}
use Rattle.mk_env.specs.declared.scope.ExpansionScope.{ExpansionScope}
use Rattle.mk_env.specs.declared.scope.Undefined.TheVariants as kept
use Rattle.mk_env.specs.Texts.{Variables, language_of}
use Rattle.mk_env.specs.Expansion as meaning
use Rattle.mk_env.specs.Mentions.{lent_text}
use Rattle.mk_env.specs.ActiveNames.{names_of, references_in}
use Rattle.mk_ref.specs.declared.pieces_of_text.Piece.{Piece}
use Rattle.mk_ref.specs.Places.{piece_in_text}

-- an expansion that gives a text or stops at a fault; of the other stop, that memory ran out, nothing is said
abbrev pub Expansion : Type 0
Expansion = Result (String Global) (PureStop FaultKind)

-- it gave the text that this work gives, or stopped at the fault where the work stops
abbrev pub GivesText : Expansion → Meter → Meter → Work Meter FaultKind (List ℕ) → Type 0
GivesText result before after work = GivesPurely string_bytes result after (work before)

-- it gave what a reference with this inside means
abbrev pub ExpandsInside : Expansion → Meter → Meter → Variables → List ℕ → Type 0
ExpandsInside result before after variables inside = GivesText result before after (meaning.inside_meaning variables inside)

-- it gave what these modifiers make of a text that is given
abbrev pub Modifies : Expansion → Meter → Meter → Variables → List ℕ → List ℕ → Type 0
Modifies result before after variables modifiers text =
    GivesText result before after (meaning.modified_by variables modifiers text)

-- it paid for a reference, or stopped at its depth, if this many may be nested
abbrev pub BeginsReference : Result (Unit {0}) (PureStop FaultKind) → Meter → Meter → ℕ → Type 0
BeginsReference result before after levels = GivesPurely (λ _. tt) result after (meaning.enter_reference levels before)

-- it gave what a reference that is paid for means, whose name is this
abbrev pub ExpandsByName : Expansion → Meter → Meter → ExpansionScope → Mention → List ℕ → Type 0
ExpandsByName result before after scope mention name =
    GivesText result before after
    (meaning.by_name scope.undefined (meaning.reference kept.Empty (scope.levels - 1) scope.variables.now) scope.variables.now
    (names_of scope.active) mention.written.now (lent_text mention.modifiers) name)

-- it gave what a reference to this name means, in the scope of what is inside it
abbrev pub ExpandsNamed : Expansion → Meter → Meter → ExpansionScope → List ℕ → Option (Bor (List ℕ)) → Type 0
ExpandsNamed result before after scope name modifiers =
    GivesText result before after
    (meaning.named_meaning (meaning.reference kept.Empty scope.levels scope.variables.now) scope.variables.now
    (names_of scope.active) name (lent_text modifiers))

-- it gave the modifiers of a reference to this name, and spent nothing
abbrev pub FindsModifiers : Result (Vec Modifier Global) (PureStop FaultKind) → ExpansionScope → List ℕ → Option (Bor (List ℕ))
    → Type 0
FindsModifiers result scope name modifiers =
    (m : Meter)
    → GivesPurely (λ found. map action_of found.items) result m
    (meaning.modifiers_for (language_of scope.variables.now) (names_of scope.active) name (lent_text modifiers) m)

-- it gave what a modifier makes of a value
abbrev pub Applies : Expansion → Meter → Meter → ExpansionScope → List ℕ → Modifier → Type 0
Applies result before after scope value modifier =
    GivesText result before after (meaning.modified (references_in scope) value (action_of modifier))

-- it gave what modifiers make of a value, from left to right
abbrev pub AppliesAll : Expansion → Meter → Meter → ExpansionScope → String Global → List Modifier → Type 0
AppliesAll result before after scope value modifiers =
    GivesText result before after
    (each (meaning.modified (references_in scope)) (string_bytes value) (map action_of modifiers))

-- it gave what parts of a text of `:S` mean, given the old text
abbrev pub ExpandsParts : Expansion → Meter → Meter → ExpansionScope → List ℕ → List Part → Type 0
ExpandsParts result before after scope old parts =
    GivesText result before after (meaning.symbols_meaning (references_in scope) old (flat_map symbols_of parts))

-- if it succeeds, it added this text, and the whole isn't too long
abbrev pub AddsBounded : {R F : Type 0} → Result R F → String Global → String Global → List ℕ → Type 0
AddsBounded result before after text =
    IfOk result
    (λ _. (length (string_bytes before ++ text) ≤ TEXT_LIMIT) × (string_bytes after ≡ string_bytes before ++ text))

-- a text means itself, whatever references mean
abbrev pub MeansItself : List ℕ → Type 0
MeansItself text = (references : meaning.References) (m : Meter) → meaning.text_meaning references text m ≡ Ok (text, m)

-- a modifier means what it makes of a value as it is, whatever references mean
abbrev pub IsAppliedAsItIs : Action → Type 0
IsAppliedAsItIs action =
    (references : meaning.References) (value : List ℕ) (m : Meter)
    → meaning.modified references value action m ≡ meaning.made (applied action value) m

-- a function joins what this piece of a text stands for to a text
abbrev pub JoinsPiece : ExpansionScope → List ℕ → Piece → Result (Unit {0}) (PureStop FaultKind)
    → String Global → String Global → Meter → Meter → Type 0
JoinsPiece scope text piece result before after old new =
    GivesPurely (λ _. string_bytes after) result new
    (meaning.join_piece (references_in scope) (string_bytes before) (piece_in_text text piece) old)

-- a function joins what this part of a replacement stands for to a text, in place of the old part
abbrev pub JoinsPart : ExpansionScope → List ℕ → Part → Result (Unit {0}) (PureStop FaultKind)
    → String Global → String Global → Meter → Meter → Type 0
JoinsPart scope old_part part result before after old new =
    GivesPurely (λ _. string_bytes after) result new
    (each (meaning.join_symbol (references_in scope) old_part) (string_bytes before) (symbols_of part) old)
