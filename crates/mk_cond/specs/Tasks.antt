-- What the functions tell of conditions and of their parts.
use Rattle.std.specs.Prelude.{Result, Bool, List, ℕ}
use Rattle.mk_paths.specs.declared.files.Names.{Ghosts}
use Rattle.mk_cond.specs.declared.setting.Setting.{Setting}
use Rattle.mk_base.specs.declared.stops.Stop.{Stop}
use Rattle.mk_base.specs.declared.faults.FaultKind.{FaultKind}
use Rattle.mk_base.specs.Meter.{Meter}
use Rattle.mk_files.specs.Work.{DoesWork}
use Rattle.mk_cond.specs.Truth.{condition_truth, directive_truth, truth}
use Rattle.mk_cond.specs.Leaves.{surroundings_of, call_holds, exists, side_alone, bare, is_defined, has_no_word, compared, has_text}
use Rattle.mk_cond.specs.Leaves.{has_true}
use Rattle.mk_env.specs.Texts.{Variables}
use Rattle.mk_cond_tree.specs.declared.tokens.Call.{Call}
use Rattle.mk_cond_tree.specs.declared.tokens.Side.{Side}
use Rattle.mk_cond_tree.specs.Trees.{OrTree, AndTree, NotTree}
use Rattle.mk_cond.specs.Truths.{or_truth, and_truth, not_truth}
use Rattle.mk_base.specs.declared.stops.PureStop.{PureStop}
use Rattle.mk_base.specs.Stops.{GivesPurely}
use Rattle.mk_cond_tree.specs.declared.tokens.Comparison.{Comparison}

-- a function does the work that the condition of a setting asks for
abbrev pub DoesCondition : {F : Type 0} → Ghosts F → Setting
    → Result Bool (Stop FaultKind) → Meter → F → Meter → F → Type 0
DoesCondition names setting result old files new left =
    DoesWork names.fails_with (λ held. held) result (condition_truth (surroundings_of setting (names.view files).files))
    (old, names.view files) (new, names.view left)

-- the same under the directive of the setting, which may negate it
abbrev pub DoesDirective : {F : Type 0} → Ghosts F → Setting
    → Result Bool (Stop FaultKind) → Meter → F → Meter → F → Type 0
DoesDirective names setting result old files new left =
    DoesWork names.fails_with (λ held. held) result (directive_truth setting.form (surroundings_of setting (names.view files).files))
    (old, names.view files) (new, names.view left)

-- a function tells whether a text that is a directive holds in a makefile
abbrev pub TellsTruth : {F : Type 0} → Ghosts F → Variables → List ℕ → List ℕ
    → Result Bool (Stop FaultKind) → Meter → F → Meter → F → Type 0
TellsTruth names variables makefile text result old files new left =
    DoesWork names.fails_with (λ held. held) result (truth variables (names.view files).files makefile text)
    (old, names.view files) (new, names.view left)

-- a function does the work that this call asks for with this argument
abbrev pub TellsCall : {F : Type 0} → Ghosts F → Setting → Call → List ℕ
    → Result Bool (Stop FaultKind) → Meter → F → Meter → F → Type 0
TellsCall names setting call argument result old files new left =
    DoesWork names.fails_with (λ held. held) result (call_holds (surroundings_of setting (names.view files).files) call argument)
    (old, names.view files) (new, names.view left)

-- a function tells whether the file is there that an argument names
abbrev pub TellsExists : {F : Type 0} → Ghosts F → Setting → List ℕ
    → Result Bool (Stop FaultKind) → Meter → F → Meter → F → Type 0
TellsExists names setting argument result old files new left =
    DoesWork names.fails_with (λ held. held) result (exists (surroundings_of setting (names.view files).files) argument)
    (old, names.view files) (new, names.view left)

-- a function does the work that a side asks for if it stands alone
abbrev pub DoesSide : {F : Type 0} → Ghosts F → Setting → Side
    → Result Bool (Stop FaultKind) → Meter → F → Meter → F → Type 0
DoesSide names setting side result old files new left =
    DoesWork names.fails_with (λ held. held) result (side_alone (surroundings_of setting (names.view files).files) side)
    (old, names.view files) (new, names.view left)

-- a function does the work that a word asks for if it stands alone
abbrev pub DoesWord : {F : Type 0} → Ghosts F → Setting → List ℕ
    → Result Bool (Stop FaultKind) → Meter → F → Meter → F → Type 0
DoesWord names setting word result old files new left =
    DoesWork names.fails_with (λ held. held) result (bare (surroundings_of setting (names.view files).files) word)
    (old, names.view files) (new, names.view left)

-- a function does the work that a condition of this tree asks for
abbrev pub TellsAny : {F : Type 0} → Ghosts F → Setting → OrTree
    → Result Bool (Stop FaultKind) → Meter → F → Meter → F → Type 0
TellsAny names setting condition result old files new left =
    DoesWork names.fails_with (λ held. held) result (or_truth (surroundings_of setting (names.view files).files) condition)
    (old, names.view files) (new, names.view left)

-- the same of one whose parts all have to hold
abbrev pub TellsAll : {F : Type 0} → Ghosts F → Setting → AndTree
    → Result Bool (Stop FaultKind) → Meter → F → Meter → F → Type 0
TellsAll names setting conjunction result old files new left =
    DoesWork names.fails_with (λ held. held) result (and_truth (surroundings_of setting (names.view files).files) conjunction)
    (old, names.view files) (new, names.view left)

-- the same of a part of it
abbrev pub DoesTerm : {F : Type 0} → Ghosts F → Setting → NotTree
    → Result Bool (Stop FaultKind) → Meter → F → Meter → F → Type 0
DoesTerm names setting term result old files new left =
    DoesWork names.fails_with (λ held. held) result (not_truth (surroundings_of setting (names.view files).files) term)
    (old, names.view files) (new, names.view left)

-- a function tells whether a variable is defined
abbrev pub TellsDefined : Result Bool (PureStop FaultKind) → Variables → List ℕ
    → Meter → Meter → Type 0
TellsDefined result variables argument old new =
    GivesPurely (λ held. held) result new (is_defined variables argument old)

-- a function tells whether an argument is empty
abbrev pub TellsEmpty : Result Bool (PureStop FaultKind) → Variables → List ℕ
    → Meter → Meter → Type 0
TellsEmpty result variables argument old new =
    GivesPurely (λ held. held) result new (has_no_word variables argument old)

-- a function compares two sides of a setting's text
abbrev pub ComparesSides : Result Bool (PureStop FaultKind) → Setting → Side → Comparison → Side → Meter → Meter → Type 0
ComparesSides result setting one comparison other old new =
    GivesPurely (λ held. held) result new (compared setting.variables.now setting.text.now one comparison other old)

-- a function tells whether a source stands for some text
abbrev pub TellsHasText : Result Bool (PureStop FaultKind) → Variables → List ℕ
    → Meter → Meter → Type 0
TellsHasText result variables source old new =
    GivesPurely (λ held. held) result new (has_text variables source old)

-- a function tells whether a source stands for a text that counts as true
abbrev pub TellsHasTrue : Result Bool (PureStop FaultKind) → Variables → List ℕ
    → Meter → Meter → Type 0
TellsHasTrue result variables source old new =
    GivesPurely (λ held. held) result new (has_true variables source old)
