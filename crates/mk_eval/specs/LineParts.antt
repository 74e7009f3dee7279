-- What the parts of a line do, for the functions that do one part each.
use Rattle.std.specs.Prelude.{ℕ, Bool, List, map, Option, Some, Result, String, string_bytes}
use Rattle.std.specs.Global.{Global}
use Rattle.std.specs.declared.rc.Rc.{Rc}
use Rattle.mk_base.specs.declared.faults.FaultKind.{FaultKind}
use Rattle.mk_base.specs.declared.stops.PureStop.{PureStop}
use Rattle.mk_base.specs.declared.stops.Stop.{Stop}
use Rattle.mk_base.specs.Meter.{Meter}
use Rattle.mk_base.specs.Outcome.{Work}
use Rattle.mk_base.specs.Stops.{GivesPurely}
use Rattle.mk_ast.specs.declared.kinds.Directive.{Directive}
use Rattle.mk_ast.specs.declared.kinds.LineKind.{LineKind}
use Rattle.mk_ast.specs.declared.kinds.Operator.{Operator}
use Rattle.mk_ast.specs.Kinds.{line_kind, shown_kind}
use Rattle.mk_env.specs.Texts.{Variables}
use Rattle.mk_loop.specs.declared.iterations.Iteration.{Iteration}
use Rattle.mk_loop.specs.declared.iterations.Iterations.{Iterations}
use Rattle.mk_loop.specs.Places.{made_or_line}
use Rattle.mk_loop.specs.Scopes.{iterations_in}
use Rattle.mk_paths.specs.World.{FileMap}
use Rattle.mk_paths.specs.FilesView.{FilesView}
use Rattle.mk_paths.specs.FileName.{resolved, name_under}
use Rattle.mk_files.specs.Questions.{Account}
use Rattle.mk_eval.specs.Lines as lines
use Rattle.mk_eval.specs.Lines.{Request}
use Rattle.mk_eval.specs.Heads as heads
use Rattle.mk_eval.specs.Includes as includes
use Rattle.mk_eval.specs.Modules as modules
use Rattle.mk_eval.specs.Steps.{Opening, OpensFile}
use Rattle.mk_eval.specs.Views.{loops_of, place_of_file}
use Rattle.mk_eval.specs.declared.heads.Head.{Head}
use Rattle.mk_eval.specs.declared.includes.ExecutedFile.{ExecutedFile}
use Rattle.mk_eval.specs.declared.includes.Included.{Included}
use Rattle.mk_eval.specs.declared.state.EvalState.{EvalState}

-- ---- what a line that frames no block does to variables and a budget, before and after

-- after its unit is spent, a line with this text, in these loops and of this kind, does what the definition says
abbrev pub Executes : List Iteration → List ℕ → LineKind → Variables × Meter → Variables × Meter
    → Result (Option Request) (PureStop FaultKind) → Type 0
Executes loops text kind old new result =
    GivesPurely (λ request. (new.0, request)) result new.1 (lines.execute_in old.0 (loops_of loops) text (shown_kind kind) old.1)

-- a line of this kind does so once the words of the loops are put in
abbrev pub ExecutesKind : LineKind → Variables × Meter → Variables × Meter
    → Result (Option Request) (PureStop FaultKind) → Type 0
ExecutesKind kind old new result =
    GivesPurely (λ request. (new.0, request)) result new.1 (lines.execute_kind old.0 (shown_kind kind) old.1)

-- a directive with this text does so
abbrev pub Directs : Directive → List ℕ → Variables × Meter → Variables × Meter
    → Result (Option Request) (PureStop FaultKind) → Type 0
Directs word text old new result =
    GivesPurely (λ request. (new.0, request)) result new.1 (lines.direct old.0 word text old.1)

-- an assignment with this operator, to this name, of this text does so
abbrev pub Assigns : Operator → List ℕ → List ℕ → Variables × Meter → Variables × Meter
    → Result (Unit {0}) (PureStop FaultKind) → Type 0
Assigns operator name text old new result = GivesPurely (λ _. new.0) result new.1 (lines.assign old.0 operator name text old.1)

-- an assignment does so without any budget, so it leaves each budget as it is
abbrev pub AssignsFreely : Operator → List ℕ → List ℕ → Variables → Variables
    → Result (Unit {0}) (PureStop FaultKind) → Type 0
AssignsFreely operator name text old new result = (m : Meter) → Assigns operator name text (old, m) (new, m) result

-- ---- what a line that begins a block or a branch gives, from one budget to the next

-- a text is given with the words of these loops put in, or none if it stays as it is
abbrev pub PutsIn : Variables → List Iteration → List ℕ → Result (Option (String Global)) (PureStop FaultKind)
    → Meter → Meter → Type 0
PutsIn variables loops text result old new = GivesPurely (made_or_line text) result new (lines.put_in variables (loops_of loops) text old)

-- what follows the word of a line of this kind is given, with the words of these loops put in
abbrev pub GivesHead : Variables → List Iteration → LineKind → Result (String Global) (PureStop FaultKind)
    → Meter → Meter → Type 0
GivesHead variables loops kind result old new =
    GivesPurely string_bytes result new (heads.head_text variables (loops_of loops) (shown_kind kind) old)

-- what follows the word of such a line is given so
abbrev pub GivesHeader : Head → Result (String Global) (PureStop FaultKind) → Meter → Meter → Type 0
GivesHeader head result old new =
    GivesPurely string_bytes result new
    (heads.head_text head.variables.now (loops_of head.loops.now) (line_kind head.text.now) old)

-- the iterations are given of the loop that such a line begins
abbrev pub BeginsLoop : Head → Result (Rc Iterations Global) (PureStop FaultKind) → Meter → Meter → Type 0
BeginsLoop head result old new =
    GivesPurely (λ iterations. iterations_in iterations.value) result new
    (heads.iterations head.variables.now (loops_of head.loops.now) head.text.now old)

-- the condition of such a line, in the makefile of this name
abbrev pub condition : List ℕ → Head → FileMap → Work Account FaultKind Bool
condition makefile head files =
    heads.condition_holds files makefile head.variables.now (loops_of head.loops.now) head.text.now

-- ---- what a line opens

-- that file is opened, and each state stays as it is
abbrev pub OpensInEveryState : {F : Type 0} → Opening F → Result (Option Included) (Stop F)
    → Meter × FilesView → Meter × FilesView → Type 0
OpensInEveryState opening result old new = (state : EvalState) → OpensFile opening (state, state) result old new

-- the file that a request asks for, at a line of an executed file
abbrev pub asked_file : ExecutedFile → Request → Opening FaultKind
asked_file here request files state =
    includes.open_form (place_of_file here files) state request.optional (includes.form_of request.text)

-- a file that is named in quotes
abbrev pub own_file : ExecutedFile → List ℕ → Bool → Opening FaultKind
own_file here file optional files state = includes.open_own (place_of_file here files) state optional file

-- the file of a name, which may be missing or may not
abbrev pub named_file : List ℕ → Bool → Opening FaultKind
named_file name optional files state = includes.open_named files state optional name

-- the same if files may still include one another
abbrev pub inner_file : ExecutedFile → List ℕ → Bool → Opening FaultKind
inner_file here name optional files state = includes.open_inside (place_of_file here files) state optional name

-- a file under a directory, if it is there
abbrev pub file_if_there : ExecutedFile → List ℕ → List ℕ → Opening FaultKind
file_if_there here directory file files state =
    includes.open_if_there (place_of_file here files) state (resolved (name_under directory file))

-- what `<bsd.port.mk>` opens
abbrev pub port_file : ExecutedFile → Opening FaultKind
port_file here files state = includes.open_port (place_of_file here files) state

-- a file of this name in the first of these trees that has one
abbrev pub first_file : ExecutedFile → List (String Global) → List ℕ → Opening FaultKind
first_file here trees file files state =
    modules.open_first (place_of_file here files) (modules.names_in_trees (map string_bytes trees) (Some file)) state
