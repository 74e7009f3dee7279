-- What a makefile means: its kind, its variables and what it costs, or the first fault with what it
-- cost up to there.
use Rattle.std.specs.Prelude.{ℕ, suc, zero, Bool, false, if◌then◌else◌, List, [], Option, Some, None, is_some, unwrap_or, Result, Ok, Err}
use Rattle.mk_base.specs.declared.faults.FaultKind.{FaultKind}
use Rattle.mk_base.specs.declared.faults.FaultKind.TheVariants as kinds
use Rattle.mk_base.specs.declared.budget.TheConstants.{UNITS}
use Rattle.mk_base.specs.FaultAt.{FaultAt, fault_at}
use Rattle.mk_base.specs.Meter.{Meter, full, pay}
use Rattle.mk_base.specs.Outcome.{Work, give, fail, tell, left, each, ◌>>=◌}
use Rattle.mk_text.specs.Lines.{LogicalLine}
use Rattle.mk_ast.specs.declared.parser.ParseFault.{ParseFault}
use Rattle.mk_ast.specs.Trees.{Block}
use Rattle.mk_ast.specs.Parser.{parsed}
use Rattle.mk_env.specs.Texts.{Variables, text_in}
use Rattle.mk_env.specs.Expansion.{variable}
use Rattle.mk_paths.specs.World.{FileMap, World, files_in}
use Rattle.mk_paths.specs.FilesView.{Question}
use Rattle.mk_files.specs.Questions.{Account, quietly, look_read}
use Rattle.mk_eval.specs.Expanded.{Expanded}
use Rattle.mk_eval.specs.Lines.{Loops, perform}
use Rattle.mk_eval.specs.Heads.{condition_holds, iterations}
use Rattle.mk_eval.specs.Includes.{Place, Opened, open_request}
use Rattle.mk_eval.specs.Modules.{asks_modules, module_words, open_module}
use Rattle.mk_eval.specs.Execution.{LineWorks, execute}
use Rattle.mk_eval.specs.Start.{start}
use Rattle.mk_eval.specs.declared.outcome.Kind.TheVariants as roles
use Rattle.mk_eval.specs.declared.outcome.Evaluated.{Evaluated}
use Rattle.mk_eval.specs.declared.outcome.Failed.{Failed}
use Rattle.mk_eval.specs.declared.state.EvalState.{EvalState}

-- a fault at a line of a file
abbrev pub at : List ℕ → ℕ → FaultKind → FaultAt
at name line kind = fault_at kind name line

-- work at a line of a file with this number: its faults are given with their place
abbrev pub blamed : {A : Type 0} → Place → ℕ → Work Account FaultKind A → Work Account FaultAt A
blamed place line work a = tell (at place.file line) (work a)

-- work on a line of a file
abbrev pub blamed_at : {A : Type 0} → Place → LogicalLine → Work Account FaultKind A → Work Account FaultAt A
blamed_at place line work = blamed place line.line work

-- what a file with this name and these bytes does
abbrev pub Entering : Type 0
Entering = List ℕ → List ℕ → EvalState → Work Account FaultAt EvalState

-- the state after the file that a line opened, if any, is executed
abbrev pub enter : Entering → Opened → Work Account FaultAt EvalState
enter entering (state, None) = give state
enter entering (state, Some file) = entering file.0 file.1 state

-- what a line opens, after it has done what it does by itself
abbrev pub open_line : Place → Loops → LogicalLine → EvalState → Work Account FaultKind Opened
open_line place loops line state =
    quietly (perform state.variables loops line.text) >>= λ done. open_request place (record state { variables = done.0 }) done.1

-- a module, at the line with this number that includes `<bsd.port.mk>`: it is executed before the next one is looked
-- for
abbrev pub include_module : Entering → Place → ℕ → EvalState → List ℕ → Work Account FaultAt EvalState
include_module entering place line state word = blamed place line (open_module place state word) >>= enter entering

-- the modules of MODULES, which is expanded once
abbrev pub include_modules : Entering → Place → ℕ → EvalState → Work Account FaultAt EvalState
include_modules entering place line state =
    blamed place line (quietly (module_words state.variables)) >>= each (include_module entering place line) state

-- what comes after a line, and after the file that it opened
abbrev pub modules_after : Entering → Place → ℕ → Bool → EvalState → Work Account FaultAt EvalState
modules_after entering place line asked state = if asked then include_modules entering place line state else give state

-- a line that frames no block, with the file that it opens, if any, and then the modules, if it asks for them
abbrev pub perform_line : Entering → Place → Loops → LogicalLine → EvalState → Work Account FaultAt EvalState
perform_line entering place loops line state =
    blamed_at place line (open_line place loops line state)
    >>= λ opened. enter entering opened >>= modules_after entering place line.line (asks_modules state opened.0)

-- what the lines of a file do
abbrev pub works_at : Entering → Place → LineWorks Account FaultAt EvalState
works_at entering place = record {
  performs = perform_line entering place;
  holds = λ loops line state. blamed_at place line (condition_holds place.files place.makefile state.variables loops line.text);
  iterations = λ loops line state. blamed_at place line (quietly (iterations state.variables loops line.text));
  begins = λ line. blamed_at place line (quietly pay);
}

-- what a file that was read does, outside any loop; if it can't be read, that is a fault before any
-- line is executed
abbrev pub execute_read : Entering → Place → Result Block ParseFault → EvalState → Work Account FaultAt EvalState
execute_read entering place (Ok block) state = execute (works_at entering place) block None state
execute_read entering place (Err fault) state = fail (fault_at fault.kind place.file fault.line)

-- if no more files may include one another, none is entered
abbrev pub nothing_entered : Entering
nothing_entered name bytes state = give state

-- What a file with this name and these bytes does in the evaluation of a makefile, if files may still
-- include one another this many levels deep.
unfoldable pub file_meaning : FileMap → List ℕ → ℕ → Entering
file_meaning files makefile zero name bytes state a =
    execute_read nothing_entered (record { files = files; makefile = makefile; file = name; levels = zero }) (parsed bytes) state a
file_meaning files makefile (suc levels) name bytes state a =
    execute_read (file_meaning files makefile levels)
    (record { files = files; makefile = makefile; file = name; levels = suc levels }) (parsed bytes) state a

-- the state with which an evaluation begins
abbrev pub opening_state : World → List ℕ → Option (List (List ℕ)) → EvalState
opening_state world name flavors = record {
  variables = start world.1 name flavors;
  kind = roles.Other;
  shared_asked = false;
  path = world.1.path;
}

-- what the makefile of this name does, if it is there
abbrev pub makefile_meaning : World → List ℕ → Option (List (List ℕ)) → Option (List ℕ) → Work Account FaultAt EvalState
makefile_meaning world name flavors None = fail (at name 0 kinds.Include)
makefile_meaning world name flavors (Some bytes) = file_meaning (files_in world) name 16 name bytes (opening_state world name flavors)

-- an evaluation: the makefile is looked at, which isn't counted among the questions, and is executed
unfoldable pub evaluation : World → List ℕ → Option (List (List ℕ)) → Work Account FaultAt EvalState
evaluation world name flavors a = (look_read (files_in world) name >>= makefile_meaning world name flavors) a

-- a budget of this many units, of which nothing is spent, and this log
abbrev pub unspent_account : ℕ → Option (List Question) → Account
unspent_account limit log = record { meter = full limit; log = log }

-- the end of an evaluation with its cost, in units
abbrev pub evaluated : Result (EvalState × Account) (FaultAt × Account) → Result Evaluated Failed
evaluated (Ok end) = Ok (record { kind = end.0.kind; env = end.0.variables; cost = end.1.meter.spent })
evaluated (Err end) = Err (record { fault = end.0; cost = end.1.meter.spent })

-- What a makefile of a world means with these flavors, or with none given, in a budget of 50,000 units.
abbrev pub means : World → List ℕ → Option (List (List ℕ)) → Result Evaluated Failed
means world name flavors = evaluated (evaluation world name flavors (unspent_account UNITS None))

-- The names that its evaluation reads or asks about, in a budget of this many units, in order, each with its
-- answer. That is what the evaluation leaves in a log that was empty.
abbrev pub questions_asked : World → List ℕ → Option (List (List ℕ)) → ℕ → List Question
questions_asked world name flavors limit = unwrap_or (left (evaluation world name flavors (unspent_account limit (Some [])))).log []

-- the end of an expansion with its cost, in units
abbrev pub valued : Result (List ℕ × Meter) (FaultAt × Meter) → Result (Option Expanded) Failed
valued (Ok end) = Ok (Some (record { text = end.0; cost = end.1.spent }))
valued (Err end) = Err (record { fault = end.0; cost = end.1.spent })

-- the value of a variable after the evaluation of the named makefile; a name that isn't defined has
-- none, at no cost
abbrev pub value_of_variable : Variables → List ℕ → List ℕ → Result (Option Expanded) Failed
value_of_variable variables makefile name =
    if is_some (text_in variables name) then valued (tell (at makefile 0) (variable variables name (full UNITS))) else Ok None
