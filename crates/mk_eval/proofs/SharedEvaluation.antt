-- What an evaluation asks, and how it ends, depends on its meter alone, and is shared by every world that answers the same.
use Rattle.std.proofs.Common.{ℕ, suc, zero, Bool, true, List, [], ◌∷◌, Option, Some, None, option_map, is_some, Result, Ok, Err, codes}
use Rattle.mk_base.specs.declared.faults.FaultKind.TheVariants as kinds
use Rattle.mk_base.specs.declared.faults.FaultKind.{FaultKind}
use Rattle.mk_base.specs.FaultAt.{FaultAt}
use Rattle.mk_base.specs.Outcome.{Work}
use Rattle.mk_text.specs.Lines.{LogicalLine}
use Rattle.mk_ast.specs.declared.parser.ParseFault.{ParseFault}
use Rattle.mk_ast.specs.Trees.{Tree, LineTree, ChoiceTree, LoopTree, Block, EmptyBlock, MoreBlock, Branches, NoBranches, ElifBranch}
use Rattle.mk_ast.specs.Trees.{ElseBranch}
use Rattle.mk_ast.specs.Parser.{parsed}
use Rattle.mk_ast.specs.Kinds.{line_kind}
use Rattle.mk_text.specs.Words.{words_of}
use Rattle.mk_env.specs.Texts.{Variables, text_in}
use Rattle.mk_paths.specs.FileName.{resolved, name_under, directory_of}
use Rattle.mk_paths.specs.declared.file_name.NameFault.{NameFault}
use Rattle.mk_paths.specs.World.{FileMap}
use Rattle.mk_paths.specs.declared.search_path.Settings.{Settings}
use Rattle.mk_files.specs.Questions.{Account}
use Rattle.mk_eval.specs.declared.state.EvalState.{EvalState}
use Rattle.mk_eval.specs.Lines.{Loops, Request, inside_iteration}
use Rattle.mk_eval.specs.Heads.{condition_holds, form_in}
use Rattle.mk_eval.specs.Includes.{Form, OwnFile, PortFile, SubdirFile, SystemFile, NoForm, form_of, Place, Opened, deep_enough}
use Rattle.mk_eval.specs.Includes.{name_or_fault, found, open_named, open_own, open_if_there, open_port, first_port, open_form}
use Rattle.mk_eval.specs.Includes.{open_request}
use Rattle.mk_eval.specs.Modules.{asks_modules, module_words, module_file, names_in_trees, opened_or, open_first, open_module}
use Rattle.mk_eval.specs.Execution.{LineWorks, execute_tree, execute, execute_branches}
use Rattle.mk_eval.specs.Meaning.{at, Entering, enter, open_line, include_module, include_modules, modules_after, perform_line, works_at}
use Rattle.mk_eval.specs.Meaning.{execute_read, nothing_entered, file_meaning, makefile_meaning, opening_state, evaluation}
use Rattle.mk_eval.proofs.Steady as steady
use Rattle.mk_eval.proofs.Steady.{Steady, steady-give, steady-pay}
use Rattle.mk_eval.proofs.SteadyTexts.{steady-variable}
use Rattle.mk_eval.proofs.SteadyLoops.{steady-perform, steady-head_text, steady-iterations}
use Rattle.mk_eval.proofs.Shared.{Shared, shared-quietly, shared-give, shared-fail, shared-tell, shared-ask_read, shared-look_read, bind}
use Rattle.mk_eval.proofs.Shared.{either, over}
use Rattle.mk_eval.proofs.SharedConditions.{shared-parts}

module _ (other : FileMap) where
  shared-deep_enough : (levels : ℕ) → Shared other (deep_enough levels) (deep_enough levels)
  shared-deep_enough zero = shared-fail other kinds.IncludeDepth
  shared-deep_enough (suc levels) = shared-give other tt

  shared-named : (name : Result (List ℕ) NameFault) → Shared other (name_or_fault name) (name_or_fault name)
  shared-named (Ok name) = shared-give other name
  shared-named (Err fault) = shared-fail other kinds.Include

  shared-found : (state : EvalState) (optional : Bool) (name : List ℕ) (bytes : Option (List ℕ))
      → Shared other (found state optional name bytes) (found state optional name bytes)
  shared-found state optional name (Some bytes) = shared-give other _
  shared-found state optional name None = either optional (shared-give other _) (shared-fail other kinds.Include)

-- the same place among other files
abbrev pub among : FileMap → Place → Place
among other place = record place { files = other }

module _ (files other : FileMap) where
  shared-open_named : (state : EvalState) (optional : Bool) (name : List ℕ) → Shared other (open_named files state optional name)
      (open_named other state optional name)
  shared-open_named state optional name = bind (shared-ask_read files other name) (shared-found other state optional name)

shared-open_if_there : (other : FileMap) (place : Place) (state : EvalState) (name : Result (List ℕ) NameFault)
    → Shared other (open_if_there place state name) (open_if_there (among other place) state name)
shared-open_if_there other place state (Err fault) = shared-give other _
shared-open_if_there other place state (Ok name) = bind (shared-deep_enough other place.levels)
    (λ _. shared-open_named place.files other state true name)

shared-open_port : (other : FileMap) (place : Place) (state : EvalState) → Shared other (open_port place state)
    (open_port (among other place) state)
shared-open_port other place state =
    either state.shared_asked (shared-give other _)
    (shared-open_if_there other place (first_port state)
    (resolved (name_under (directory_of place.makefile) (codes "../Makefile.inc"))))

module _ (other : FileMap) (place : Place) (state : EvalState) where
  shared-open_own : (optional : Bool) (file : List ℕ) → Shared other (open_own place state optional file)
      (open_own (among other place) state optional file)
  shared-open_own optional file =
      bind (shared-deep_enough other place.levels) (λ _. bind (shared-named other (resolved (name_under (directory_of place.file) file)))
      (shared-open_named place.files other state optional))

  shared-open_form : (optional : Bool) (form : Form) → Shared other (open_form place state optional form)
      (open_form (among other place) state optional form)
  shared-open_form optional (OwnFile file) = shared-open_own optional file
  shared-open_form optional PortFile = shared-open_port other place state
  shared-open_form optional SubdirFile = shared-give other _
  shared-open_form optional SystemFile = shared-give other _
  shared-open_form optional NoForm = shared-fail other kinds.Include

  pub shared-open_request : (request : Option Request) → Shared other (open_request place state request)
      (open_request (among other place) state request)
  shared-open_request None = shared-give other _
  shared-open_request (Some request) = shared-open_form request.optional (form_of request.text)

-- the modules of a port
pub steady-module_words : (variables : Variables) → Steady (module_words variables)
steady-module_words variables =
    steady.either (is_some (text_in variables (codes "MODULES"))) (steady.bind (steady-variable variables (codes "MODULES"))
    (λ text. steady-give (words_of text))) (steady-give [])

module _ (other : FileMap) (place : Place) where
  shared-opened_or : (others again : EvalState → Work Account FaultKind Opened)
      → ((state : EvalState) → Shared other (others state) (again state)) → (opened : Opened) → Shared other (opened_or others opened)
      (opened_or again opened)
  shared-opened_or others again shared (state, Some file) = shared-give other _
  shared-opened_or others again shared (state, None) = shared state

  shared-open_first : (names : List (List ℕ)) (state : EvalState) → Shared other (open_first place names state)
      (open_first (among other place) names state)
  shared-open_first [] state = shared-give other _
  shared-open_first (name ∷ names) state =
      bind (shared-open_if_there other place state (resolved name))
      (shared-opened_or (open_first place names) (open_first (among other place) names) (shared-open_first names))

  pub shared-open_module : (state : EvalState) (word : List ℕ) → Shared other (open_module place state word)
      (open_module (among other place) state word)
  shared-open_module state word = shared-open_first (names_in_trees state.path (module_file word)) state

-- what a file does that is included, among these files and among others
pub record EntersShared (other : FileMap) (entering again : Entering) : Type 0 where
  pub all : (name bytes : List ℕ) (state : EvalState) → Shared other (entering name bytes state) (again name bytes state)

-- what lines do, among these files and among others
pub record AreShared {S : Type 0} (other : FileMap) (works again : LineWorks Account FaultAt S) : Type 0 where
  pub performs : (loops : Loops) (line : LogicalLine) (s : S) → Shared other (works.performs loops line s) (again.performs loops line s)
  pub holds : (loops : Loops) (line : LogicalLine) (s : S) → Shared other (works.holds loops line s) (again.holds loops line s)
  pub iterations : (loops : Loops) (line : LogicalLine) (s : S) → Shared other (works.iterations loops line s)
      (again.iterations loops line s)
  pub begins : (line : LogicalLine) → Shared other (works.begins line) (again.begins line)

module _ {S : Type 0} (other : FileMap) (works again : LineWorks Account FaultAt S) (are : AreShared other works again) where
  mutual
    shared-tree : (tree : Tree) (loops : Loops) (s : S) → Shared other (execute_tree works tree loops s) (execute_tree again tree loops s)
    shared-tree (LineTree line) loops s = are.performs loops line s
    shared-tree (ChoiceTree line block branches) loops s = bind (are.holds loops line s)
        (λ held. either held (shared-block block loops s) (shared-branches branches loops s))
    shared-tree (LoopTree line block) loops s =
        bind (are.iterations loops line s)
        (λ iterations. over (λ s iteration. bind (are.begins line) (λ _. shared-block block (inside_iteration loops iteration) s)) s
        iterations)

    pub shared-block : (block : Block) (loops : Loops) (s : S) → Shared other (execute works block loops s) (execute again block loops s)
    shared-block EmptyBlock loops s = shared-give other s
    shared-block (MoreBlock tree block) loops s = bind (shared-tree tree loops s) (λ next. shared-block block loops next)

    pub shared-branches : (branches : Branches) (loops : Loops) (s : S) → Shared other (execute_branches works branches loops s)
        (execute_branches again branches loops s)
    shared-branches NoBranches loops s = shared-give other s
    shared-branches (ElifBranch line block more) loops s = bind (are.holds loops line s)
        (λ held. either held (shared-block block loops s) (shared-branches more loops s))
    shared-branches (ElseBranch block) loops s = shared-block block loops s

shared-judge : (files other : FileMap) (makefile : List ℕ) (variables : Variables) (loops : Loops) (line : List ℕ)
    → Shared other (condition_holds files makefile variables loops line) (condition_holds other makefile variables loops line)
shared-judge files other makefile variables loops line =
    bind (shared-quietly other (steady-head_text variables loops (line_kind line)))
    (λ text. shared-parts files other variables makefile (option_map (λ form. (form, text)) (form_in (line_kind line))))

module _ (other : FileMap) (entering again : Entering) (enters : EntersShared other entering again) where
  shared-enter : (opened : Opened) → Shared other (enter entering opened) (enter again opened)
  shared-enter (state, None) = shared-give other state
  shared-enter (state, Some file) = enters.all file.0 file.1 state

  pub shared-open_line : (place : Place) (loops : Loops) (line : LogicalLine) (state : EvalState)
      → Shared other (open_line place loops line state) (open_line (among other place) loops line state)
  shared-open_line place loops line state =
      bind (shared-quietly other (steady-perform state.variables loops line.text))
      (λ done. shared-open_request other place (record state { variables = done.0 }) done.1)

  pub shared-include_module : (place : Place) (line : ℕ) (state : EvalState) (word : List ℕ)
      → Shared other (include_module entering place line state word) (include_module again (among other place) line state word)
  shared-include_module place line state word = bind (shared-tell (at place.file line) (shared-open_module other place state word))
      shared-enter

  pub shared-include_modules : (place : Place) (line : ℕ) (state : EvalState) → Shared other (include_modules entering place line state)
      (include_modules again (among other place) line state)
  shared-include_modules place line state =
      bind (shared-tell (at place.file line) (shared-quietly other (steady-module_words state.variables)))
      (over (shared-include_module place line) state)

  shared-modules_after : (place : Place) (line : ℕ) (asked : Bool) (state : EvalState)
      → Shared other (modules_after entering place line asked state) (modules_after again (among other place) line asked state)
  shared-modules_after place line asked state = either asked (shared-include_modules place line state) (shared-give other state)

  shared-perform_line : (place : Place) (loops : Loops) (line : LogicalLine) (state : EvalState)
      → Shared other (perform_line entering place loops line state) (perform_line again (among other place) loops line state)
  shared-perform_line place loops line state =
      bind (shared-tell (at place.file line.line) (shared-open_line place loops line state))
      (λ opened. bind (shared-enter opened) (shared-modules_after place line.line (asks_modules state opened.0)))

  pub works-shared : (place : Place) → AreShared other (works_at entering place) (works_at again (among other place))
  works-shared place = record {
    performs = shared-perform_line place;
    holds = λ loops line state. shared-tell (at place.file line.line)
        (shared-judge place.files other place.makefile state.variables loops line.text);
    iterations = λ loops line state. shared-tell (at place.file line.line)
        (shared-quietly other (steady-iterations state.variables loops line.text));
    begins = λ line. shared-tell (at place.file line.line) (shared-quietly other steady-pay);
  }

  shared-read : (place : Place) (found : Result Block ParseFault) (state : EvalState)
      → Shared other (execute_read entering place found state) (execute_read again (among other place) found state)
  shared-read place (Ok block) state = shared-block other (works_at entering place) (works_at again (among other place))
      (works-shared place) block None state
  shared-read place (Err fault) state = shared-fail other _

pub nothing-shared : (other : FileMap) → EntersShared other nothing_entered nothing_entered
nothing-shared other = record { all = λ name bytes state. shared-give other state }

pub file-shared : (files other : FileMap) (makefile : List ℕ) (levels : ℕ) → EntersShared other (file_meaning files makefile levels)
    (file_meaning other makefile levels)
unfolding file_meaning
file-shared files other makefile zero = record {
  all = λ name bytes state. shared-read other nothing_entered nothing_entered (nothing-shared other)
      (record { files = files; makefile = makefile; file = name; levels = zero }) (parsed bytes) state;
}
file-shared files other makefile (suc levels) = record {
  all = λ name bytes state. shared-read other (file_meaning files makefile levels) (file_meaning other makefile levels)
      (file-shared files other makefile levels)
      (record { files = files; makefile = makefile; file = name; levels = suc levels }) (parsed bytes) state;
}

module _ (files other : FileMap) (settings : Settings) (name : List ℕ) (flavors : Option (List (List ℕ))) where
  shared-makefile : (bytes : Option (List ℕ)) → Shared other (makefile_meaning (files, settings) name flavors bytes)
      (makefile_meaning (other, settings) name flavors bytes)
  shared-makefile None = shared-fail other _
  shared-makefile (Some bytes) = (file-shared files other name 16).all name bytes (opening_state (files, settings) name flavors)

  pub shared-evaluation : Shared other (evaluation (files, settings) name flavors) (evaluation (other, settings) name flavors)
  unfolding evaluation
  shared-evaluation = bind (shared-look_read files other name) shared-makefile
