-- A machine that executes makefiles. It has what is still to be done in frames, the innermost first, and does
-- one thing after another.
use Rattle.std.specs.Prelude.{ℕ, suc, zero, Bool, false, if◌then◌else◌, List, [], ◌∷◌, ◌++◌, Option, Some, None, Result, Ok, Err}
use Rattle.mk_base.specs.FaultAt.{FaultAt, fault_at}
use Rattle.mk_base.specs.Outcome.{Work, give, fail, each, ◌>>=◌}
use Rattle.mk_text.specs.Lines.{LogicalLine}
use Rattle.mk_ast.specs.declared.parser.ParseFault.{ParseFault}
use Rattle.mk_ast.specs.Trees.{Tree, LineTree, ChoiceTree, LoopTree, Block, EmptyBlock, MoreBlock, Branches}
use Rattle.mk_ast.specs.Trees.{NoBranches, ElifBranch, ElseBranch}
use Rattle.mk_ast.specs.Parser.{parsed}
use Rattle.mk_paths.specs.World.{FileMap}
use Rattle.mk_files.specs.Questions.{Account, quietly}
use Rattle.mk_loop.specs.LoopWords.{LoopWords}
use Rattle.mk_eval.specs.Lines.{Loops, inside_iteration}
use Rattle.mk_eval.specs.Includes.{Place, File, Opened}
use Rattle.mk_eval.specs.Execution.{LineWorks, execute, execute_branches, iteration_of}
use Rattle.mk_eval.specs.Meaning.{Entering, works_at, blamed, blamed_at, open_line, include_module, include_modules}
use Rattle.mk_eval.specs.Modules.{asks_modules, module_words, open_module}
use Rattle.mk_eval.specs.Steps.{entering_at}
use Rattle.mk_eval.specs.declared.state.EvalState.{EvalState}

-- where lines are: in which file, how many levels deep files may still include one another, and in which loops
pub record Site : Type 0 where
  pub file : List ℕ
  pub levels : ℕ
  pub loops : Loops

-- What is still to be done at one site: lines and blocks; later branches of a choice; iterations of a loop; or modules.
-- Iterations have the number of the loop's first line, its body, and the words of each one that is left. Modules are
-- those that the line with this number asks for, all of them, or those of these words.
pub data Frame : Type 0 where
  Lines : Site → Block → Frame
  Later : Site → Branches → Frame
  Iterations : Site → ℕ → Block → List LoopWords → Frame
  Modules : Site → ℕ → Frame
  Searches : Site → ℕ → List (List ℕ) → Frame

-- what work leaves that does one thing: the state, and what is still to be done, the innermost first
abbrev pub StateAndFrames : Type 0
StateAndFrames = EvalState × List Frame

-- a site as a place, among these files, in the evaluation of this makefile
abbrev pub place_at : FileMap → List ℕ → Site → Place
place_at files makefile site = record {
  files = files;
  makefile = makefile;
  file = site.file;
  levels = site.levels;
}

-- what lines do at a site
abbrev pub works_in : FileMap → List ℕ → Site → LineWorks Account FaultAt EvalState
works_in files makefile site = works_at (entering_at files makefile site.levels) (place_at files makefile site)

-- what is done by a file that is included at a site
abbrev pub entering_in : FileMap → List ℕ → Site → Entering
entering_in files makefile site = entering_at files makefile site.levels

-- a line of which only the number matters
abbrev pub numbered_line : ℕ → LogicalLine
numbered_line number = record { text = []; line = number; command = false }

-- what a frame has still to do, by the definitions of execution
abbrev pub to_do : FileMap → List ℕ → Frame → EvalState → Work Account FaultAt EvalState
to_do files makefile (Lines site block) s = execute (works_in files makefile site) block site.loops s
to_do files makefile (Later site branches) s = execute_branches (works_in files makefile site) branches site.loops s
to_do files makefile (Iterations site line body iterations) s =
    let works = works_in files makefile site in
    each (iteration_of (works.begins (numbered_line line)) (execute works body) site.loops) s iterations
to_do files makefile (Modules site line) s = include_modules (entering_in files makefile site) (place_at files makefile site) line s
to_do files makefile (Searches site line words) s =
    each (include_module (entering_in files makefile site) (place_at files makefile site) line) s words

-- what all frames have still to do, one after another
abbrev pub rest : FileMap → List ℕ → List Frame → EvalState → Work Account FaultAt EvalState
rest files makefile [] s = give s
rest files makefile (frame ∷ frames) s = to_do files makefile frame s >>= rest files makefile frames

-- the lines of a file that was read, outside any loop; if it can't be read, that is a fault
abbrev pub read_lines : List ℕ → ℕ → Result Block ParseFault → EvalState → Work Account FaultAt (EvalState × Option Frame)
read_lines file levels (Ok block) s = give (s, Some (Lines (record { file = file; levels = levels; loops = None }) block))
read_lines file levels (Err fault) s = fail (fault_at fault.kind file fault.line)

-- the lines of a file that may include others this many levels deep; if no file may be included, there are none
abbrev pub file_lines : ℕ → File → EvalState → Work Account FaultAt (EvalState × Option Frame)
file_lines zero file s = give (s, None)
file_lines (suc levels) file s = read_lines file.0 levels (parsed file.1) s

-- the lines of the file that a line opened, if it opened one
abbrev pub opened_lines : ℕ → Opened → Work Account FaultAt (EvalState × Option Frame)
opened_lines levels (s, None) = give (s, None)
opened_lines levels (s, Some file) = file_lines levels file s

-- a frame, if there is one, before others
abbrev pub before : Option Frame → List Frame → List Frame
before None frames = frames
before (Some frame) frames = frame ∷ frames

-- the modules that a line asks for, if it does
abbrev pub modules_at : Site → ℕ → Bool → List Frame
modules_at site line asked = if asked then Modules site line ∷ [] else []

-- a line that frames no block: what it leaves, and the file and the modules that are to be done before the lines that
-- follow
abbrev pub do_line : FileMap → List ℕ → Site → LogicalLine → EvalState → Work Account FaultAt StateAndFrames
do_line files makefile site line s =
    blamed_at (place_at files makefile site) line (open_line (place_at files makefile site) site.loops line s)
    >>= λ opened. opened_lines site.levels opened
    >>= λ done. give (done.0, before done.1 (modules_at site line.line (asks_modules s opened.0)))

-- a line, or the first line of a block: what it leaves, and what is to be done before the lines that follow
abbrev pub do_tree : FileMap → List ℕ → Site → Tree → EvalState → Work Account FaultAt StateAndFrames
do_tree files makefile site (LineTree line) s = do_line files makefile site line s
do_tree files makefile site (ChoiceTree line first later) s =
    (works_in files makefile site).holds site.loops line s
    >>= λ held. give (s, (if held then Lines site first else Later site later) ∷ [])
do_tree files makefile site (LoopTree line body) s =
    (works_in files makefile site).iterations site.loops line s >>= λ iterations. give (s, Iterations site line.line body iterations ∷ [])

-- the file that was found for a word, with the words after it; or else what others give
abbrev pub found_or : List (List ℕ) → (EvalState → Work Account FaultAt (Opened × List (List ℕ))) → Opened
    → Work Account FaultAt (Opened × List (List ℕ))
found_or words others (s, Some file) = give ((s, Some file), words)
found_or words others (s, None) = others s

-- the first of these words whose module is there: its file, and the words after it
abbrev pub next_module : Place → ℕ → List (List ℕ) → EvalState → Work Account FaultAt (Opened × List (List ℕ))
next_module place line [] s = give ((s, None), [])
next_module place line (word ∷ words) s =
    blamed place line (open_module place s word) >>= found_or words (next_module place line words)

-- The next thing that a frame does, and what is still to be done then, before these other frames. It is a line, a
-- condition, the header of a loop, the start of an iteration, the words of MODULES, or a search for the next module.
-- The end of a block, of a choice or of a loop only takes the frame away.
abbrev pub advance : FileMap → List ℕ → Frame → List Frame → EvalState → Work Account FaultAt StateAndFrames
advance files makefile (Lines site EmptyBlock) frames s = give (s, frames)
advance files makefile (Lines site (MoreBlock tree block)) frames s =
    do_tree files makefile site tree s >>= λ done. give (done.0, done.1 ++ Lines site block ∷ frames)
advance files makefile (Later site NoBranches) frames s = give (s, frames)
advance files makefile (Later site (ElifBranch line block more)) frames s =
    (works_in files makefile site).holds site.loops line s
    >>= λ held. give (s, (if held then Lines site block else Later site more) ∷ frames)
advance files makefile (Later site (ElseBranch block)) frames s = give (s, Lines site block ∷ frames)
advance files makefile (Iterations site line body []) frames s = give (s, frames)
advance files makefile (Iterations site line body (iteration ∷ later)) frames s =
    (works_in files makefile site).begins (numbered_line line)
    >>= λ _. give (
      s,
      Lines (record site { loops = inside_iteration site.loops iteration }) body
          ∷ Iterations site line body later ∷ frames,
    )
advance files makefile (Modules site line) frames s =
    blamed (place_at files makefile site) line (quietly (module_words s.variables))
    >>= λ words. give (s, Searches site line words ∷ frames)
advance files makefile (Searches site line words) frames s =
    next_module (place_at files makefile site) line words s
    >>= λ found. opened_lines site.levels found.0
    >>= λ done. give (done.0, before done.1 (Searches site line found.1 ∷ frames))
