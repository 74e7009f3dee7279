-- What the machine does doesn't depend on a log, nor on a limit that it doesn't reach.
use Rattle.std.proofs.Common.{ℕ, suc, zero, List, [], ◌∷◌, Some, None, Result, Ok, Err}
use Rattle.mk_ast.specs.declared.parser.ParseFault.{ParseFault}
use Rattle.mk_ast.specs.Trees.{Tree, LineTree, ChoiceTree, LoopTree, Block, EmptyBlock, MoreBlock, NoBranches, ElifBranch, ElseBranch}
use Rattle.mk_ast.specs.Parser.{parsed}
use Rattle.mk_base.specs.FaultAt.{FaultAt}
use Rattle.mk_base.specs.Outcome.{Work}
use Rattle.mk_paths.specs.World.{FileMap}
use Rattle.mk_files.specs.Questions.{Account}
use Rattle.mk_eval.specs.declared.state.EvalState.{EvalState}
use Rattle.mk_eval.specs.Lines.{inside_iteration}
use Rattle.mk_eval.specs.Includes.{File, Opened}
use Rattle.mk_eval.specs.Meaning.{at}
use Rattle.mk_eval.specs.Steps.{entering_at}
use Rattle.mk_eval.proofs.Shared.{Shared, shared-quietly, shared-give, shared-fail, shared-tell, bind, over}
use Rattle.mk_eval.proofs.SharedEvaluation.{EntersShared, AreShared, shared-block, shared-branches, shared-open_line, works-shared}
use Rattle.mk_eval.proofs.SharedEvaluation.{nothing-shared, file-shared}
use Rattle.mk_eval.proofs.SharedEvaluation.{steady-module_words, shared-open_module, shared-include_module, shared-include_modules}
use Rattle.mk_step.specs.Machine.{Site, Frame, Lines, Later, Iterations, Modules, Searches, place_at, works_in, entering_in, numbered_line}
use Rattle.mk_step.specs.Machine.{found_or, next_module, to_do, rest, read_lines, file_lines, opened_lines, do_tree, advance}

module _ (files : FileMap) (makefile : List ℕ) where
  enters : (levels : ℕ) → EntersShared files (entering_at files makefile levels) (entering_at files makefile levels)
  enters zero = nothing-shared files
  enters (suc levels) = file-shared files files makefile levels

  are : (site : Site) → AreShared files (works_in files makefile site) (works_in files makefile site)
  are site = works-shared files (entering_at files makefile site.levels) (entering_at files makefile site.levels) (enters site.levels)
      (place_at files makefile site)

  shared-to_do : (frame : Frame) (s : EvalState) → Shared files (to_do files makefile frame s) (to_do files makefile frame s)
  shared-to_do (Lines site block) s = shared-block files (works_in files makefile site) (works_in files makefile site)
      (are site) block site.loops s
  shared-to_do (Later site branches) s = shared-branches files (works_in files makefile site) (works_in files makefile site)
      (are site) branches site.loops s
  shared-to_do (Iterations site line body iterations) s =
      over (λ s iteration. bind ((are site).begins (numbered_line line)) (λ _. shared-block files (works_in files makefile site)
      (works_in files makefile site) (are site) body (inside_iteration site.loops iteration) s)) s iterations
  shared-to_do (Modules site line) s =
      shared-include_modules files (entering_in files makefile site) (entering_in files makefile site) (enters site.levels)
      (place_at files makefile site) line s
  shared-to_do (Searches site line words) s =
      over (shared-include_module files (entering_in files makefile site) (entering_in files makefile site) (enters site.levels)
      (place_at files makefile site) line) s words

  pub shared-rest : (frames : List Frame) (s : EvalState) → Shared files (rest files makefile frames s) (rest files makefile frames s)
  shared-rest [] s = shared-give files s
  shared-rest (frame ∷ frames) s = bind (shared-to_do frame s) (shared-rest frames)

  shared-read_lines : (file : List ℕ) (levels : ℕ) (found : Result Block ParseFault) (s : EvalState)
      → Shared files (read_lines file levels found s) (read_lines file levels found s)
  shared-read_lines file levels (Ok block) s = shared-give files _
  shared-read_lines file levels (Err fault) s = shared-fail files _

  shared-file_lines : (levels : ℕ) (file : File) (s : EvalState) → Shared files (file_lines levels file s) (file_lines levels file s)
  shared-file_lines zero file s = shared-give files _
  shared-file_lines (suc levels) file s = shared-read_lines file.0 levels (parsed file.1) s

  pub shared-opened_lines : (levels : ℕ) (opened : Opened) → Shared files (opened_lines levels opened) (opened_lines levels opened)
  shared-opened_lines levels (s, None) = shared-give files _
  shared-opened_lines levels (s, Some file) = shared-file_lines levels file s

  shared-do_tree : (site : Site) (tree : Tree) (s : EvalState) → Shared files (do_tree files makefile site tree s)
      (do_tree files makefile site tree s)
  shared-do_tree site (LineTree line) s =
      bind (shared-tell (at site.file line.line) (shared-open_line files (entering_in files makefile site) (entering_in files makefile site)
      (enters site.levels) (place_at files makefile site) site.loops line s))
      (λ opened. bind (shared-opened_lines site.levels opened) (λ done. shared-give files _))
  shared-do_tree site (ChoiceTree line first later) s = bind ((are site).holds site.loops line s) (λ held. shared-give files _)
  shared-do_tree site (LoopTree line body) s = bind ((are site).iterations site.loops line s) (λ iterations. shared-give files _)

  shared-found_or : (words : List (List ℕ)) (others : EvalState → Work Account FaultAt (Opened × List (List ℕ)))
      → ((s : EvalState) → Shared files (others s) (others s)) → (opened : Opened) → Shared files (found_or words others opened)
      (found_or words others opened)
  shared-found_or words others shared (s, Some file) = shared-give files _
  shared-found_or words others shared (s, None) = shared s

  shared-next_module : (site : Site) (line : ℕ) (words : List (List ℕ)) (s : EvalState)
      → Shared files (next_module (place_at files makefile site) line words s) (next_module (place_at files makefile site) line words s)
  shared-next_module site line [] s = shared-give files _
  shared-next_module site line (word ∷ words) s =
      bind (shared-tell (at site.file line) (shared-open_module files (place_at files makefile site) s word))
      (shared-found_or words (next_module (place_at files makefile site) line words) (shared-next_module site line words))

  pub shared-advance : (frame : Frame) (frames : List Frame) (s : EvalState) → Shared files (advance files makefile frame frames s)
      (advance files makefile frame frames s)
  shared-advance (Lines site EmptyBlock) frames s = shared-give files _
  shared-advance (Lines site (MoreBlock tree block)) frames s = bind (shared-do_tree site tree s) (λ done. shared-give files _)
  shared-advance (Later site NoBranches) frames s = shared-give files _
  shared-advance (Later site (ElifBranch line block more)) frames s = bind ((are site).holds site.loops line s)
      (λ held. shared-give files _)
  shared-advance (Later site (ElseBranch block)) frames s = shared-give files _
  shared-advance (Iterations site line body []) frames s = shared-give files _
  shared-advance (Iterations site line body (iteration ∷ iterations)) frames s = bind ((are site).begins (numbered_line line))
      (λ _. shared-give files _)
  shared-advance (Modules site line) frames s =
      bind (shared-tell (at site.file line) (shared-quietly files (steady-module_words s.variables))) (λ words. shared-give files _)
  shared-advance (Searches site line words) frames s =
      bind (shared-next_module site line words s) (λ found. bind (shared-opened_lines site.levels found.0) (λ done. shared-give files _))
