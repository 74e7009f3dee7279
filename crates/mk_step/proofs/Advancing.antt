-- One thing done, and then the rest, is all that was still to be done.
use Rattle.std.proofs.Common.{◌≡◌, ◌∙◌, ℕ, suc, zero, Bool, true, false, List, [], ◌∷◌, ◌++◌, Option, Some, None, Result, Ok, Err}
use Rattle.std.proofs.Common.{if◌then◌else◌, refl, sym, ap}
use Rattle.mk_base.specs.FaultAt.{FaultAt}
use Rattle.mk_base.specs.Outcome.{Work, give, after, each, ◌>>=◌}
use Rattle.mk_text.specs.Lines.{LogicalLine}
use Rattle.mk_ast.specs.declared.parser.ParseFault.{ParseFault}
use Rattle.mk_ast.specs.Trees.{Tree, LineTree, ChoiceTree, LoopTree, Block, EmptyBlock, MoreBlock, Branches, NoBranches, ElifBranch}
use Rattle.mk_ast.specs.Trees.{ElseBranch}
use Rattle.mk_ast.specs.Parser.{parsed}
use Rattle.mk_paths.specs.World.{FileMap}
use Rattle.mk_files.specs.Questions.{Account, quietly}
use Rattle.mk_loop.specs.LoopWords.{LoopWords}
use Rattle.mk_eval.specs.declared.state.EvalState.{EvalState}
use Rattle.mk_eval.specs.Lines.{inside_iteration}
use Rattle.mk_eval.specs.Includes.{Place, File, Opened}
use Rattle.mk_eval.specs.Modules.{asks_modules, module_words, open_module}
use Rattle.mk_eval.specs.Execution.{LineWorks, execute, execute_tree, execute_branches, iteration_of}
use Rattle.mk_eval.specs.Meaning.{enter, execute_read, blamed, blamed_at, open_line, include_module, include_modules, modules_after}
use Rattle.mk_eval.specs.Steps.{entering_at}
use Rattle.mk_eval.proofs.Stepping.{file_meaning-is}
use Rattle.mk_step.specs.Machine.{Site, Frame, Lines, Later, Iterations, Modules, Searches, StateAndFrames, place_at, works_in, entering_in}
use Rattle.mk_step.specs.Machine.{numbered_line, rest, read_lines, file_lines, opened_lines, before, modules_at, do_tree, found_or}
use Rattle.mk_step.specs.Machine.{next_module, advance}

pub after-after : {A B C F M : Type 0} (r : Result (A × M) (F × M)) (f : A → Work M F B) (g : B → Work M F C)
    → after (after r f) g ≡ after r (λ x. f x >>= g)
after-after (Ok x) f g = refl
after-after (Err stop) f g = refl

pub each-nil : {M F S X : Type 0} (iteration : S → X → Work M F S) (s : S) (m : M) → each iteration s [] m ≡ Ok (s, m)
unfolding each
each-nil iteration s m = refl

each-cons : {M F S X : Type 0} (iteration : S → X → Work M F S) (s : S) (x : X) (xs : List X) (m : M) → each iteration s (x ∷ xs) m ≡ after
    (iteration s x m) (λ next. each iteration next xs)
unfolding each
each-cons iteration s x xs m = refl

-- what is still to be done once one thing is done
abbrev pub onward : FileMap → List ℕ → StateAndFrames → Work Account FaultAt EvalState
onward files makefile left = rest files makefile left.1 left.0

-- a file that is entered, and then other frames
module _ (files : FileMap) (makefile : List ℕ) (others : List Frame) where
  read : (file : List ℕ) (levels : ℕ) (found : Result Block ParseFault) (s : EvalState) (a : Account)
      → after (after (read_lines file levels found s a) (λ done. give (done.0, before done.1 others))) (onward files makefile)
      ≡ after (execute_read (entering_at files makefile levels)
      (record { files = files; makefile = makefile; file = file; levels = levels }) found s a) (rest files makefile others)
  read file levels (Ok lines) s a = refl
  read file levels (Err fault) s a = refl

  entered : (levels : ℕ) (file : File) (s : EvalState) (a : Account)
      → after (after (file_lines levels file s a) (λ done. give (done.0, before done.1 others))) (onward files makefile)
      ≡ after (entering_at files makefile levels file.0 file.1 s a) (rest files makefile others)
  entered zero file s a = refl
  entered (suc levels) file s a =
      read file.0 levels (parsed file.1) s a
      ∙ ap (λ r. after r (rest files makefile others)) (sym (file_meaning-is files makefile levels file.0 file.1 s a))

module _ (files : FileMap) (makefile : List ℕ) (site : Site) (block : Block) (frames : List Frame) where
  abbrev works : LineWorks Account FaultAt EvalState
  works = works_in files makefile site

  -- what is left once a line or a block's head is done
  abbrev left_by : StateAndFrames → Work Account FaultAt StateAndFrames
  left_by done = give (done.0, done.1 ++ Lines site block ∷ frames)

  -- the frames that a line leaves, before those of its block
  appended : (modules : List Frame) (r : Result ((EvalState × Option Frame) × Account) (FaultAt × Account))
      → after (after (after r (λ done. give (done.0, before done.1 modules))) left_by) (onward files makefile)
      ≡ after (after r (λ done. give (done.0, before done.1 (modules ++ Lines site block ∷ frames)))) (onward files makefile)
  appended modules (Ok ((s, None), a)) = refl
  appended modules (Ok ((s, Some frame), a)) = refl
  appended modules (Err end) = refl

  -- the modules, before the lines that follow
  then-modules : (line : ℕ) (asked : Bool) (r : Result (EvalState × Account) (FaultAt × Account))
      → after r (rest files makefile (modules_at site line asked ++ Lines site block ∷ frames))
      ≡ after (after (after r (modules_after (entering_in files makefile site) (place_at files makefile site) line asked))
      (execute works block site.loops)) (rest files makefile frames)
  then-modules line true (Ok (s, a)) =
      sym (after-after (include_modules (entering_in files makefile site) (place_at files makefile site) line s a)
      (execute works block site.loops) (rest files makefile frames))
  then-modules line false (Ok (s, a)) = refl
  then-modules line asked (Err end) = refl

  -- what is left of a line by what it opened
  abbrev left_of_line : LogicalLine → EvalState → Opened → Work Account FaultAt StateAndFrames
  left_of_line line before_it opened =
      opened_lines site.levels opened >>= λ done. give (done.0, before done.1 (modules_at site line.line (asks_modules before_it opened.0)))

  abbrev after_line : LogicalLine → EvalState → Opened → Work Account FaultAt EvalState
  after_line line before_it opened =
      enter (entering_in files makefile site) opened
      >>= modules_after (entering_in files makefile site) (place_at files makefile site) line.line (asks_modules before_it opened.0)

  line-by : (line : LogicalLine) (before_it : EvalState) (r : Result (Opened × Account) (FaultAt × Account))
      → after (after (after r (left_of_line line before_it)) left_by) (onward files makefile)
      ≡ after (after (after r (after_line line before_it)) (execute works block site.loops)) (rest files makefile frames)
  line-by line before_it (Ok ((s, None), a)) =
      let asked = asks_modules before_it s in
      appended (modules_at site line.line asked) (Ok ((s, None), a)) ∙ then-modules line.line asked (Ok (s, a))
  line-by line before_it (Ok ((s, Some file), a)) =
      let asked = asks_modules before_it s in
      appended (modules_at site line.line asked) (file_lines site.levels file s a)
      ∙ entered files makefile (modules_at site line.line asked ++ Lines site block ∷ frames) site.levels file s a
      ∙ then-modules line.line asked (entering_at files makefile site.levels file.0 file.1 s a)
  line-by line before_it (Err end) = refl

  choice-by : (first : Block) (later : Branches) (s : EvalState) (r : Result (Bool × Account) (FaultAt × Account))
      → after (after (after r (λ held. give (s, (if held then Lines site first else Later site later) ∷ []))) left_by)
      (onward files makefile)
      ≡ after (after (after r (λ held. if held then execute works first site.loops s else execute_branches works later site.loops s))
      (execute works block site.loops)) (rest files makefile frames)
  choice-by first later s (Ok (true, a)) = sym (after-after (execute works first site.loops s a) (execute works block site.loops)
      (rest files makefile frames))
  choice-by first later s (Ok (false, a)) = sym (after-after (execute_branches works later site.loops s a) (execute works block site.loops)
      (rest files makefile frames))
  choice-by first later s (Err end) = refl

  loop-by : (line : LogicalLine) (body : Block) (s : EvalState) (r : Result (List LoopWords × Account) (FaultAt × Account))
      → after (after (after r (λ iterations. give (s, Iterations site line.line body iterations ∷ []))) left_by) (onward files makefile)
      ≡ after (after (after r (λ iterations. each (iteration_of (works.begins line) (execute works body) site.loops) s iterations))
      (execute works block site.loops)) (rest files makefile frames)
  loop-by line body s (Ok (iterations, a)) =
      sym (after-after (each (iteration_of (works.begins line) (execute works body) site.loops) s iterations a)
      (execute works block site.loops) (rest files makefile frames))
  loop-by line body s (Err end) = refl

  tree : (tree : Tree) (s : EvalState) (a : Account)
      → after (after (do_tree files makefile site tree s a) left_by) (onward files makefile)
      ≡ after (after (execute_tree works tree site.loops s a) (execute works block site.loops)) (rest files makefile frames)
  tree (LineTree line) s a =
      line-by line s (blamed_at (place_at files makefile site) line (open_line (place_at files makefile site) site.loops line s) a)
  tree (ChoiceTree line first later) s a = choice-by first later s (works.holds site.loops line s a)
  tree (LoopTree line body) s a = loop-by line body s (works.iterations site.loops line s a)

module _ (files : FileMap) (makefile : List ℕ) (site : Site) (frames : List Frame) where
  abbrev works' : LineWorks Account FaultAt EvalState
  works' = works_in files makefile site

  branch-by : (block : Block) (more : Branches) (s : EvalState) (r : Result (Bool × Account) (FaultAt × Account))
      → after (after r (λ held. give (s, (if held then Lines site block else Later site more) ∷ frames))) (onward files makefile)
      ≡ after (after r (λ held. if held then execute works' block site.loops s else execute_branches works' more site.loops s))
      (rest files makefile frames)
  branch-by block more s (Ok (true, a)) = refl
  branch-by block more s (Ok (false, a)) = refl
  branch-by block more s (Err end) = refl

  iteration-by : (line : ℕ) (body : Block) (iteration : LoopWords) (iterations : List LoopWords) (s : EvalState)
      (r : Result (Unit {0} × Account) (FaultAt × Account))
      → after (after r (λ _. give (
        s,
        Lines (record site { loops = inside_iteration site.loops iteration }) body ∷ Iterations site line body
            iterations ∷ frames,
      ))) (onward files makefile)
      ≡ after (after (after r (λ _. execute works' body (inside_iteration site.loops iteration) s))
      (λ next. each (iteration_of (works'.begins (numbered_line line)) (execute works' body) site.loops) next iterations))
      (rest files makefile frames)
  iteration-by line body iteration iterations s (Ok (done, a)) =
      sym (after-after (execute works' body (inside_iteration site.loops iteration) s a)
      (λ next. each (iteration_of (works'.begins (numbered_line line)) (execute works' body) site.loops) next iterations)
      (rest files makefile frames))
  iteration-by line body iteration iterations s (Err end) = refl

-- modules that are searched for
module _ (files : FileMap) (makefile : List ℕ) (site : Site) (line : ℕ) (frames : List Frame) where
  abbrev place : Place
  place = place_at files makefile site

  abbrev including : EvalState → List ℕ → Work Account FaultAt EvalState
  including = include_module (entering_in files makefile site) place line

  abbrev left_found : Opened × List (List ℕ) → Work Account FaultAt StateAndFrames
  left_found found = opened_lines site.levels found.0 >>= λ done. give (done.0, before done.1 (Searches site line found.1 ∷ frames))

  words-by : (s : EvalState) (r : Result (List (List ℕ) × Account) (FaultAt × Account))
      → after (after r (λ words. give (s, Searches site line words ∷ frames))) (onward files makefile) ≡ after (after r (each including s))
      (rest files makefile frames)
  words-by s (Ok (words, a)) = refl
  words-by s (Err end) = refl

  abbrev IsSearched : List (List ℕ) → Type 0
  IsSearched words =
      (s : EvalState) (a : Account) → after (after (next_module place line words s a) left_found) (onward files makefile) ≡ after
      (each including s words a) (rest files makefile frames)

  word-by : (words : List (List ℕ)) → IsSearched words → (r : Result (Opened × Account) (FaultAt × Account))
      → after (after (after r (found_or words (next_module place line words))) left_found) (onward files makefile)
      ≡ after (after (after r (enter (entering_in files makefile site))) (λ next. each including next words)) (rest files makefile frames)
  word-by words later (Ok ((s, None), a)) = later s a
  word-by words later (Ok ((s, Some file), a)) =
      entered files makefile (Searches site line words ∷ frames) site.levels file s a
      ∙ sym (after-after (entering_at files makefile site.levels file.0 file.1 s a) (λ next. each including next words)
      (rest files makefile frames))
  word-by words later (Err end) = refl

  pub searched : (words : List (List ℕ)) → IsSearched words
  searched [] s a = refl
  searched (word ∷ words) s a =
      word-by words (searched words) (blamed place line (open_module place s word) a)
      ∙ ap (λ r. after r (rest files makefile frames)) (sym (each-cons including s word words a))

module _ (files : FileMap) (makefile : List ℕ) (frames : List Frame) where
  -- one thing that a frame does, and then the rest
  pub advances : (frame : Frame) (s : EvalState) (a : Account) → after (advance files makefile frame frames s a) (onward files makefile) ≡
      rest files makefile (frame ∷ frames) s a
  advances (Lines site EmptyBlock) s a = refl
  advances (Lines site (MoreBlock one block)) s a = tree files makefile site block frames one s a
  advances (Later site NoBranches) s a = refl
  advances (Later site (ElifBranch line block more)) s a = branch-by files makefile site frames block more s
      ((works_in files makefile site).holds site.loops line s a)
  advances (Later site (ElseBranch block)) s a = refl
  advances (Iterations site line body []) s a =
      ap (λ r. after r (rest files makefile frames))
      (sym (each-nil (iteration_of ((works_in files makefile site).begins (numbered_line line))
      (execute (works_in files makefile site) body) site.loops) s a))
  advances (Iterations site line body (iteration ∷ iterations)) s a =
      iteration-by files makefile site frames line body iteration iterations s
      ((works_in files makefile site).begins (numbered_line line) a)
      ∙ ap (λ r. after r (rest files makefile frames))
      (sym (each-cons (iteration_of ((works_in files makefile site).begins (numbered_line line))
      (execute (works_in files makefile site) body) site.loops) s iteration iterations a))
  advances (Modules site line) s a = words-by files makefile site line frames s
      (blamed (place_at files makefile site) line (quietly (module_words s.variables)) a)
  advances (Searches site line words) s a = searched files makefile site line frames words s a
