-- What the code's steps do.
use Rattle.std.proofs.Common.{◌≡◌, ◌<◌, ◌+◌, ◌-◌, ◌∙◌, ℕ, suc, zero, Bool, List, [], ◌∷◌, drop, length, get_or, map, option_map, Option}
use Rattle.std.proofs.Common.{Some, None, Result, Ok, Err, if◌then◌else◌, refl, sym, ap, subst, arith}
use Rattle.std.proofs.lemmas.List.{drop_more}
use Rattle.mk_base.specs.FaultAt.{FaultAt}
use Rattle.mk_base.specs.Meter.{Meter, pay}
use Rattle.mk_base.specs.Outcome.{Work, give, after, tell, ◌>>=◌}
use Rattle.mk_base.specs.Stops.{StopsAt, StopsAt-whole, StopsPurelyAt, stop_of_pure}
use Rattle.mk_base.specs.declared.stops.PureStop.{PureStop}
use Rattle.mk_base.specs.declared.stops.PureStop.TheVariants as pure
use Rattle.mk_base.specs.declared.stops.Stop.{Stop}
use Rattle.mk_text.specs.Lines.{LogicalLine}
use Rattle.std.proofs.Common.{Vec, Global}
use Rattle.std.specs.declared.rc.Rc.{Rc}
use Rattle.mk_ast.specs.declared.nodes.Node.{Node, Node-F, fold-roll-Node}
use Rattle.mk_ast.specs.declared.nodes.Node.TheVariants.{Choice, Loop, rolls-Choice, rolls-Loop}
use Rattle.mk_ast.specs.declared.nodes.Branch.{Branch, out-Branch}
use Rattle.mk_ast.specs.Trees.{Tree, ChoiceTree, LoopTree, Block}
use Rattle.mk_ast.specs.Parser.{parsed}
use Rattle.mk_ast.specs.Blocks.{branches_from, last_branch}
use Rattle.mk_ast.specs.Views.{tree_of, block_of, branch_of, node_step, branch_step}
use Rattle.mk_paths.specs.World.{FileMap}
use Rattle.mk_files.specs.Questions.{Account, beside}
use Rattle.mk_paths.specs.FilesView.{Question}
use Rattle.mk_loop.specs.declared.iterations.Iteration.{Iteration}
use Rattle.mk_loop.specs.LoopWords.{LoopWords}
use Rattle.mk_eval.specs.declared.includes.ExecutedFile.{ExecutedFile}
use Rattle.mk_eval.specs.declared.state.EvalState.{EvalState}
use Rattle.mk_eval.specs.Lines.{inside_iteration}
use Rattle.mk_eval.specs.Heads.{condition_holds, iterations}
use Rattle.mk_eval.specs.Includes.{Place, File, Opened}
use Rattle.mk_eval.specs.Meaning.{at, blamed_at, open_line}
use Rattle.mk_eval.specs.Modules.{asks_modules, module_words}
use Rattle.mk_eval.specs.Steps.{works_of, PaysToOpen, MayOpen}
use Rattle.mk_eval.specs.declared.includes.Included.{Included}
use Rattle.mk_eval.specs.Views.{loops_of, place_of_file, included_file}
use Rattle.mk_eval.proofs.Stepping.{tree-branch}
use Rattle.mk_step.specs.Machine.{Site, Frame, Lines, Later, Iterations, Modules, Searches, StateAndFrames, place_at, works_in}
use Rattle.mk_step.specs.Machine.{numbered_line, read_lines, file_lines, opened_lines, next_module, do_line, do_tree, before, modules_at}
use Rattle.mk_step.specs.Machine.{advance}
use Rattle.mk_step.specs.Views.{later_from}

-- what the code calls at a site is what the machine does there
module _ (here : ExecutedFile) (files : FileMap) (makefile : List ℕ) (site : Site) (loops : List Iteration)
    (placed : place_of_file here files ≡ place_at files makefile site) (looped : loops_of loops ≡ site.loops) where
  pub holds-there : (line : LogicalLine) (s : EvalState) (a : Account) → (works_of here files).holds (loops_of loops) line s a ≡
      (works_in files makefile site).holds site.loops line s a
  holds-there line s a =
      ap (λ (place : Place). blamed_at place line (condition_holds place.files place.makefile s.variables (loops_of loops) line.text) a)
      placed
      ∙ ap (λ loops. (works_in files makefile site).holds loops line s a) looped

  pub opens-there : (line : LogicalLine) (s : EvalState) (a : Account)
      → blamed_at (place_of_file here files) line (open_line (place_of_file here files) (loops_of loops) line s) a ≡ blamed_at
      (place_at files makefile site) line (open_line (place_at files makefile site) site.loops line s) a
  opens-there line s a =
      ap (λ (place : Place). blamed_at place line (open_line place (loops_of loops) line s) a) placed
      ∙ ap (λ loops. blamed_at (place_at files makefile site) line (open_line (place_at files makefile site) loops line s) a) looped

module _ (files : FileMap) (makefile : List ℕ) (site : Site) (frames : List Frame) (s : EvalState) (a : Account) where
  -- the branches from a place on
  pub later-first : (items : List Branch) (next : ℕ) (item : Branch) (otherwise : Option (List Node)) → next < length items
      → item ≡ get_or items next item
      → advance files makefile (Later site (later_from items next otherwise)) frames s a
      ≡ after ((works_in files makefile site).holds site.loops (out-Branch item).head s a)
      (λ held. give (
        s,
        (if held then Lines site (block_of (out-Branch item).body.value.items) else Later site
            (later_from items (next + 1) otherwise)) ∷ frames,
      ))
  later-first items next item otherwise within is =
      ap (λ left. advance files makefile (Later site (branches_from (map branch_of left) (last_branch (option_map block_of otherwise))))
      frames s a) (drop_more items next item within ∙ ap (λ x. x ∷ drop (next + 1) items) (sym is))
      ∙ ap (λ branch. advance files makefile
      (Later site (branches_from (branch ∷ map branch_of (drop (next + 1) items)) (last_branch (option_map block_of otherwise))))
      frames s a) (tree-branch item)

  -- the iterations from a place on
  pub iterations-first : (line : ℕ) (body : Block) (iterations : List LoopWords) (next : ℕ) → next < length iterations
      → advance files makefile (Iterations site line body (drop next iterations)) frames s a
      ≡ after ((works_in files makefile site).begins (numbered_line line) a)
      (λ _. give (
        s,
        Lines (record site { loops = inside_iteration site.loops (get_or iterations next []) }) body ∷ Iterations site line
            body (drop (next + 1) iterations) ∷ frames,
      ))
  iterations-first line body iterations next within =
      ap (λ left. advance files makefile (Iterations site line body left) frames s a) (drop_more iterations next [] within)

-- a condition judged, among the branches from a place on
module _ (here : ExecutedFile) (files : FileMap) (makefile : List ℕ) (site : Site) (loops : List Iteration)
    (placed : place_of_file here files ≡ place_at files makefile site) (looped : loops_of loops ≡ site.loops)
    (frames : List Frame) (s : EvalState) (a : Account) (slice items : List Branch) (next : ℕ) (item : Branch)
    (otherwise : Option (List Node)) (same : slice ≡ items) (within : next < length items) (is : item ≡ get_or slice next item) where
  abbrev left_by : Bool → Work Account FaultAt StateAndFrames
  left_by held = give (
    s,
    (if held then Lines site (block_of (out-Branch item).body.value.items) else Later site
        (later_from items (next + 1) otherwise)) ∷ frames,
  )

  judged : advance files makefile (Later site (later_from items next otherwise)) frames s a ≡ after
      ((works_of here files).holds (loops_of loops) (out-Branch item).head s a) left_by
  judged =
      later-first files makefile site frames s a items next item otherwise within (is ∙ ap (λ items. get_or items next item) same)
      ∙ ap (λ r. after r left_by) (sym (holds-there here files makefile site loops placed looped (out-Branch item).head s a))

  pub later-stops : (stop : Stop FaultAt) (end : Account)
      → StopsAt stop end ((works_of here files).holds (loops_of loops) (out-Branch item).head s a)
      → StopsAt stop end (advance files makefile (Later site (later_from items next otherwise)) frames s a)
  later-stops stop end stops = StopsAt-whole stop end _ _ (λ fault at. judged ∙ ap (λ r. after r left_by) at) stops

  pub later-goes : (held : Bool) (end : Account) (frames' : List Frame) → (works_of here files).holds (loops_of loops)
      (out-Branch item).head s a ≡ Ok (held, end)
      → (if held then Lines site (block_of (out-Branch item).body.value.items) else Later site (later_from items (next + 1) otherwise)) ∷
      frames ≡ frames'
      → advance files makefile (Later site (later_from items next otherwise)) frames s a ≡ Ok ((s, frames'), end)
  later-goes held end frames' holds left =
      judged ∙ ap (λ r. after r left_by) holds ∙ ap (λ frames. let outcome : Result (StateAndFrames × Account) (FaultAt × Account) =
      Ok ((s, frames), end) in outcome) left

told-found : {A F G : Type 0} (f : F → G) (log : Option (List Question)) (r : Result (A × Meter) (F × Meter)) (x : A) (m : Meter)
    → tell f r ≡ Ok (x, m) → tell f (beside log r) ≡ Ok (x, record { meter = m; log = log })
told-found f log (Ok end) x m is = ap (beside log) is
told-found f log (Err end) x m is = cc

told-stops : {A F G : Type 0} (f : F → G) (log : Option (List Question)) (r : Result (A × Meter) (F × Meter)) (fault : G) (m : Meter)
    → tell f r ≡ Err (fault, m) → tell f (beside log r) ≡ Err (fault, record { meter = m; log = log })
told-stops f log (Ok end) fault m is = cc
told-stops f log (Err end) fault m is = ap (beside log) is

-- an iteration begun, among those from a place on
module _ (here : ExecutedFile) (files : FileMap) (makefile : List ℕ) (site : Site)
    (placed : place_of_file here files ≡ place_at files makefile site)
    (frames : List Frame) (s : EvalState) (m : Meter) (log : Option (List Question)) (line : ℕ) (body : Block) (iterations : List LoopWords)
    (next : ℕ) (within : next < length iterations) where
  abbrev left_begun : Unit {0} → Work Account FaultAt StateAndFrames
  left_begun done = give (
    s,
    Lines (record site { loops = inside_iteration site.loops (get_or iterations next []) }) body ∷ Iterations site
        line body (drop (next + 1) iterations) ∷ frames,
  )

  begun : advance files makefile (Iterations site line body (drop next iterations)) frames s (record { meter = m; log = log }) ≡ after
      (tell (at here.file.now line) (beside log (pay m))) left_begun
  begun =
      iterations-first files makefile site frames s (record { meter = m; log = log }) line body iterations next within
      ∙ ap (λ (place : Place). after (tell (at place.file line) (beside log (pay m))) left_begun) (sym placed)

  pub iterations-stop : (stop : PureStop FaultAt) (end : Meter) → StopsPurelyAt stop end (tell (at here.file.now line) (pay m))
      → StopsPurelyAt stop (record { meter = end; log = log }) (advance files makefile (Iterations site line body (drop next iterations))
      frames s (record { meter = m; log = log }))
  iterations-stop (pure.Fault fault) end stops = begun
      ∙ ap (λ r. after r left_begun) (told-stops (at here.file.now line) log (pay m) fault end stops)
  iterations-stop (pure.Memory _) end stops = tt

  pub iterations-go : (end : Meter) (frames' : List Frame) → tell (at here.file.now line) (pay m) ≡ Ok (tt, end)
      → Lines (record site { loops = inside_iteration site.loops (get_or iterations next []) }) body ∷ Iterations site line body
      (drop (next + 1) iterations) ∷ frames ≡ frames'
      → advance files makefile (Iterations site line body (drop next iterations)) frames s (record { meter = m; log = log }) ≡ Ok
      ((s, frames'), record { meter = end; log = log })
  iterations-go end frames' gives left =
      begun ∙ ap (λ r. after r left_begun) (told-found (at here.file.now line) log (pay m) tt end gives)
      ∙ ap (λ frames. let outcome : Result (StateAndFrames × Account) (FaultAt × Account) =
      Ok ((s, frames), record { meter = end; log = log }) in outcome) left

-- MODULES expanded
module _ (here : ExecutedFile) (files : FileMap) (makefile : List ℕ) (site : Site)
    (placed : place_of_file here files ≡ place_at files makefile site)
    (frames : List Frame) (s : EvalState) (m : Meter) (log : Option (List Question)) (line : ℕ) where
  abbrev left_expanded : List (List ℕ) → Work Account FaultAt StateAndFrames
  left_expanded words = give (s, Searches site line words ∷ frames)

  expanded : advance files makefile (Modules site line) frames s (record { meter = m; log = log }) ≡ after
      (tell (at here.file.now line) (beside log (module_words s.variables m))) left_expanded
  expanded = ap (λ (place : Place). after (tell (at place.file line) (beside log (module_words s.variables m))) left_expanded) (sym placed)

  pub modules-stop : (stop : PureStop FaultAt) (end : Meter)
      → StopsPurelyAt stop end (tell (at here.file.now line) (module_words s.variables m))
      → StopsPurelyAt stop (record { meter = end; log = log })
      (advance files makefile (Modules site line) frames s (record { meter = m; log = log }))
  modules-stop (pure.Fault fault) end stops = expanded
      ∙ ap (λ r. after r left_expanded) (told-stops (at here.file.now line) log (module_words s.variables m) fault end stops)
  modules-stop (pure.Memory _) end stops = tt

-- a stop of work that looks at no file, as a stop of any work
pub stops-purely : {A M : Type 0} (stop : PureStop FaultAt) (end : M) (outcome : Result (A × M) (FaultAt × M))
    → StopsPurelyAt stop end outcome → StopsAt (stop_of_pure stop) end outcome
stops-purely (pure.Fault fault) end outcome stops = stops
stops-purely (pure.Memory _) end outcome stops = tt

enters-file : (levels : ℕ) (file : File) (s : EvalState) (a : Account) → (levels ≡ 0 → ⊥) → file_lines levels file s a ≡ read_lines file.0
    (levels - 1) (parsed file.1) s a
enters-file zero file s a some = absurd (some refl)
enters-file (suc levels) file s a some = let same : levels ≡ suc levels - 1 =
    omega arith in ap (λ n. read_lines file.0 n (parsed file.1) s a) same

-- a line that frames no block
module _ (here : ExecutedFile) (files : FileMap) (makefile : List ℕ) (site : Site) (loops : List Iteration)
    (placed : place_of_file here files ≡ place_at files makefile site) (looped : loops_of loops ≡ site.loops)
    (line : LogicalLine) (s : EvalState) (a : Account) where
  abbrev opening : Result (Opened × Account) (FaultAt × Account)
  opening = blamed_at (place_of_file here files) line (open_line (place_of_file here files) (loops_of loops) line s) a

  abbrev left_of_line : Opened → Work Account FaultAt StateAndFrames
  left_of_line opened = opened_lines site.levels opened >>= λ done. give
      (done.0, before done.1 (modules_at site line.line (asks_modules s opened.0)))

  opened : do_line files makefile site line s a ≡ after opening left_of_line
  opened = ap (λ r. after r left_of_line) (sym (opens-there here files makefile site loops placed looped line s a))

  pub line-stops : (stop : Stop FaultAt) (end : Account) → StopsAt stop end opening
      → StopsAt stop end (do_line files makefile site line s a)
  line-stops stop end stops = StopsAt-whole stop end _ _ (λ fault at. opened ∙ ap (λ r. after r left_of_line) at) stops

  pub line-alone : (s' : EvalState) (end : Account) (modules : List Frame) → opening ≡ Ok ((s', None), end)
      → modules ≡ modules_at site line.line (asks_modules s s')
      → do_line files makefile site line s a ≡ Ok ((s', modules), end)
  line-alone s' end modules gives are =
      opened ∙ ap (λ r. after r left_of_line) gives
      ∙ ap (λ modules. let outcome : Result (StateAndFrames × Account) (FaultAt × Account) = Ok ((s', modules), end) in outcome) (sym are)

  -- what is left of a file that was opened
  abbrev left_of_file : EvalState → (EvalState × Option Frame) → Work Account FaultAt StateAndFrames
  left_of_file s' done = give (done.0, before done.1 (modules_at site line.line (asks_modules s s')))

  pub line-enters : (s' : EvalState) (file : File) (end : Account) → opening ≡ Ok ((s', Some file), end) → (site.levels ≡ 0 → ⊥)
      → do_line files makefile site line s a ≡ after (read_lines file.0 (site.levels - 1) (parsed file.1) s' end) (left_of_file s')
  line-enters s' file end gives some =
      opened ∙ ap (λ r. after r left_of_line) gives ∙ ap (λ r. after r (left_of_file s')) (enters-file site.levels file s' end some)

  pub line-reads : (s' : EvalState) (file : File) (end : Account) (frame : Frame) (frames : List Frame)
      → opening ≡ Ok ((s', Some file), end) → (site.levels ≡ 0 → ⊥)
      → read_lines file.0 (site.levels - 1) (parsed file.1) s' end ≡ Ok ((s', Some frame), end)
      → frames ≡ frame ∷ modules_at site line.line (asks_modules s s')
      → do_line files makefile site line s a ≡ Ok ((s', frames), end)
  line-reads s' file end frame frames gives some reads are =
      line-enters s' file end gives some ∙ ap (λ r. after r (left_of_file s')) reads
      ∙ ap (λ frames. let outcome : Result (StateAndFrames × Account) (FaultAt × Account) = Ok ((s', frames), end) in outcome) (sym are)

  pub line-unread : (s' : EvalState) (file : File) (end : Account) (stop : PureStop FaultAt)
      → opening ≡ Ok ((s', Some file), end) → (site.levels ≡ 0 → ⊥)
      → StopsPurelyAt stop end (read_lines file.0 (site.levels - 1) (parsed file.1) s' end)
      → StopsAt (stop_of_pure stop) end (do_line files makefile site line s a)
  line-unread s' file end (pure.Fault fault) gives some stops = line-enters s' file end gives some
      ∙ ap (λ r. after r (left_of_file s')) stops
  line-unread s' file end (pure.Memory _) gives some stops = tt

pub may-open : (levels levels' : ℕ) (old new : Meter) (found : Option Included) (included : Included) → levels ≡ levels'
    → found ≡ Some included → PaysToOpen levels old new found → levels' ≡ 0 → ⊥
may-open levels levels' old new found included same is opens none = let may = subst (PaysToOpen levels old new) is
    opens in may.0 (same ∙ none)

pub found-some : (r : Result (Opened × Account) (FaultAt × Account)) (s : EvalState) (found : Option Included) (end : Account)
    (one : Option Included) → found ≡ one → r ≡ Ok ((s, option_map included_file found), end)
    → r ≡ Ok ((s, option_map included_file one), end)
found-some r s found end one is gives = gives ∙ ap (λ found. let outcome : Result (Opened × Account) (FaultAt × Account) =
    Ok ((s, option_map included_file found), end) in outcome) is

-- the tree of a choice
choice-tree : (head : LogicalLine) (body : Rc (Vec Node Global) Global) (branches : Rc (Vec Branch Global) Global)
    (otherwise : Option (Rc (Vec Node Global) Global)) → tree_of (Choice head body branches otherwise) ≡ ChoiceTree head
    (block_of body.value.items) (later_from branches.value.items 0 (option_map (λ block. block.value.items) otherwise))
choice-tree head body branches None = ap tree_of (sym (rolls-Choice head body branches None)) ∙ fold-roll-Node Tree (LogicalLine × Block)
    node_step branch_step (Node-F.Choice head body branches None)
choice-tree head body branches (Some block) = ap tree_of (sym (rolls-Choice head body branches (Some block)))
    ∙ fold-roll-Node Tree (LogicalLine × Block) node_step branch_step (Node-F.Choice head body branches (Some block))

loop-tree : (head : LogicalLine) (body : Rc (Vec Node Global) Global) → tree_of (Loop head body) ≡ LoopTree head (block_of body.value.items)
loop-tree head body = ap tree_of (sym (rolls-Loop head body)) ∙ fold-roll-Node Tree (LogicalLine × Block) node_step
    branch_step (Node-F.Loop head body)

-- a choice
module _ (here : ExecutedFile) (files : FileMap) (makefile : List ℕ) (site : Site) (loops : List Iteration)
    (placed : place_of_file here files ≡ place_at files makefile site) (looped : loops_of loops ≡ site.loops)
    (node : Node) (head : LogicalLine) (body : Rc (Vec Node Global) Global) (branches : Rc (Vec Branch Global) Global)
    (otherwise : Option (Rc (Vec Node Global) Global)) (is : node ≡ Choice head body branches otherwise) (s : EvalState) (a : Account) where
  abbrev first : Bool → Frame
  first held = if held then Lines site (block_of body.value.items) else Later site
      (later_from branches.value.items 0 (option_map (λ block. block.value.items) otherwise))

  abbrev left_chosen : Bool → Work Account FaultAt StateAndFrames
  left_chosen held = give (s, first held ∷ [])

  chooses : do_tree files makefile site (tree_of node) s a ≡ after ((works_of here files).holds (loops_of loops) head s a) left_chosen
  chooses =
      ap (λ tree. do_tree files makefile site tree s a) (ap tree_of is ∙ choice-tree head body branches otherwise)
      ∙ ap (λ r. after r left_chosen) (sym (holds-there here files makefile site loops placed looped head s a))

  pub choice-stops : (stop : Stop FaultAt) (end : Account) → StopsAt stop end ((works_of here files).holds (loops_of loops) head s a)
      → StopsAt stop end (do_tree files makefile site (tree_of node) s a)
  choice-stops stop end stops = StopsAt-whole stop end _ _ (λ fault at. chooses ∙ ap (λ r. after r left_chosen) at) stops

  pub choice-goes : (held : Bool) (end : Account) (frames : List Frame) → (works_of here files).holds (loops_of loops) head s a ≡ Ok
      (held, end) → first held ∷ [] ≡ frames
      → do_tree files makefile site (tree_of node) s a ≡ Ok ((s, frames), end)
  choice-goes held end frames holds left =
      chooses ∙ ap (λ r. after r left_chosen) holds ∙ ap (λ frames. let outcome : Result (StateAndFrames × Account) (FaultAt × Account) =
      Ok ((s, frames), end) in outcome) left

-- a loop
module _ (here : ExecutedFile) (files : FileMap) (makefile : List ℕ) (site : Site) (loops : List Iteration)
    (placed : place_of_file here files ≡ place_at files makefile site) (looped : loops_of loops ≡ site.loops)
    (node : Node) (head : LogicalLine) (body : Rc (Vec Node Global) Global) (is : node ≡ Loop head body) (s : EvalState) (m : Meter)
    (log : Option (List Question)) where
  abbrev reading : Result (List LoopWords × Meter) (FaultAt × Meter)
  reading = tell (at here.file.now head.line) (iterations s.variables (loops_of loops) head.text m)

  abbrev left_read : List LoopWords → Work Account FaultAt StateAndFrames
  left_read iterations = give (s, Iterations site head.line (block_of body.value.items) iterations ∷ [])

  reads : do_tree files makefile site (tree_of node) s (record { meter = m; log = log }) ≡ after
      (tell (at here.file.now head.line) (beside log (iterations s.variables (loops_of loops) head.text m))) left_read
  reads =
      ap (λ tree. do_tree files makefile site tree s (record { meter = m; log = log })) (ap tree_of is ∙ loop-tree head body)
      ∙ ap (λ (place : Place). after (tell (at place.file head.line) (beside log (iterations s.variables site.loops head.text m)))
      left_read) (sym placed)
      ∙ ap (λ loops. after (tell (at here.file.now head.line) (beside log (iterations s.variables loops head.text m))) left_read)
      (sym looped)

  pub loop-stops : (stop : PureStop FaultAt) (end : Meter) → StopsPurelyAt stop end reading
      → StopsAt (stop_of_pure stop) (record { meter = end; log = log })
      (do_tree files makefile site (tree_of node) s (record { meter = m; log = log }))
  loop-stops (pure.Fault fault) end stops = reads
      ∙ ap (λ r. after r left_read)
      (told-stops (at here.file.now head.line) log (iterations s.variables (loops_of loops) head.text m) fault end stops)
  loop-stops (pure.Memory _) end stops = tt

pub may-search : (levels levels' : ℕ) (found : Option Included) (included : Included) → levels ≡ levels' → found ≡ Some included
    → MayOpen levels found → levels' ≡ 0 → ⊥
may-search levels levels' found included same is opens none = let may = subst (MayOpen levels) is opens in may (same ∙ none)

-- the next module searched for
module _ (here : ExecutedFile) (files : FileMap) (makefile : List ℕ) (site : Site)
    (placed : place_of_file here files ≡ place_at files makefile site)
    (frames : List Frame) (s : EvalState) (a : Account) (line : ℕ) (words : List (List ℕ)) where
  abbrev searching : Result ((Opened × List (List ℕ)) × Account) (FaultAt × Account)
  searching = next_module (place_of_file here files) line words s a

  abbrev left_found : Opened × List (List ℕ) → Work Account FaultAt StateAndFrames
  left_found found = opened_lines site.levels found.0 >>= λ done. give (done.0, before done.1 (Searches site line found.1 ∷ frames))

  searched : advance files makefile (Searches site line words) frames s a ≡ after searching left_found
  searched = ap (λ place. after (next_module place line words s a) left_found) (sym placed)

  pub search-stops : (stop : Stop FaultAt) (end : Account) → StopsAt stop end searching
      → StopsAt stop end (advance files makefile (Searches site line words) frames s a)
  search-stops stop end stops = StopsAt-whole stop end _ _ (λ fault at. searched ∙ ap (λ r. after r left_found) at) stops

  module _ (rest : List (List ℕ)) (end : Account) (found : Option Included)
      (gives : searching ≡ Ok (((s, option_map included_file found), rest), end)) where
    found-is : (one : Option Included) → found ≡ one → searching ≡ Ok (((s, option_map included_file one), rest), end)
    found-is one is = gives ∙ ap (λ found. let outcome : Result ((Opened × List (List ℕ)) × Account) (FaultAt × Account) =
        Ok (((s, option_map included_file found), rest), end) in outcome) is

    -- there is none
    pub search-ends : (frames' : List Frame) → found ≡ None → Searches site line rest ∷ frames ≡ frames'
        → advance files makefile (Searches site line words) frames s a ≡ Ok ((s, frames'), end)
    search-ends frames' none left =
        searched ∙ ap (λ r. after r left_found) (found-is None none)
        ∙ ap (λ frames. let outcome : Result (StateAndFrames × Account) (FaultAt × Account) = Ok ((s, frames), end) in outcome) left

    abbrev left_entered : (EvalState × Option Frame) → Work Account FaultAt StateAndFrames
    left_entered done = give (done.0, before done.1 (Searches site line rest ∷ frames))

    -- it is there
    module _ (included : Included) (is : found ≡ Some included) (some : site.levels ≡ 0 → ⊥) where
      enters : advance files makefile (Searches site line words) frames s a ≡ after
          (read_lines included.name (site.levels - 1) (parsed included.content) s end) left_entered
      enters =
          searched ∙ ap (λ r. after r left_found) (found-is (Some included) is)
          ∙ ap (λ r. after r left_entered) (enters-file site.levels (included_file included) s end some)

      pub search-reads : (frame : Frame) (frames' : List Frame) → read_lines included.name (site.levels - 1) (parsed included.content) s end
          ≡ Ok ((s, Some frame), end) → frame ∷ Searches site line rest ∷ frames ≡ frames'
          → advance files makefile (Searches site line words) frames s a ≡ Ok ((s, frames'), end)
      search-reads frame frames' reads left =
          enters ∙ ap (λ r. after r left_entered) reads
          ∙ ap (λ frames. let outcome : Result (StateAndFrames × Account) (FaultAt × Account) = Ok ((s, frames), end) in outcome) left

      pub search-unread : (stop : PureStop FaultAt)
          → StopsPurelyAt stop end (read_lines included.name (site.levels - 1) (parsed included.content) s end)
          → StopsAt (stop_of_pure stop) end (advance files makefile (Searches site line words) frames s a)
      search-unread (pure.Fault fault) stops = enters ∙ ap (λ r. after r left_entered) stops
      search-unread (pure.Memory _) stops = tt
