-- What the functions of a machine do with its frames.
use Rattle.std.specs.Prelude.{◌≡◌, ◌≤◌, ◌<◌, ℕ, Bool, if◌then◌else◌, List, ◌∷◌, ◌++◌, Vec, Option, Some, None, option_map}
use Rattle.std.specs.Prelude.{Result, IfOk, OnOk, length, drop, slice_get}
use Rattle.std.specs.Global.{Global}
use Rattle.std.specs.declared.rc.Rc.{Rc}
use Rattle.mk_base.specs.declared.stops.PureStop.{PureStop}
use Rattle.mk_base.specs.declared.stops.Stop.{Stop}
use Rattle.mk_base.specs.FaultAt.{FaultAt}
use Rattle.mk_base.specs.Meter.{Meter}
use Rattle.mk_base.specs.Stops.{Gives, GivesPurely}
use Rattle.mk_text.specs.Lines.{LogicalLine}
use Rattle.mk_ast.specs.declared.nodes.Branch.{Branch}
use Rattle.mk_ast.specs.declared.nodes.Node.{Node}
use Rattle.mk_ast.specs.Parser.{parsed}
use Rattle.mk_ast.specs.Views.{block_of, tree_of}
use Rattle.mk_loop.specs.declared.iterations.Iterations.{Iterations}
use Rattle.mk_loop.specs.LoopWords.{LoopWords}
use Rattle.mk_loop.specs.Scopes.{iterations_in}
use Rattle.mk_paths.specs.World.{FileMap}
use Rattle.mk_paths.specs.FilesView.{FilesView, Question, view_world}
use Rattle.mk_paths.specs.declared.files.FilesFault.{FilesFault}
use Rattle.mk_paths.specs.declared.search_path.Settings.{Settings}
use Rattle.mk_files.specs.Questions.{Account, account}
use Rattle.mk_eval.specs.declared.includes.ExecutedFile.{ExecutedFile}
use Rattle.mk_eval.specs.declared.includes.Included.{Included}
use Rattle.mk_eval.specs.declared.outcome.Evaluated.{Evaluated}
use Rattle.mk_eval.specs.declared.state.EvalState.{EvalState}
use Rattle.mk_eval.specs.Lines.{inside_iteration}
use Rattle.mk_eval.specs.Views.{place_of_file, included_file, flavors_in}
use Rattle.mk_step.specs.declared.frames.Frame.{Frame}
use Rattle.mk_step.specs.declared.frames.ToDo.{ToDo}
use Rattle.mk_step.specs.declared.machine.Machine.{Machine}
use Rattle.mk_step.specs.declared.searches.Search.{Search}
use Rattle.mk_step.specs.declared.sites.Site.{Site}
use Rattle.mk_step.specs.Machine as machine
use Rattle.mk_step.specs.Machine.{before, place_at, advance, do_line, do_tree, read_lines, modules_at}
use Rattle.mk_step.specs.Costs.{Costs, weight}
use Rattle.mk_step.specs.Points.{DoTheSame}
use Rattle.mk_step.specs.Turn.{Flavors, RunsOn, BeginsMachine}
use Rattle.mk_step.specs.Views.{site_of, frame_at, frame_of, frames_of, inner_frames, later_from, nodes_in, words_left, point_of}
use Rattle.mk_step.specs.declared.frames.Inner.{Inner}

-- ---- one step of a machine among files, before and after

-- a machine does the next thing that is to be done at a site, among files, as the definition says
abbrev pub StepsAt : {R F : Type 0} → (F → FilesView) → Rc Site Global → ToDo → Machine × F → Machine × F
    → Result R (Stop FaultAt) → Type 0
StepsAt view site to_do old new result =
    Gives (λ _. (new.0.state, frames_of new.0.frames.items)) result (account new.0.budget (view new.1))
    (advance (view old.1).files old.0.makefile (frame_at (site_of site.value) to_do) (frames_of old.0.frames.items) old.0.state
    (account old.0.budget (view old.1)))

-- a machine does the next thing that a frame has to do
abbrev pub Advances : {R F : Type 0} → (F → FilesView) → Frame → Machine × F → Machine × F → Result R (Stop FaultAt) → Type 0
Advances view frame old new result = StepsAt view frame.site frame.to_do old new result

-- a machine does so without looking at files, so whatever files there are, and with any log
abbrev pub StepsAlone : {R : Type 0} → Rc Site Global → ToDo → Machine → Machine → Result R (PureStop FaultAt) → Type 0
StepsAlone site to_do old new result =
    (files : FileMap) (log : Option (List Question))
    → GivesPurely (λ _. (new.state, frames_of new.frames.items)) result (record { meter = new.budget; log = log })
    (advance files old.makefile (frame_at (site_of site.value) to_do) (frames_of old.frames.items) old.state
    (record { meter = old.budget; log = log }))

-- a machine does a line, or begins a block, and gives what is to be done before what follows
abbrev pub DoesNode : {F : Type 0} → (F → FilesView) → Rc Site Global → Node → Machine × F → Machine × F
    → Result Inner (Stop FaultAt) → Type 0
DoesNode view site node old new result =
    Gives (λ inner. (new.0.state, inner_frames inner)) result (account new.0.budget (view new.1))
    (do_tree (view old.1).files old.0.makefile (site_of site.value) (tree_of node) old.0.state (account old.0.budget (view old.1)))

-- the same of a line that frames no block
abbrev pub DoesLine : {F : Type 0} → (F → FilesView) → Rc Site Global → LogicalLine → Machine × F → Machine × F
    → Result Inner (Stop FaultAt) → Type 0
DoesLine view site line old new result =
    Gives (λ inner. (new.0.state, inner_frames inner)) result (account new.0.budget (view new.1))
    (do_line (view old.1).files old.0.makefile (site_of site.value) line old.0.state (account old.0.budget (view old.1)))

-- the lines of a file are read, outside any loop, in each state and on each account
abbrev pub ReadsLines : Included → ℕ → Result Frame (PureStop FaultAt) → Type 0
ReadsLines included levels result =
    (s : EvalState) (a : Account)
    → GivesPurely (λ frame. (s, Some (frame_of frame))) result a (read_lines included.name levels (parsed included.content) s a)

-- a search finds the next module that is there, in this state, from one budget and files to the next
abbrev pub FindsModule : ExecutedFile → EvalState → Search × Search → Result (Option Included) (Stop FaultAt)
    → Meter × FilesView → Meter × FilesView → Type 0
FindsModule here state searches result old new =
    Gives (λ found. ((state, option_map included_file found), words_left searches.1)) result (account new.0 new.1)
    (machine.next_module (place_of_file here old.1.files) searches.0.line (words_left searches.0) state (account old.0 old.1))

-- ---- frames on top of others

-- if a function succeeds, it puts these frames on top of the old ones
abbrev pub PutsOn : {R F : Type 0} → Result R F → List machine.Frame → List Frame → List Frame → Type 0
PutsOn result more old new = OnOk result (frames_of new ≡ more ++ frames_of old)

-- if a function succeeds, it puts a frame, if there is one, on top of the old ones
abbrev pub PutsFirst : {R F : Type 0} → Result R F → Option Frame → List Frame → List Frame → Type 0
PutsFirst result frame old new = OnOk result (frames_of new ≡ before (option_map frame_of frame) (frames_of old))

-- if a function succeeds, it gives what a line leaves that opened a file with these lines, or none: they, and the
-- modules if the line asks for them
abbrev pub LeavesInner : {F : Type 0} → Rc Site Global → ℕ → Option Frame → Bool → Result Inner F → Type 0
LeavesInner site line lines asked result =
    IfOk result (λ inner. inner_frames inner ≡ before (option_map frame_of lines) (modules_at (site_of site.value) line asked))

-- ---- frames without what costs nothing

-- before any others, what is left of a frame, if anything is, has the same to do at the same cost
abbrev pub Settles : machine.Frame → Option Frame → Type 0
Settles frame left = (others : List machine.Frame) → DoTheSame (frame ∷ others) (before (option_map frame_of left) others)

-- the same of what is to be done at a site
abbrev pub SettlesAt : Rc Site Global → ToDo → Option Frame → Type 0
SettlesAt site to_do left = Settles (frame_at (site_of site.value) to_do) left

-- the same of all frames, of which one is taken
abbrev pub SettlesAll : List Frame → List Frame → Option Frame → Type 0
SettlesAll old new taken = DoTheSame (frames_of old) (before (option_map frame_of taken) (frames_of new))

-- before any others, what is left of a frame has no more to do about modules that costs nothing
abbrev pub IsNoHeavier : machine.Frame → Option Frame → Type 0
IsNoHeavier frame left =
    (others : List machine.Frame) → weight (before (option_map frame_of left) others) ≤ weight (frame ∷ others)

-- before any others, what is left of a frame has nothing to do about modules that costs nothing
abbrev pub WeighsNothing : Option Frame → Type 0
WeighsNothing left = (others : List machine.Frame) → weight (before (option_map frame_of left) others) ≤ weight others

-- all frames, of which one is taken, have no more to do about modules that costs nothing
abbrev pub AreNoHeavier : List Frame → List Frame → Option Frame → Type 0
AreNoHeavier old new taken = weight (before (option_map frame_of taken) (frames_of new)) ≤ weight (frames_of old)

-- at any site and before any others, the lines from the second index on have the same to do as those from the first
abbrev pub AreAlikeFrom : List Node → ℕ → ℕ → Type 0
AreAlikeFrom nodes from next =
    (site : machine.Site) (others : List machine.Frame)
    → DoTheSame (machine.Lines site (block_of (drop from nodes)) ∷ others) (machine.Lines site (block_of (drop next nodes)) ∷ others)

-- at any site, if there is a line with this index, the lines from there on cost at least a unit
abbrev pub CostsFrom : List Node → ℕ → Type 0
CostsFrom nodes next = (site : machine.Site) → next < length nodes → Costs (machine.Lines site (block_of (drop next nodes)))

-- ---- what the heads of blocks leave

-- If a condition held, its branch is to be done at any site. Otherwise the branches from this index on are, and the
-- last one, if there is one.
abbrev pub Chooses : Bool → Rc (Vec Node Global) Global → Rc (Vec Branch Global) Global → ℕ
    → Option (Rc (Vec Node Global) Global) → ToDo → Type 0
Chooses held body branches next otherwise to_do =
    (site : machine.Site) → frame_at site to_do
    ≡ (if held then machine.Lines site (block_of body.value.items)
    else machine.Later site (later_from branches.value.items next (nodes_in otherwise)))

-- the iterations of a loop that begins at this line are to be done at any site
abbrev pub Repeats : ℕ → Rc (Vec Node Global) Global → Rc Iterations Global → ToDo → Type 0
Repeats line body iterations to_do =
    (site : machine.Site) → frame_at site to_do ≡ machine.Iterations site line (block_of body.value.items) (iterations_in iterations.value)

-- ---- sites

-- if a function succeeds, it gives the site in a file that is outside any loop
abbrev pub IsOutside : {F : Type 0} → List ℕ → ℕ → Result (Rc Site Global) F → Type 0
IsOutside file levels result = IfOk result (λ site. site_of site.value ≡ record { file = file; levels = levels; loops = None })

-- if a function succeeds, it gives the site in one more loop, at its iteration with this index
abbrev pub EntersLoop : {F : Type 0} → Site → Iterations → ℕ → Result (Rc Site Global) F → Type 0
EntersLoop outer iterations index result =
    (iteration : LoopWords) → slice_get (iterations_in iterations) index ≡ Some iteration
    → IfOk result
    (λ site. site_of site.value ≡ record (site_of outer) { loops = inside_iteration (site_of outer).loops iteration })

-- among any files, a site is the place of an executed file, in the evaluation of this makefile
abbrev pub IsHere : List ℕ → Site → ExecutedFile → Type 0
IsHere makefile site here = (files : FileMap) → place_of_file here files ≡ place_at files makefile (site_of site)

-- ---- runs, beginnings and ends

-- a machine that was given some units ran among files, from the point that it had come to before, to the one after
abbrev pub RunsFor : {F : Type 0} → (FilesFault → Type 0) → (F → FilesView) → Machine × F → Machine × F → ℕ
    → Result Bool (Stop FaultAt) → Type 0
RunsFor may view old new units result =
    RunsOn may (view old.1) (view new.1) (point_of old.0) (point_of new.0) units result

-- an evaluation of the makefile of this name, with these flavors, begins among files and with these settings
abbrev pub BeginsAmong : (FilesFault → Type 0) → FilesView → FilesView → Settings → List ℕ × Flavors
    → Result Machine (Stop FaultAt) → Type 0
BeginsAmong may old new settings what result = BeginsMachine may old new (view_world old settings) what.0 (flavors_in what.1) result

-- what a machine gives that has nothing left to do
abbrev pub outcome_of : Machine → Evaluated
outcome_of machine = record {
  kind = machine.state.kind;
  env = machine.state.variables;
  cost = machine.budget.spent;
}
