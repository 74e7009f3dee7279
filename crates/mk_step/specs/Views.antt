-- What the code has, as the definitions see it.
use Rattle.std.specs.Prelude.{ℕ, List, [], map, string_bytes, drop, reverse, option_map, Option, Vec}
use Rattle.std.specs.Global.{Global}
use Rattle.std.specs.declared.rc.Rc.{Rc}
use Rattle.mk_ast.specs.declared.nodes.Node.{Node}
use Rattle.mk_ast.specs.declared.nodes.Branch.{Branch}
use Rattle.mk_ast.specs.Trees.{Branches}
use Rattle.mk_ast.specs.Blocks.{branches_from, last_branch}
use Rattle.mk_ast.specs.Views.{block_of, branch_of}
use Rattle.mk_loop.specs.Scopes.{iterations_in}
use Rattle.mk_eval.specs.Views.{loops_of}
use Rattle.mk_step.specs.Machine as machine
use Rattle.mk_step.specs.Points.{Point}
use Rattle.mk_step.specs.declared.sites.Site.{Site}
use Rattle.mk_step.specs.Machine.{before}
use Rattle.mk_step.specs.declared.frames.Frame.{Frame}
use Rattle.mk_step.specs.declared.frames.Inner.{Inner}
use Rattle.mk_step.specs.declared.frames.ToDo.{ToDo}
use Rattle.mk_step.specs.declared.frames.ToDo.TheVariants.{Lines, Later, Iterations, Modules, Searches}
use Rattle.mk_step.specs.declared.searches.Search.{Search}
use Rattle.mk_step.specs.declared.machine.Machine.{Machine}

-- where lines are
abbrev pub site_of : Site → machine.Site
site_of site = record { file = site.file.value; levels = site.levels; loops = loops_of site.loops.items }

-- the branches from an index on, with the last one, if there is one
abbrev pub later_from : List Branch → ℕ → Option (List Node) → Branches
later_from branches next otherwise = branches_from (map branch_of (drop next branches)) (last_branch (option_map block_of otherwise))

-- the words of a search that are left
abbrev pub words_left : Search → List (List ℕ)
words_left search = map string_bytes (drop search.next search.words.items)

-- the nodes of the last branch, if there is one
abbrev pub nodes_in : Option (Rc (Vec Node Global) Global) → Option (List Node)
nodes_in otherwise = option_map (λ block. block.value.items) otherwise

-- what is to be done at a site
abbrev pub frame_at : machine.Site → ToDo → machine.Frame
frame_at site (Lines left) = machine.Lines site (block_of (drop left.next left.block.value.items))
frame_at site (Later left) = machine.Later site (later_from left.branches.value.items left.next (nodes_in left.otherwise))
frame_at site (Iterations left) =
    machine.Iterations site left.line (block_of left.body.value.items) (drop left.next (iterations_in left.iterations.value))
frame_at site (Modules line) = machine.Modules site line
frame_at site (Searches search) = machine.Searches site search.line (words_left search)

-- a frame
abbrev pub frame_of : Frame → machine.Frame
frame_of frame = frame_at (site_of frame.site.value) frame.to_do

-- what is to be done before what follows a line
abbrev pub inner_frames : Inner → List machine.Frame
inner_frames inner = before (option_map frame_of inner.lines) (before (option_map frame_of inner.modules) [])

-- all frames, of which the innermost is the last
abbrev pub frames_of : List Frame → List machine.Frame
frames_of frames = reverse (map frame_of frames)

-- the point that a machine has come to
abbrev pub point_of : Machine → Point
point_of machine = record {
  makefile = machine.makefile;
  frames = frames_of machine.frames.items;
  state = machine.state;
  meter = machine.budget;
}
