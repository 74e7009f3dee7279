use Rattle.mk_paths.specs.FilesView.{view_world}
use Rattle.index_store.specs.PortTable.{stored_by}
use Rattle.read_trace.specs.Recorder.{view_of}
use Rattle.index_keep.specs.Keeper.{IsKept}
use Rattle.port_cases.proofs.refreshes.turns_of.Given as goal

-- the keeper is right about the world, and the files are the same
abbrev pub invariant-loop-number : goal.invariant-loop-number
invariant-loop-number g l = IsKept stored_by (view_world (view_of g.F.Names.view l.files) l.settings) l.keeper
