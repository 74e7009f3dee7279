-- It is known of the paths up to here what they lead to, and the files are the same.
use Rattle.std.proofs.Common.{None}
use Rattle.mk_paths.specs.FilesView.{view_world}
use Rattle.read_trace.specs.Recorder.{view_of}
use Rattle.index_keep.specs.Right.{LeavesFiles}
use Rattle.index_keep.specs.Walk.{HasPassed}
use Rattle.index_keep.proofs.stage.Stage.lacking.Given as goal

abbrev pub invariant-loop-place : goal.invariant-loop-place
invariant-loop-place g l = record {
  passed : HasPassed (view_world (view_of g.F.Names.view l.initial.files) l.settings) l.self l.self.place
      → HasPassed (view_world (view_of g.F.Names.view l.initial.files) l.settings) l.self l.place;
  leaves : LeavesFiles None (view_of g.F.Names.view l.initial.files) (view_of g.F.Names.view l.files);
}
