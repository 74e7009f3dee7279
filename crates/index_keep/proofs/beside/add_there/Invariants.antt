-- Those of the paths up to here are added that are there. The files are the same.
use Rattle.std.proofs.Common.{◌≡◌, ◌&&◌, ◌||◌, ℕ, List, None, map, string_bytes}
use Rattle.mk_paths.specs.FilesView.{view_world}
use Rattle.port_index.specs.FilledRows.{is_one_of}
use Rattle.read_trace.specs.Recorder.{view_of}
use Rattle.index_keep.specs.Beside.{is_there_at}
use Rattle.index_keep.specs.Right.{LeavesFiles}
use Rattle.index_keep.proofs.beside.add_there.Given as goal

abbrev pub invariant-loop-path : goal.invariant-loop-path
invariant-loop-path g l = record {
  leaves : LeavesFiles None (view_of g.F.Names.view l.initial.files) (view_of g.F.Names.view l.files);
  adds : (path : List ℕ) → is_one_of path (map string_bytes l.beside.items)
      ≡ (is_one_of path (map string_bytes l.initial.beside.items) || (is_one_of path (map string_bytes l.yielded)
      && is_there_at (view_world (view_of g.F.Names.view l.initial.files) l.settings) l.known path));
}
