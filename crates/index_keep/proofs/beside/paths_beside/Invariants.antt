-- Those so far are what the rows up to here name with a comma and is there. The files are the same.
use Rattle.std.proofs.Common.{◌≡◌, ◌&&◌, ℕ, List, None, map, take, string_bytes}
use Rattle.mk_paths.specs.FilesView.{view_world}
use Rattle.port_deps.specs.ItemText.{has_comma}
use Rattle.port_index.specs.FilledRows.{is_one_of}
use Rattle.port_index.specs.Finders.{IsFinderOf}
use Rattle.port_index.specs.RowLaws.{is_target_among}
use Rattle.port_index.specs.Seen.{entries_in, known_in}
use Rattle.read_trace.specs.Recorder.{view_of}
use Rattle.index_keep.specs.Beside.{is_there_at}
use Rattle.index_keep.specs.Right.{LeavesFiles}
use Rattle.index_keep.proofs.beside.paths_beside.Given as goal

abbrev pub invariant-loop-path : goal.invariant-loop-path
invariant-loop-path g l = record {
  finder : IsFinderOf l.known l.finder;
  leaves : LeavesFiles None (view_of g.F.Names.view l.initial.files) (view_of g.F.Names.view l.files);
  are : (path : List ℕ) → is_one_of path (map string_bytes l.beside.items)
      ≡ (has_comma path && is_target_among (known_in (entries_in l.known)) (map string_bytes (take l.path-index l.listed)) path
      && is_there_at (view_world (view_of g.F.Names.view l.initial.files) l.settings) l.known path);
}
