-- The paths up to here have their rows, and the files are as they were.
use Rattle.std.proofs.Common.{◌≡◌, map, take, None, string_bytes}
use Rattle.plain_reference.specs.Right.{AreOutcomes, Stay}
use Rattle.port_index.specs.FilledRows.{Fills}
use Rattle.plain_reference.specs.Work.{effort_over}
use Rattle.port_index.specs.Efforts.{lacking}
use Rattle.port_index.specs.Seen.{entries_in}
use Rattle.port_index.specs.KeptFiles.{KeepsFiles}
use Rattle.plain_reference.proofs.filled_rows.fill.Given as goal

abbrev pub invariant-loop-path : goal.invariant-loop-path
invariant-loop-path g l = record {
  right : AreOutcomes ((g.F.Names.view l.initial.files).files, l.settings) (entries_in l.rows);
  stay : Stay (entries_in l.initial.rows) (entries_in l.rows);
  fills : Fills ((g.F.Names.view l.initial.files).files, l.settings) (map string_bytes (take l.path-index l.paths))
      (entries_in l.initial.rows) (entries_in l.rows);
  effort : l.effort ≡ effort_over ((g.F.Names.view l.initial.files).files, l.settings)
      (lacking (entries_in l.initial.rows) (map string_bytes (take l.path-index l.paths)));
  keeps : KeepsFiles None (g.F.Names.view l.initial.files) (g.F.Names.view l.files);
}
