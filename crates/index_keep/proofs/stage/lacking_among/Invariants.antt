-- Those so far are those of the paths up to here that have no row.
use Rattle.std.proofs.Common.{◌≡◌, ◌&&◌, ℕ, List, is_none, map, take, string_bytes}
use Rattle.port_index.specs.FilledRows.{is_one_of}
use Rattle.port_index.specs.Finders.{IsFinderOf}
use Rattle.port_index.specs.Seen.{entries_in}
use Rattle.index_keep.proofs.stage.lacking_among.Given as goal

abbrev pub invariant-loop-path : goal.invariant-loop-path
invariant-loop-path l = record {
  finder : IsFinderOf l.known l.finder;
  lacking : (path : List ℕ) → is_one_of path (map string_bytes l.lacking.items) ≡
      (is_one_of path (map string_bytes (take l.path-index l.paths)) && is_none (entries_in l.known path));
}
