-- The rows of the paths up to here are taken, and the others are left.
use Rattle.std.proofs.Common.{◌≡◌, ℕ, List, None, if◌then◌else◌, map, take, string_bytes}
use Rattle.port_index.specs.FilledRows.{is_one_of}
use Rattle.port_index.specs.Seen.{said_in}
use Rattle.index_keep.proofs.refresh_start.part.Given as goal

abbrev pub invariant-loop-path : goal.invariant-loop-path
invariant-loop-path l = record {
  left : (path : List ℕ) → said_in l.left path
      ≡ (if is_one_of path (map string_bytes (take l.path-index l.paths)) then None else said_in l.fn.known path);
  taken : (path : List ℕ) → said_in l.taken path
      ≡ (if is_one_of path (map string_bytes (take l.path-index l.paths)) then said_in l.fn.known path else None);
}
