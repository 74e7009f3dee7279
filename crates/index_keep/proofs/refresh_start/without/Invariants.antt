-- The rows of the paths up to here are taken out.
use Rattle.std.proofs.Common.{◌≡◌, ℕ, List, None, if◌then◌else◌, map, take, string_bytes}
use Rattle.port_index.specs.FilledRows.{is_one_of}
use Rattle.port_index.specs.Seen.{said_in}
use Rattle.index_keep.proofs.refresh_start.without.Given as goal

abbrev pub invariant-loop-path : goal.invariant-loop-path
invariant-loop-path l = (path : List ℕ) → said_in l.known path
    ≡ (if is_one_of path (map string_bytes (take l.path-index l.paths)) then None else said_in l.fn.known path)
