-- Those so far are those of the paths up to here that are among the others.
use Rattle.std.proofs.Common.{◌≡◌, ◌&&◌, ℕ, List, map, take, string_bytes}
use Rattle.port_index.specs.FilledRows.{is_one_of}
use Rattle.port_index.specs.TreePaths.{AreInOrder}
use Rattle.index_keep.proofs.stage.found_among.Given as goal

abbrev pub invariant-loop-path : goal.invariant-loop-path
invariant-loop-path l = AreInOrder (map string_bytes l.others) → (path : List ℕ)
    → is_one_of path (map string_bytes l.found.items) ≡ (is_one_of path (map string_bytes (take l.path-index l.paths)) && is_one_of path
    (map string_bytes l.others))
