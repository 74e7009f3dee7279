use Rattle.std.proofs.Common.{◌≡◌, ◌++◌, drop, map}
use Rattle.std.specs.List.{flat_map}
use Rattle.mk_ref.specs.Places.{piece_in_text}
use Rattle.mk_ref.specs.Outside.{covered_piece}
use Rattle.mk_ref.proofs.outside_text.covered.Given as goal

abbrev pub invariant-loop-piece : goal.invariant-loop-piece
invariant-loop-piece l =
    let found = map (piece_in_text l.text) l.found in
    l.bytes.items ++ flat_map covered_piece (drop l.piece-index found) ≡ flat_map covered_piece found
