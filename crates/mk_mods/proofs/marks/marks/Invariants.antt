use Rattle.std.proofs.Common.{◌≡◌, ◌++◌, drop, map}
use Rattle.std.specs.List.{flat_map}
use Rattle.mk_ref.specs.Places.{piece_in_text}
use Rattle.mk_mods.specs.Marks.{piece_marks}
use Rattle.mk_mods.specs.Views.{shown_mark}
use Rattle.mk_mods.proofs.marks.marks.Given as goal

abbrev pub invariant-loop-piece : goal.invariant-loop-piece
invariant-loop-piece l =
    let found = map (piece_in_text l.text) l.piece-items in
    map shown_mark l.marks.items ++ flat_map piece_marks (drop l.piece-index found) ≡ flat_map piece_marks found
