-- The texts so far, with those still to be read, are all of them.
use Rattle.std.proofs.Common.{◌≡◌, ◌-◌, map, string_bytes}
use Rattle.index_row.specs.Reads.{text, counted_items}
use Rattle.index_row.proofs.Walks.{with_front}
use Rattle.index_row.proofs.text_lists.texts_in.Given as goal

abbrev pub invariant-loop : goal.invariant-loop
invariant-loop l = with_front (map string_bytes l.found.items) (counted_items text (l.count - l.counter) l.rest) ≡
    counted_items text l.count l.bytes
