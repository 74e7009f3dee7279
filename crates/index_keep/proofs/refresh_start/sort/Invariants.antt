-- The rows so far are sorted, and the others are left.
use Rattle.std.proofs.Common.{◌≡◌, ◌++◌, map, string_bytes}
use Rattle.std.specs.BTreeSet.{contains_text}
use Rattle.port_index.specs.Seen.{said_in}
use Rattle.index_store.specs.Entries.{Entries, AreRowsOf, stored_seen}
use Rattle.index_keep.proofs.SortLemmas.{KnowsRows, ListsOutdated}
use Rattle.index_keep.proofs.refresh_start.sort.Given as goal

abbrev pub invariant-loop-row : goal.invariant-loop-row
invariant-loop-row l = record {
  left : l.fn.stored.items ≡ l.yielded ++ l.row-iterator.rest.items;
  known : (entries : Entries) → AreRowsOf entries (map stored_seen l.fn.stored.items)
      → KnowsRows (contains_text l.changed) entries (map stored_seen l.yielded) (said_in l.sorted.known);
  outdated : (entries : Entries) → AreRowsOf entries (map stored_seen l.fn.stored.items)
      → ListsOutdated (contains_text l.changed) entries (map stored_seen l.yielded) (map string_bytes l.sorted.outdated.items);
}
