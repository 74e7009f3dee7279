-- The rows so far are those before, and those that are shown up to here.
use Rattle.std.proofs.Common.{◌≡◌, ◌++◌, map}
use Rattle.index_store.specs.Entries.{stored_seen}
use Rattle.index_store.specs.PortTable.{row_shown}
use Rattle.index_store.proofs.read_rows.add_rows.Given as goal

abbrev pub invariant-loop-row : goal.invariant-loop-row
invariant-loop-row l = map stored_seen l.stored.items ≡ map stored_seen l.fn.stored.items ++ map row_shown l.yielded
