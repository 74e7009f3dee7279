-- The one value that says that memory ran out, and the one that says that the store failed.
use Rattle.refusals.specs.declared.memory.OutOfMemory.{OutOfMemory}
use Rattle.refusals.specs.declared.store.StoreRefusal.{StoreRefusal}

-- memory ran out
abbrev pub refused : OutOfMemory
refused = record { refused = tt }

-- the store failed
abbrev pub store_refused : StoreRefusal
store_refused = record { refused = tt }
