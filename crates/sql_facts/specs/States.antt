-- The state of a database in memory, and what a statement leaves as it was.
use Rattle.std.specs.Prelude.{◌≡◌, ℕ, List, Ok, false, IsTrue}
use Rattle.std.specs.Borrow.{MutBor}
use Rattle.sqlite.specs.Effect.{Database}
use Rattle.sqlite.specs.Held.{Held, state}
use Rattle.sqlite.specs.State.{State, Executes}
use Rattle.sqlite.specs.Steps.{over_memory}
use Rattle.sqlite_value.specs.Order.{Row}
use Rattle.sqlite_trees.specs.declared.memory.MemStore.{MemStore}

-- the state of a connection's database, which is in memory
abbrev pub state_of : Held MemStore → State
state_of connection = state over_memory connection

-- outside a transaction, with all committed
pub record IsSettled (s : State) : Type 0 where
  pub autocommit : s.in_transaction ≡ false
  pub committed : s.committed ≡ s.now

-- nothing has changed
pub record Stays (old new : State) : Type 0 where
  pub now : new.now ≡ old.now
  pub committed : new.committed ≡ old.committed
  pub mode : new.in_transaction ≡ old.in_transaction

-- in a transaction, with tables of this form
pub record IsOpen (IsFormed : Database → Type 0) (s : State) : Type 0 where
  pub inside : IsTrue s.in_transaction
  pub formed : IsFormed s.now

-- a transaction is still that of its connection, and the last commit is as it was
pub record KeepsCommit (old new : MutBor (Held MemStore)) : Type 0 where
  pub same_reference : new.ghost_name ≡ old.ghost_name
  pub committed : (state_of new.now).committed ≡ (state_of old.now).committed

-- a statement has run, and changed some number of rows
abbrev pub Ran : List ℕ → Row → State → State → Type 0
Ran sql params old new = (count : ℕ) × Executes sql params old new (Ok count)
