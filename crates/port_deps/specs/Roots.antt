-- The ports of a ports tree and their dependencies, as they are listed.
use Rattle.std.specs.Prelude.{ℕ, List, Result, Ok, Err}
use Rattle.std.specs.Borrow.{Bor}
use Rattle.mk_base.specs.FaultAt.{FaultAt}
use Rattle.port_rules.specs.Ports.{PortValue}
use Rattle.port_deps.specs.Edges.{EdgeValue}

-- a port with its canonical path, or the fault that was met where it should be
pub record RootValue : Type 0 where
  pub path : List ℕ
  pub state : Result PortValue FaultAt

-- the port or the fault that a reference points to
abbrev pub state_lent : Result (Bor PortValue) (Bor FaultAt) → Result PortValue FaultAt
state_lent (Ok port) = Ok port.now
state_lent (Err fault) = Err fault.now

-- a dependency of the port at a canonical path
pub record RootEdgeValue : Type 0 where
  pub root : List ℕ
  pub edge : EdgeValue
