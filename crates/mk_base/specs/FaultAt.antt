use Rattle.std.specs.Prelude.{ℕ, List}
use Rattle.mk_base.specs.declared.faults.FaultKind.{FaultKind}

-- a fault as a reader sees it: what went wrong, the bytes of the file's name, and the line
pub record FaultAt : Type 0 where
  pub kind : FaultKind
  pub name : List ℕ
  pub line : ℕ

-- the fault of this kind at this line of the named file
abbrev pub fault_at : FaultKind → List ℕ → ℕ → FaultAt
fault_at kind name line = record { kind = kind; name = name; line = line }
