use Rattle.std.specs.Prelude.{ℕ}
use Rattle.mk_base.specs.declared.faults.FaultKind.{FaultKind}
use Rattle.mk_base.specs.declared.faults.FaultKind.TheVariants as kinds

-- the number by which replies name a kind of fault
abbrev pub fault_number : FaultKind → ℕ
fault_number kinds.Line = 1
fault_number kinds.Block = 2
fault_number kinds.Condition = 3
fault_number kinds.For = 4
fault_number kinds.Include = 5
fault_number kinds.IncludeDepth = 6
fault_number kinds.Reference = 7
fault_number kinds.Modifier = 8
fault_number kinds.Recursive = 9
fault_number kinds.Depth = 10
fault_number kinds.Budget = 11
fault_number kinds.Length = 12
fault_number kinds.Shell = 13
fault_number kinds.Utf8 = 14
fault_number kinds.Flavor = 15
fault_number kinds.NoName = 16
fault_number kinds.BadName = 17
fault_number kinds.Questions = 18
