-- The record of a port: what it is, in a budget of its own.
use Rattle.std.specs.Prelude.{◌≤◌, ℕ, List, Result, Ok, Err}
use Rattle.mk_base.specs.declared.faults.FaultKind.{FaultKind}
use Rattle.mk_base.specs.declared.budget.TheConstants.{UNITS}
use Rattle.mk_base.specs.FaultAt.{fault_at}
use Rattle.mk_base.specs.Meter.{Meter, full}
use Rattle.mk_env.specs.Texts.{Variables}
use Rattle.mk_eval.specs.declared.outcome.Failed.{Failed}
use Rattle.port_rules.specs.Ports.{PortValue, port_of}
use Rattle.port_rules.specs.declared.records.Recorded.{Recorded}

-- the end of that work with its cost, in units; a fault is reported at line 0 of the makefile
abbrev pub recorded : List ℕ → Result (PortValue × Meter) (FaultKind × Meter) → Result Recorded Failed
recorded makefile (Ok end) = Ok (record { port = end.0; cost = end.1.spent })
recorded makefile (Err end) = Err (record { fault = fault_at end.0 makefile 0; cost = end.1.spent })

-- the record of the port whose makefile, of this name, left these variables
abbrev pub record_of : Variables → List ℕ → Result Recorded Failed
record_of variables makefile = recorded makefile (port_of variables (full UNITS))

-- the units of a record, up to its fault if it has one
abbrev pub record_units : Result Recorded Failed → ℕ
record_units (Ok recorded) = recorded.cost
record_units (Err failed) = failed.cost

-- each record costs at most 50,000 units
abbrev pub RecordsCostFew : Type 0
RecordsCostFew = (variables : Variables) (makefile : List ℕ) → record_units (record_of variables makefile) ≤ UNITS
