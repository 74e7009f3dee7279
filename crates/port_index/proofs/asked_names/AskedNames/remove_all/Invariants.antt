-- Other paths stay noted.
use Rattle.port_index.specs.AskedNames.{is_noted, KeepsOtherNotes}
use Rattle.port_index.proofs.asked_names.AskedNames.remove_all.Given as goal

abbrev pub invariant-loop-name : goal.invariant-loop-name
invariant-loop-name l = KeepsOtherNotes l.path (is_noted l.initial.self) (is_noted l.self)
