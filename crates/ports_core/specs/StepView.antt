-- What a contract sees of a `Step`.
use Rattle.ports_core.specs.declared.history.Step.TheInside.{Inside}
use Rattle.ports_core.specs.Effects.{Effect}

-- a step without its bytes' place in memory
abbrev pub step_view : Inside → Effect
step_view step = record { told = step.told; sent = step.sent.items }
