use Rattle.std.proofs.Common.{take}
use Rattle.ports_core.specs.Keys.{key_texts}
use Rattle.ports_core.specs.Sharing.{sizes_of}
use Rattle.ports_core.specs.State.{new_state}
use Rattle.ports_core.specs.Runs.{Run}
use Rattle.ports_core.proofs.history.replay.Given as goal

-- the steps so far are a run of the events so far
abbrev pub invariant-loop-index : goal.invariant-loop-index
invariant-loop-index g l = Run (new_state (key_texts l.fn.config.keys.items) (sizes_of l.fn.config))
    (take l.index l.events) l.steps.items l.service
