-- What is printed after the events of a script were run, and the failure that it ends with.
use Rattle.std.specs.Prelude.{◌≡◌, ◌⊎◌, ℕ, List, slice_index, Option, Result, Ok, Err, OnOk, IfErr}
use Rattle.std.specs.Io.KnownBytes.{Appends, Keeps}
use Rattle.ports_core.specs.declared.history.Transcript.{Transcript}
use Rattle.ports_core.specs.declared.history.ReplayFault.{ReplayFault}
use Rattle.ports_core.specs.declared.history.ReplayFault.TheVariants as run
use Rattle.portsd_text.specs.declared.script.Script.{Script}
use Rattle.portsd_text.specs.declared.failure.Failure.{Failure}
use Rattle.portsd_text.specs.declared.failure.Failure.TheVariants.{NotAllowed, Memory}
use Rattle.portsd_text.specs.Scripts.{numbered}
use Rattle.portsd_text.specs.Transcript.{transcript}
use Rattle.portsd_text.specs.Failures.{new_failure}
use Rattle.portsd_run.specs.ScriptRun.{FailsToPrint}
use Rattle.refusals.specs.Refused.{refused}

-- all events happened, and their effects are printed
abbrev pub PrintsRun : {W : Type 0} → Script → Result (Transcript W) (ReplayFault W) → Option (List ℕ) → Option (List ℕ) → Type 0
PrintsRun script (Ok done) held holds = Appends held holds (transcript (numbered script) done.steps.items)
PrintsRun script (Err why) held holds = ⊥

-- The failure after a run. If all events happened, it is that of the output. If one wasn't allowed, the
-- effects of those before it are printed, and the failure names its line, or is that of the output. If the
-- service didn't begin, the failure is that of its beginning, and memory is `Memory`.
abbrev pub FailsAfter : {W : Type 0} → Script → Result (Transcript W) (ReplayFault W) → Option (List ℕ) → Option (List ℕ) → Failure → Type 0
FailsAfter script (Ok done) held holds failure = FailsToPrint held holds (transcript (numbered script) done.steps.items) failure
FailsAfter script (Err (run.NotAllowed index done)) held holds failure =
    FailsToPrint held holds (transcript (numbered script) done.steps.items) failure
    ⊎ ((failure ≡ NotAllowed (slice_index script.lines.items index))
    × Appends held holds (transcript (numbered script) done.steps.items))
FailsAfter script (Err (run.New why)) held holds failure = (failure ≡ new_failure why) × Keeps held holds
FailsAfter script (Err (run.Memory _)) held holds failure = (failure ≡ Memory refused) × Keeps held holds

-- where a function succeeds, all events of a run happened, and their effects are printed
abbrev pub ReportsRun : {W O A E : Type 0} → Result A E → Script → Result (Transcript W) (ReplayFault W)
    → (O → Option (List ℕ)) → O → O → Type 0
ReportsRun result script ran contents old new = OnOk result (PrintsRun script ran (contents old) (contents new))

-- where a function fails, its failure is the one after this run
abbrev pub FailsByRun : {W O A : Type 0} → Result A Failure → Script → Result (Transcript W) (ReplayFault W)
    → (O → Option (List ℕ)) → O → O → Type 0
FailsByRun result script ran contents old new = IfErr result (FailsAfter script ran (contents old) (contents new))
