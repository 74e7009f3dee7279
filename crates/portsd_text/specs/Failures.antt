-- Why a run ends early: its exit status, and the text that is written.
use Rattle.std.specs.Prelude.{ℕ, List, ◌++◌, codes, decimal}
use Rattle.ports_core.specs.declared.service.NewFault.{NewFault}
use Rattle.ports_core.specs.declared.service.NewFault.TheVariants as new
use Rattle.refusals.specs.Refused.{refused, store_refused}
use Rattle.portsd_text.specs.declared.script.ScriptFault.{ScriptFault}
use Rattle.portsd_text.specs.declared.script.ScriptFault.TheVariants as fault
use Rattle.portsd_text.specs.declared.failure.Failure.{Failure}
use Rattle.portsd_text.specs.declared.failure.Failure.TheVariants.{BadKey, BadEvent, NotAllowed, CannotListen}
use Rattle.portsd_text.specs.declared.failure.Failure.TheVariants.{CannotWrite, Store, Memory}

-- the exit status: 2 if what was asked can't be done, 1 if something outside failed
abbrev pub failure_status : Failure → ℕ
failure_status BadKey = 2
failure_status (BadEvent line) = 2
failure_status (NotAllowed line) = 2
failure_status CannotListen = 1
failure_status CannotWrite = 1
failure_status (Store _) = 1
failure_status (Memory _) = 1

-- the text of a failure that names a line of the script
abbrev pub line_text : ℕ → List ℕ → List ℕ
line_text line what = codes "portsd: line " ++ (decimal line ++ what)

-- the text of a failure that is written on standard error
abbrev pub failure_text : Failure → List ℕ
failure_text BadKey = codes "portsd: bad key\n"
failure_text (BadEvent line) = line_text line (codes ": bad event\n")
failure_text (NotAllowed line) = line_text line (codes ": event not allowed\n")
failure_text CannotListen = codes "portsd: cannot listen\n"
failure_text CannotWrite = codes "portsd: cannot write\n"
failure_text (Store _) = codes "portsd: store failed\n"
failure_text (Memory _) = codes "portsd: out of memory\n"

-- the failure if a script isn't read
abbrev pub script_failure : ScriptFault → Failure
script_failure (fault.BadEvent line) = BadEvent line
script_failure (fault.Memory _) = Memory refused

-- the failure if a service can't begin
abbrev pub new_failure : NewFault → Failure
new_failure new.Config = BadKey
new_failure (new.Store _) = Store store_refused
new_failure (new.Memory _) = Memory refused
