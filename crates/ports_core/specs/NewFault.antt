-- Why a service can't begin.
use Rattle.mk_paths.specs.declared.files.FilesFault.{FilesFault}
use Rattle.mk_paths.specs.declared.files.FilesFault.TheVariants as faults
use Rattle.ports_core.specs.declared.service.NewFault.{NewFault}
use Rattle.ports_core.specs.declared.service.NewFault.TheVariants as news

-- a fault of the files, as a reason why a service can't begin
abbrev pub new_fault : FilesFault → NewFault
new_fault (faults.Store refusal) = news.Store refusal
new_fault (faults.Memory refused) = news.Memory refused
