-- How the refusals of the store are reported.
use Rattle.std.specs.Prelude.{Result, List, ℕ, IsErrOf, IsTrue}
use Rattle.mk_paths.specs.declared.files.FilesFault.{FilesFault}
use Rattle.mk_paths.specs.declared.files.FilesFault.TheVariants as faults
use Rattle.tenant_store.specs.declared.faults.PutFault.{PutFault}
use Rattle.tenant_store.specs.declared.faults.PutFault.TheVariants as puts
use Rattle.mk_paths.specs.World.{World, files_in, with_file}
use Rattle.mk_files.specs.Limits.{is_over}

-- a fault of the database or of memory, as a fault of an upload
abbrev pub put_fault : FilesFault → PutFault
put_fault (faults.Store refusal) = puts.Store refusal
put_fault (faults.Memory refused) = puts.Memory refused

-- if a function tells that the store is full, the files with this one are over the limits
abbrev pub IsFullWithFile : {R : Type 0} → Result R PutFault → World → List ℕ → List ℕ → Type 0
IsFullWithFile result world name content =
    IsErrOf result puts.Full → IsTrue (is_over (files_in (with_file world name content)))
