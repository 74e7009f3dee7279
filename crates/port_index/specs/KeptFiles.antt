-- What work over files leaves of them.
use Rattle.std.specs.Prelude.{◌≡◌, ◌⊎◌, Option, Some, None}
use Rattle.mk_paths.specs.FilesView.{FilesView, failed}
use Rattle.mk_paths.specs.declared.files.FilesFault.{FilesFault}
use Rattle.mk_paths.specs.declared.files.FilesFault.TheVariants as faults

-- If the store failed, one failure is counted. If memory ran out, one may be counted.
-- Without a fault, none is.
abbrev pub Counts : Option FilesFault → FilesView → FilesView → Type 0
Counts None old new = new.failures ≡ old.failures
Counts (Some (faults.Store _)) old new = new.failures ≡ (failed old).failures
Counts (Some (faults.Memory _)) old new = (new.failures ≡ old.failures) ⊎ (new.failures ≡ (failed old).failures)

-- Work that ended with this fault, or with none, left the map of the files as it was. The count of their
-- failures changed only as `Counts` says.
pub record KeepsFiles (fault : Option FilesFault) (old new : FilesView) : Type 0 where
  pub files : new.files ≡ old.files
  pub failures : Counts fault old new
