-- What work leaves of the files, one piece after another.
use Rattle.std.proofs.Common.{◌≡◌, ◌∙◌, ◌+◌, ◌-◌, ◌^◌, min, ap, inl, inr, Option, Some, None}
use Rattle.mk_paths.specs.FilesView.{FilesView}
use Rattle.mk_paths.specs.declared.files.FilesFault.{FilesFault}
use Rattle.mk_paths.specs.declared.files.FilesFault.TheVariants as faults
use Rattle.port_index.specs.KeptFiles.{Counts, KeepsFiles}

counts : (fault : Option FilesFault) (first middle last : FilesView) → middle.failures ≡ first.failures → Counts fault middle last
    → Counts fault first last
counts None first middle last same more = more ∙ same
counts (Some (faults.Store _)) first middle last same more = more ∙ ap (λ n. min (n + 1) (2 ^ 64 - 1)) same
counts (Some (faults.Memory _)) first middle last same more =
    elim more [ inl e ↦ inl (e ∙ same) | inr e ↦ inr (e ∙ ap (λ n. min (n + 1) (2 ^ 64 - 1)) same) ]

-- work that went well, and then more
pub KeepsFiles-on : (fault : Option FilesFault) (first middle last : FilesView) → KeepsFiles None first middle
    → KeepsFiles fault middle last → KeepsFiles fault first last
KeepsFiles-on fault first middle last one more = record {
  files = more.files ∙ one.files;
  failures = counts fault first middle last
      one.failures more.failures;
}
