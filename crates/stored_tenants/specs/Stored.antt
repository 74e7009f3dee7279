-- What a contract sees of the tenants as they are stored.
use Rattle.std.specs.Prelude.{List, Option}
use Rattle.mk_paths.specs.World.{World}
use Rattle.ports_core.specs.Jobs.{TenantJob}
use Rattle.ports_core.specs.Sharing.{Sharing}

-- the worlds of the tenants and their jobs, by the tenants' numbers, and what the tenants share
abbrev pub Stored : Type 0
Stored = List World × List (Option TenantJob) × Sharing
