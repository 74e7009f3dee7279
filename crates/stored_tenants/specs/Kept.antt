-- The tenants: their worlds, the indexes of these, as their keepers have them, and what is under way for their requests.
use Rattle.std.specs.Prelude.{◌≡◌, ℕ, ◌<◌, ◌+◌, List, length, map, replicate, slice_get}
use Rattle.std.specs.Prelude.{Option, Some, None, option_map, unwrap_or, IfSome}
use Rattle.mk_paths.specs.World.{World, opening_world}
use Rattle.plain_service.specs.AnswerCosts.{turns_for}
use Rattle.ports_core.specs.Jobs as jobs
use Rattle.ports_core.specs.Jobs.{job_in}
use Rattle.index_store.specs.PortTable.{stored_by}
use Rattle.index_keep.specs.Keeper.{IsKept, refresh_of, size_at_hand}
use Rattle.index_keep.specs.Turns.{RefreshView}
use Rattle.question_turns.specs.UnderWay.{IsUnderWayOver, question_in}
use Rattle.question_turns.specs.TurnsLeft.{turns_left}
use Rattle.stored_tenants.specs.declared.tenant.TenantJob.{TenantJob}
use Rattle.stored_tenants.specs.declared.tenant.Tenant.{Tenant}

-- what a contract sees of a job
abbrev pub seen_job : TenantJob → jobs.TenantJob
seen_job job = record {
  question = question_in job.under_way;
  had = record { turns = job.turns; units = job.under_way.spent.units; checks = job.under_way.spent.checks };
}

-- what is under way for a tenant, if anything is
abbrev pub job_of : Tenant → Option jobs.TenantJob
job_of tenant = option_map seen_job tenant.job

-- What is under way is right, by how far the refresh of the index is. With the turns that the question has had, the
-- turns that may follow without an answer are fewer than those within which it is told its reply.
pub record IsJobOver (world : World) (refresh : RefreshView) (job : TenantJob) : Type 0 where
  pub pending : IsUnderWayOver world refresh job.under_way
  pub in_time : job.turns + turns_left world refresh job.under_way < turns_for world (question_in job.under_way)

-- the world of a tenant: its files and its settings
abbrev pub world_of : Tenant → World
world_of tenant = tenant.store

-- how many bytes the rows of a tenant's index have, if the index is at hand
abbrev pub index_size : Tenant → Option ℕ
index_size tenant = size_at_hand tenant.keeper

-- The settings are those of the tenant's world, the keeper is right about this world, and the job is one over it.
pub record IsRightTenant (tenant : Tenant) : Type 0 where
  pub settings : tenant.settings ≡ (world_of tenant).1
  pub keeper : IsKept stored_by (world_of tenant) tenant.keeper
  pub pending : IfSome tenant.job (IsJobOver (world_of tenant) (refresh_of stored_by tenant.keeper))

-- a tenant has this world, and no job
pub record IsIdle (world : World) (tenant : Tenant) : Type 0 where
  pub same : world_of tenant ≡ world
  pub none : tenant.job ≡ None

-- each tenant is right
abbrev pub AreRightTenants : List Tenant → Type 0
AreRightTenants tenants = (t : ℕ) (tenant : Tenant) → slice_get tenants t ≡ Some tenant → IsRightTenant tenant

-- the worlds of the tenants, by the tenants' numbers
abbrev pub worlds_of : List Tenant → List World
worlds_of tenants = map world_of tenants

-- the world of the tenant with this number; that of a tenant that isn't there is the one with which each begins
abbrev pub world_at : ℕ → List Tenant → World
world_at number tenants = unwrap_or (slice_get (worlds_of tenants) number) opening_world

-- each tenant has the world with which it begins
abbrev pub HaveOpeningWorlds : List Tenant → Type 0
HaveOpeningWorlds tenants = worlds_of tenants ≡ replicate (length tenants) opening_world

-- no world changes
abbrev pub KeepWorlds : List Tenant → List Tenant → Type 0
KeepWorlds old new = worlds_of new ≡ worlds_of old

-- the jobs of the tenants, by the tenants' numbers
abbrev pub jobs_of : List Tenant → List (Option jobs.TenantJob)
jobs_of tenants = map job_of tenants

-- the job of the tenant with this number
abbrev pub job_at : ℕ → List Tenant → Option jobs.TenantJob
job_at number tenants = job_in number (jobs_of tenants)

-- no tenant has a job
abbrev pub HaveNoJob : List Tenant → Type 0
HaveNoJob tenants = jobs_of tenants ≡ replicate (length tenants) None

-- no job changes
abbrev pub KeepJobs : List Tenant → List Tenant → Type 0
KeepJobs old new = jobs_of new ≡ jobs_of old
