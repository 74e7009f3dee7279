-- What an event does to the tenants' jobs.
use Rattle.std.specs.Prelude.{◌≡◌, ℕ, Option, Some, None, option_and_then}
use Rattle.ports_core.specs.declared.event.Event.{Event}
use Rattle.ports_core.specs.declared.event.Event.TheVariants.{Open, Piece, End, Fault, Wrote, Turn}
use Rattle.ports_core.specs.declared.event.Told.{Told}
use Rattle.ports_core.specs.declared.queue.QueuedRequest.{QueuedRequest}
use Rattle.ports_core.specs.Jobs.{TenantJob, first_of, job_after, BecomesJob}
use Rattle.ports_core.specs.Tell.{spent_as_told}
use Rattle.ports_core.specs.State.{State, queue_at, jobs_of, job_at}

-- no job changes
abbrev pub KeepsJobs : State → State → Type 0
KeepsJobs old new = (t : ℕ) → job_at t new ≡ job_at t old

-- The job of a tenant after its turn, if this request waited longest. If none waits, there is no job.
abbrev pub job_after_turn : Option QueuedRequest → Told → Option TenantJob → Option TenantJob
job_after_turn None told job = None
job_after_turn (Some first) told job = job_after first.request told.reply (spent_as_told told) job

-- a turn changes the job of its tenant, and no other
abbrev pub TurnsJob : ℕ → Told → State → State → Type 0
TurnsJob t told old new =
    BecomesJob t (job_after_turn (option_and_then first_of (queue_at t old)) told (job_at t old)) (jobs_of old) (jobs_of new)

-- What an event does to the jobs: only a turn changes one, which is its tenant's. After a turn that tells a reply the
-- tenant has none. After one that tells none, it is for the question of the request that waits first.
abbrev pub ChangesJobs : Event → Told → State → State → Type 0
ChangesJobs (Turn t) told old new = TurnsJob t told old new
ChangesJobs (Open c) told old new = KeepsJobs old new
ChangesJobs (Piece c bytes) told old new = KeepsJobs old new
ChangesJobs (End c) told old new = KeepsJobs old new
ChangesJobs (Fault c) told old new = KeepsJobs old new
ChangesJobs (Wrote c count) told old new = KeepsJobs old new
