-- The worlds and the jobs of the tenants as each begins, and after a turn of work for a tenant's request.
use Rattle.std.specs.Prelude.{◌≡◌, ℕ, List, None, Option, length, replicate, Result, IfOk, IfNone, IfSome}
use Rattle.mk_paths.specs.World.{World, opening_world}
use Rattle.ports_http.specs.Messages.{RequestMessage}
use Rattle.ports_core.specs.Answers.{AnswersFor}
use Rattle.ports_core.specs.Charges.{ChargesFor, LeavesUnanswered}
use Rattle.ports_core.specs.Jobs.{BecomesJob, TenantJob, had_by, job_after, job_in, spent_on}
use Rattle.ports_core.specs.declared.keys.Config.{Config}
use Rattle.ports_core.specs.declared.tenants.Worked.{Worked}

-- where a function succeeds, each tenant whose key a config has has the world with which it begins
abbrev pub BeginsWorlds : {W E : Type 0} → (W → List World) → Result W E → Config → Type 0
BeginsWorlds worlds result config = IfOk result (λ kept. worlds kept ≡ replicate (length config.keys.items) opening_world)

-- where a function succeeds, no tenant whose key a config has has a job
abbrev pub BeginsJobs : {W E : Type 0} → (W → List (Option TenantJob)) → Result W E → Config → Type 0
BeginsJobs jobs result config = IfOk result (λ kept. jobs kept ≡ replicate (length config.keys.items) None)

-- if a turn gives an answer, it is that of a request of this tenant over its world, and no other world changes
abbrev pub RepliesFor : ℕ → RequestMessage → Worked → (old new : List World) → Type 0
RepliesFor t request worked old new = IfSome worked.reply (λ answer. AnswersFor t request answer.reply old new)

-- if a turn gives an answer, it tells what is spent on a request of this tenant, with what was spent before
abbrev pub TurnCharges : ℕ → RequestMessage → Worked → List (Option TenantJob) → List World → Type 0
TurnCharges t request worked jobs worlds =
    IfSome worked.reply (λ answer. ChargesFor t request answer.reply (spent_on (job_in t jobs)) worked.spent worlds)

-- if a turn gives no answer, no world changes, and the request of this tenant has had no more than it may
abbrev pub TurnGoesOn : ℕ → RequestMessage → Worked → List (Option TenantJob) → (old new : List World) → Type 0
TurnGoesOn t request worked jobs old new =
    IfNone worked.reply (LeavesUnanswered t request (had_by (job_in t jobs)) worked.spent old new)

-- the same by what has the worlds and the jobs
abbrev pub WorkGoesOn : {W : Type 0} → (W → List World) → (W → List (Option TenantJob)) → ℕ → RequestMessage → Worked
    → (old new : W) → Type 0
WorkGoesOn worlds jobs t request worked old new =
    IfNone worked.reply (LeavesUnanswered t request (had_by (job_in t (jobs old))) worked.spent (worlds old) (worlds new))

-- the job of this tenant is that of its request after a turn, and no other job changes
abbrev pub TurnLeavesJob : ℕ → RequestMessage → Worked → (old new : List (Option TenantJob)) → Type 0
TurnLeavesJob t request worked old new =
    BecomesJob t (job_after request worked.reply worked.spent (job_in t old)) old new
