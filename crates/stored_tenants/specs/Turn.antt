-- What a turn of a tenant's request gives.
use Rattle.std.specs.Prelude.{◌≡◌, ◌<◌, ◌≤◌, ℕ, Bool, List, length, MatchOption, IfNone, IfSome, Option, Some, None, Result, IfOk}
use Rattle.mk_paths.specs.World.{World}
use Rattle.ports_http.specs.Messages.{RequestMessage}
use Rattle.turn_amounts.specs.Spent.{spent_together}
use Rattle.port_index.specs.Spent.{ChecksFew}
use Rattle.turn_amounts.specs.declared.spent.Spent.{Spent}
use Rattle.plain_service.specs.Change.{settle_change}
use Rattle.plain_service.specs.Plain.{served}
use Rattle.plain_service.specs.Questions.{question_of}
use Rattle.plain_service.specs.AnswerCosts.{cost_for, rests_for, turns_for}
use Rattle.plain_service.specs.Spent.{SpendsFor}
use Rattle.plain_service.specs.declared.change.Prepared.{Prepared}
use Rattle.plain_service.specs.declared.questions.Question.{Question}
use Rattle.ports_core.specs.Answers.{plain_answer, plain_request_of, AreBytesOf}
use Rattle.ports_core.specs.Charges.{SpendsOnRequest, MayHaveHad, FitsTurn}
use Rattle.ports_core.specs.Jobs.{TenantJob, job_after, had_by, no_job, one_turn_more, spent_on}
use Rattle.ports_core.specs.declared.job.Job.{Job}
use Rattle.ports_core.specs.declared.tenants.Answer.{Answer}
use Rattle.ports_core.specs.declared.tenants.Worked.{Worked}
use Rattle.index_store.specs.PortTable.{stored_by}
use Rattle.index_keep.specs.Keeper.{refresh_of}
use Rattle.question_turns.specs.UnderWay.{IsUnderWayOver, question_in}
use Rattle.question_turns.specs.TurnsLeft.{TurnsOn}
use Rattle.question_turns.specs.declared.under_way.Turned.{Turned}
use Rattle.question_turns.specs.declared.under_way.UnderWay.{UnderWay}
use Rattle.stored_tenants.specs.Kept.{job_at, job_of, seen_job, world_at, world_of}
use Rattle.stored_tenants.specs.declared.tenant.Tenant.{Tenant}
use Rattle.stored_tenants.specs.declared.tenant.TenantJob as jobs
use Rattle.stored_tenants.specs.declared.tenant_turns.Incoming.{Incoming}

-- what a question over a world may have had while it isn't answered
pub record MayHaveTaken (world : World) (question : Question) (had : Job) : Type 0 where
  pub turns : had.turns < turns_for world question
  pub units : had.units ≤ cost_for world question
  pub checks : ChecksFew (length (rests_for world question)) had.checks

-- With a reply there is no job. Without one it is for this question, and had this turn too.
abbrev pub job_for : Question → Option Answer → Spent → Job → Option TenantJob
job_for question None spent had = Some (record { question = question; had = one_turn_more had spent })
job_for question (Some reply) spent had = None

-- A turn for a question over a world, which had this before, and after which these are the world and the job. A turn
-- without a reply leaves the world.
pub record WorksFor (old new : World) (question : Question) (close : Bool) (had : Job) (after : Option TenantJob)
    (worked : Worked) : Type 0 where
  pub answers : IfSome worked.reply (λ answer. served old question ≡ (answer.reply, new))
  pub silent : IfNone worked.reply (new ≡ old)
  pub charges : MatchOption worked.reply (MayHaveTaken old question (one_turn_more had worked.spent))
      (λ answer. SpendsFor old question
      (spent_together (record { units = had.units; checks = had.checks }) worked.spent))
  pub short : FitsTurn worked.spent
  pub bytes : IfSome worked.reply (λ answer. AreBytesOf answer.reply close answer.bytes)
  pub job_is : after ≡ job_for question worked.reply worked.spent had

-- an answer is the plain one over the old world, after which the world is the new one
abbrev pub AnswersOver : World → World → RequestMessage → Option Answer → Type 0
AnswersOver old new request reply = IfSome reply (λ answer. plain_answer old request ≡ (answer.reply, new))

-- What a request over a world has had in all, with a job before: with an answer all is spent that is spent on it, and
-- without one it had no more than it may.
abbrev pub ChargesOver : World → RequestMessage → Option TenantJob → Option Answer → Spent → Type 0
ChargesOver world request job reply spent =
    MatchOption reply (MayHaveHad world request (one_turn_more (had_by job) spent))
    (λ answer. SpendsOnRequest world request (spent_together (spent_on job) spent))

-- A turn of a request, over a world and with a job, after which these are the world and the job.
pub record WorksOn (old new : World) (incoming : Incoming) (job after : Option TenantJob) (worked : Worked) : Type 0 where
  pub answers : AnswersOver old new incoming.request.now worked.reply
  pub silent : IfNone worked.reply (new ≡ old)
  pub charges : ChargesOver old incoming.request.now job worked.reply worked.spent
  pub short : FitsTurn worked.spent
  pub bytes : IfSome worked.reply (λ answer. AreBytesOf answer.reply incoming.close answer.bytes)
  pub job_is : after ≡ job_after incoming.request.now worked.reply worked.spent job

-- where a function succeeds, it took a turn of a request of a tenant, which is so before and after it
abbrev pub TurnsTenant : {E : Type 0} → Result Worked E → Incoming → (old new : Tenant) → Type 0
TurnsTenant result incoming old new =
    IfOk result (WorksOn (world_of old) (world_of new) incoming (job_of old) (job_of new))

-- the same of the tenant with this number
abbrev pub TurnsTenantAt : {E : Type 0} → Result Worked E → ℕ → Incoming → (old new : List Tenant) → Type 0
TurnsTenantAt result number incoming old new =
    IfOk result (WorksOn (world_at number old) (world_at number new) incoming (job_at number old) (job_at number new))

-- where a function succeeds, it took the first turn of a request of a tenant
abbrev pub TurnsFirst : {E : Type 0} → Result Worked E → Incoming → (old new : Tenant) → Type 0
TurnsFirst result incoming old new =
    IfOk result (WorksFor (world_of old) (world_of new)
    (question_of (plain_request_of incoming.request.now)) incoming.close no_job (job_of new))

-- where a function succeeds, it took a turn for a job, after which the connection closes or doesn't
abbrev pub TurnsJobOf : {E : Type 0} → Result Worked E → jobs.TenantJob → Bool → (old new : Tenant) → Type 0
TurnsJobOf result job close old new =
    IfOk result (WorksFor (world_of old) (world_of new) (question_in job.under_way) close (seen_job job).had (job_of new))

-- this is under way over the world of a tenant, by its keeper
abbrev pub IsPendingFor : UnderWay → Tenant → Type 0
IsPendingFor under_way tenant = IsUnderWayOver (world_of tenant) (refresh_of stored_by tenant.keeper) under_way

-- where a function succeeds, it took a turn for what is under way over the world of a tenant
abbrev pub TurnsOver : {E : Type 0} → Result Turned E → UnderWay → (old new : Tenant) → Type 0
TurnsOver result under_way old new =
    IfOk result (TurnsOn (world_of old) (refresh_of stored_by old.keeper) (refresh_of stored_by new.keeper) under_way)

-- where a function succeeds, its answer has the reply, and the tenant the world, after the change that was prepared
abbrev pub SettlesChange : {E : Type 0} → Result Answer E → Prepared → (old new : Tenant) → Type 0
SettlesChange result prepared old new =
    IfOk result (λ answer. settle_change (world_of old) prepared.reply prepared.change ≡ (answer.reply, world_of new))
