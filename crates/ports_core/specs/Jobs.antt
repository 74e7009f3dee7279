-- What is under way for a tenant: the question of a request on which a turn or more was spent, and that isn't answered
-- yet.
use Rattle.std.specs.Prelude.{◌≡◌, ◌≢◌, ℕ, ◌+◌, List, slice_get, Option, Some, None, option_map, unwrap_or}
use Rattle.std.specs.Option.{ForSome}
use Rattle.turn_amounts.specs.declared.spent.Spent.{Spent}
use Rattle.turn_amounts.specs.Spent.{counted}
use Rattle.ports_http.specs.Messages.{RequestMessage}
use Rattle.plain_service.specs.declared.questions.Question.{Question}
use Rattle.plain_service.specs.Questions.{question_of}
use Rattle.ports_core.specs.declared.job.Job.{Job}
use Rattle.ports_core.specs.declared.queue.QueuedRequest.{QueuedRequest}
use Rattle.ports_core.specs.Answers.{plain_request_of}
use Rattle.ports_core.specs.Slices.{Queue}

-- A tenant's job: the question that its first request asks, and what this request has had so far. A Job is three
-- counts: of turns, and of the units and the checks that these told.
pub record TenantJob : Type 0 where
  pub question : Question
  pub had : Job

-- a request that has had no turn yet
abbrev pub no_job : Job
no_job = record { turns = 0; units = 0; checks = 0 }

-- what the request of a job has had so far: nothing, if there is no job
abbrev pub had_by : Option TenantJob → Job
had_by None = no_job
had_by (Some job) = job.had

-- what was spent on it so far, in units and checks
abbrev pub spent_on : Option TenantJob → Spent
spent_on job = record { units = (had_by job).units; checks = (had_by job).checks }

-- this, and one turn more that told so much; each count goes no higher than its greatest number
abbrev pub one_turn_more : Job → Spent → Job
one_turn_more had spent = record {
  turns = counted (had.turns + 1);
  units = counted (had.units + spent.units);
  checks = counted (had.checks + spent.checks);
}

-- the job of a tenant, if there is one
abbrev pub job_in : ℕ → List (Option TenantJob) → Option TenantJob
job_in t jobs = unwrap_or (slice_get jobs t) None

-- A job, if there is one, is for the question of this request. A request behind it may ask the same: but only the first
-- request of a queue has a job, and the job ends with its reply.
abbrev pub IsForRequest : RequestMessage → Option TenantJob → Type 0
IsForRequest request job = ForSome job (λ (under_way : TenantJob). under_way.question ≡ question_of (plain_request_of request))

-- the request that waited longest, if one waits
abbrev pub first_of : Queue → Option QueuedRequest
first_of queue = slice_get queue 0

-- the question of the request that waited longest
abbrev pub asked_first : Queue → Option Question
asked_first queue = option_map (λ (first : QueuedRequest). question_of (plain_request_of first.request)) (first_of queue)

-- a job, if there is one, is for the question of the first request of this queue; so with an empty queue there is none
abbrev pub IsForFirst : Queue → Option TenantJob → Type 0
IsForFirst queue job = ForSome job (λ (under_way : TenantJob). asked_first queue ≡ Some under_way.question)

-- each tenant's job is for the question of the first request of its queue
abbrev pub AreForFirst : List Queue → List (Option TenantJob) → Type 0
AreForFirst queues jobs = (t : ℕ) (queue : Queue) → slice_get queues t ≡ Some queue → IsForFirst queue (job_in t jobs)

-- The job for a request after a turn in which so much was spent. With a reply there is none. Without one it is for
-- the question of this request, and had this turn too.
abbrev pub job_after : {A : Type 0} → RequestMessage → Option A → Spent → Option TenantJob → Option TenantJob
job_after request None spent job =
    Some (record { question = question_of (plain_request_of request); had = one_turn_more (had_by job) spent })
job_after request (Some reply) spent job = None

-- the job of a tenant becomes this one, or none, and no other job changes
pub record BecomesJob (t : ℕ) (job : Option TenantJob) (old new : List (Option TenantJob)) : Type 0 where
  pub job_is : job_in t new ≡ job
  pub others : (u : ℕ) → u ≢ t → job_in u new ≡ job_in u old
