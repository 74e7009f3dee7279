-- The jobs, each for the question of the first request of its tenant's queue.
use Rattle.std.proofs.Common.{◌≡◌, ℕ, zero, suc, List, [], ◌∷◌, ◌++◌, drop, Option, Some, None, refl, sym, ap, subst, ◌∙◌, ⊎_elim}
use Rattle.std.specs.Prelude.{IfSome, IfNone, slice_get, option_map, option_and_then, replicate}
use Rattle.std.proofs.Math.ListN.{set}
use Rattle.std.proofs.lemmas.Bool.{cases_eq}
use Rattle.turn_amounts.specs.declared.spent.Spent.{Spent}
use Rattle.ports_http.specs.Messages.{RequestMessage}
use Rattle.plain_service.specs.declared.questions.Question.{Question}
use Rattle.plain_service.specs.Questions.{question_of}
use Rattle.ports_core.specs.declared.event.Tell.{Tell}
use Rattle.ports_core.specs.declared.event.Told.{Told}
use Rattle.ports_core.specs.declared.queue.QueuedRequest.{QueuedRequest}
use Rattle.ports_core.specs.Answers.{plain_request_of}
use Rattle.ports_core.specs.Jobs.{TenantJob, job_in, first_of, asked_first, IsForRequest, IsForFirst, AreForFirst, job_after, BecomesJob}
use Rattle.ports_core.specs.JobChanges.{job_after_turn}
use Rattle.ports_core.specs.Slices.{Queue}
use Rattle.ports_core.specs.Intake.{Taken, Joins, entering}
use Rattle.ports_core.specs.Tell.{spent_as_told}
use Rattle.ports_core.proofs.Lists.{none_some, some_same, option_from, slice_get-set_other}

-- where there is no first request, nothing waits
pub none_waits : (queue : Queue) → None ≡ first_of queue → queue ≡ []
none_waits [] is = refl
none_waits (one ∷ rest) is = absurd (none_some is)

-- what comes after the first request
pub first_rest : (queue : Queue) (first : QueuedRequest) → Some first ≡ first_of queue → queue ≡ first ∷ drop 1 queue
first_rest [] first is = absurd (none_some (sym is))
first_rest (one ∷ rest) first is = ap (λ (w : QueuedRequest). w ∷ rest) (sym (some_same is))

-- the first request is the one that is taken out
pub taken_out : (queue after : Queue) (first : QueuedRequest) (result : Option QueuedRequest) → Some first ≡ first_of queue
    → IfSome result (λ w. queue ≡ w ∷ after) → IfNone result (queue ≡ []) → queue ≡ first ∷ after
taken_out queue after first None is some none = absurd (none_some (sym (is ∙ ap first_of none)))
taken_out queue after first (Some one) is some none =
    let same : first ≡ one = some_same (is ∙ ap first_of some) in
    some ∙ ap (λ (w : QueuedRequest). w ∷ after) (sym same)

-- where nothing waits, nothing is under way
pub none_under_way : (queue : Queue) (job : Option TenantJob) → queue ≡ [] → IsForFirst queue job → job ≡ None
none_under_way queue None empty for_first = refl
none_under_way queue (Some job) empty for_first = absurd (none_some (sym (ap asked_first empty) ∙ for_first job refl))

-- a job for the question of the first request is for this one's
pub for_request : (queue : Queue) (first : QueuedRequest) (job : Option TenantJob) → Some first ≡ first_of queue → IsForFirst queue job
    → IsForRequest first.request job
for_request queue first job is for_first = λ one here.
    sym (some_same (ap (option_map (λ (w : QueuedRequest). question_of (plain_request_of w.request))) is ∙ for_first one here))

-- the first request stays the first, whatever comes after it
first-joined : (queue more : Queue) (asked : Question) → asked_first queue ≡ Some asked → asked_first (queue ++ more) ≡ Some asked
first-joined [] more asked is = absurd (none_some is)
first-joined (one ∷ rest) more asked is = is

pub joined_first : (keys : List (List ℕ)) (c : ℕ) (taken : Taken) (queues queues_after : List Queue) (jobs : List (Option TenantJob))
    → Joins keys c taken queues queues_after → AreForFirst queues jobs → AreForFirst queues_after jobs
joined_first keys c taken queues queues_after jobs joins are = λ t queue was job is.
    let from = option_from (λ (q : Queue). q ++ entering keys c taken t) (slice_get queues t) queue (sym (joins t) ∙ was) in
    subst (λ (q : Queue). asked_first q ≡ Some job.question) from.2 (first-joined from.0 (entering keys c taken t) job.question
    (are t from.0 from.1 job is))

-- what work leaves of the job, without a reply and with one
pub pending_job : {A : Type 0} (t : ℕ) (request : RequestMessage) (reply : Option A) (spent : Spent) (job : Option TenantJob)
    (jobs jobs_after : List (Option TenantJob)) → reply ≡ None
    → BecomesJob t (job_after request reply spent job) jobs jobs_after
    → BecomesJob t (job_after {A = Tell} request None spent job) jobs jobs_after
pending_job t request None spent job jobs jobs_after none becomes = becomes
pending_job t request (Some answer) spent job jobs jobs_after none becomes = absurd (none_some (sym none))

pub answered_job : {A : Type 0} (t : ℕ) (request : RequestMessage) (reply : Option A) (answer : A) (spent : Spent) (job : Option TenantJob)
    (jobs jobs_after : List (Option TenantJob)) → reply ≡ Some answer
    → BecomesJob t (job_after request reply spent job) jobs jobs_after → BecomesJob t None jobs jobs_after
answered_job t request None answer spent job jobs jobs_after some becomes = absurd (none_some some)
answered_job t request (Some one) answer spent job jobs jobs_after some becomes = becomes

-- a turn in which nothing is told
pub pending_first : (t : ℕ) (queues queues_after : List Queue) (queue : Queue) (first : QueuedRequest) (spent : Spent)
    (before : Option TenantJob) (jobs jobs_after : List (Option TenantJob))
    → slice_get queues t ≡ Some queue → ((u : ℕ) → slice_get queues_after u ≡ slice_get queues u) → Some first ≡ first_of queue
    → BecomesJob t (job_after {A = Tell} first.request None spent before) jobs jobs_after → AreForFirst queues jobs
    → AreForFirst queues_after jobs_after
pending_first t queues queues_after queue first spent before jobs jobs_after was same first_is becomes are = λ u q there job is.
    ⊎_elim
    (λ here.
    let mine : queue ≡ q = some_same (sym was ∙ ap (slice_get queues) (sym here) ∙ sym (same u) ∙ there) in
    let this : job.question ≡ question_of (plain_request_of first.request) = ap (λ (j : TenantJob). j.question)
    (some_same (sym is ∙ ap (λ n. job_in n jobs_after) here ∙ becomes.job_is)) in
    ap asked_first (sym mine) ∙ sym (ap (option_map (λ (w : QueuedRequest). question_of (plain_request_of w.request))) first_is)
    ∙ ap Some (sym this))
    (λ ne. are u q (sym (same u) ∙ there) job (sym (becomes.others u ne) ∙ is))
    (cases_eq u t)

-- a turn in which a reply is told
pub answered_first : (t : ℕ) (queues : List Queue) (after : Queue) (jobs jobs_after : List (Option TenantJob))
    → BecomesJob t None jobs jobs_after → AreForFirst queues jobs → AreForFirst (set queues t after) jobs_after
answered_first t queues after jobs jobs_after becomes are = λ u q there job is.
    ⊎_elim
    (λ here. absurd (none_some (sym becomes.job_is ∙ ap (λ n. job_in n jobs_after) (sym here) ∙ is)))
    (λ ne. are u q (sym (slice_get-set_other queues t u after ne) ∙ there) job (sym (becomes.others u ne) ∙ is))
    (cases_eq u t)

-- no tenant has a job yet
pub begun_first : (queues : List Queue) (n : ℕ) (jobs : List (Option TenantJob)) → jobs ≡ replicate n None → AreForFirst queues jobs
begun_first queues n jobs are = λ t queue was job is. absurd (none_some (sym (none_in n t) ∙ ap (job_in t) (sym are) ∙ is))
  where
    none_in : (n t : ℕ) → job_in t (replicate n None) ≡ None
    none_in zero t = refl
    none_in (suc n) zero = refl
    none_in (suc n) (suc t) = none_in n t

-- where nothing waits, there is no job after a turn either
pub idle_job : (t : ℕ) (told : Told) (queues : List Queue) (queue : Queue) (jobs : List (Option TenantJob))
    → slice_get queues t ≡ Some queue → queue ≡ [] → AreForFirst queues jobs
    → BecomesJob t (job_after_turn (option_and_then first_of (slice_get queues t)) told (job_in t jobs)) jobs jobs
idle_job t told queues queue jobs was empty are =
    let none : option_and_then first_of (slice_get queues t) ≡ None = ap (option_and_then first_of) (was ∙ ap Some empty) in
    record {
      job_is = none_under_way queue (job_in t jobs) empty (are t queue was) ∙ sym (ap (λ f. job_after_turn f told (job_in t jobs)) none);
      others = λ u ne. refl;
    }

-- what work leaves of the job for the first request is what the turn does
pub turn_job : (t : ℕ) (told : Told) (queues : List Queue) (queue : Queue) (first : QueuedRequest) (reply : Option Tell) (spent : Spent)
    (jobs jobs_after : List (Option TenantJob))
    → slice_get queues t ≡ Some queue → Some first ≡ first_of queue → told.reply ≡ reply → spent_as_told told ≡ spent
    → BecomesJob t (job_after first.request reply spent (job_in t jobs)) jobs jobs_after
    → BecomesJob t (job_after_turn (option_and_then first_of (slice_get queues t)) told (job_in t jobs)) jobs jobs_after
turn_job t told queues queue first reply spent jobs jobs_after was first_is reply_is spent_is becomes =
    let waits : option_and_then first_of (slice_get queues t) ≡ Some first = ap (option_and_then first_of) was ∙ sym first_is in
    record {
      job_is = becomes.job_is
          ∙ ap (λ r. job_after first.request r spent (job_in t jobs)) (sym reply_is)
          ∙ ap (λ s. job_after first.request told.reply s (job_in t jobs)) (sym spent_is)
          ∙ ap (λ f. job_after_turn f told (job_in t jobs)) (sym waits);
      others = becomes.others;
    }
