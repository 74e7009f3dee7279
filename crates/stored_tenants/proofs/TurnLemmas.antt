-- What a turn of a tenant's request leaves.
use Rattle.std.proofs.Common.{◌≡◌, ◌≤◌, ◌<◌, ◌+◌, ◌*◌, ◌-◌, ◌∙◌, ap, subst, sym, arith, ℕ, length, Option}
use Rattle.std.specs.Prelude.{◌/◌, Bool}
use Rattle.turn_amounts.specs.declared.TheConstants.{MOST_CHECKS, TURN_UNITS}
use Rattle.mk_paths.specs.World.{World}
use Rattle.turn_amounts.specs.declared.spent.Spent.{Spent}
use Rattle.plain_service.specs.AnswerCosts.{cost_for, rests_for, turns_for}
use Rattle.plain_service.specs.declared.questions.Question.{Question}
use Rattle.ports_core.specs.Jobs as jobs
use Rattle.ports_core.specs.Jobs.{no_job}
use Rattle.ports_core.specs.declared.job.Job.{Job}
use Rattle.ports_core.specs.declared.tenants.Worked.{Worked}
use Rattle.index_keep.specs.Turns.{RefreshView}
use Rattle.question_turns.specs.UnderWay.{question_in}
use Rattle.question_turns.specs.TurnsLeft.{IsBeforeFirstTurn, open_turns, turns_left}
use Rattle.question_turns.specs.declared.under_way.UnderWay.{UnderWay}
use Rattle.stored_tenants.specs.declared.tenant.TenantJob.{TenantJob}
use Rattle.stored_tenants.specs.Kept.{IsJobOver, seen_job}
use Rattle.stored_tenants.specs.Turn.{WorksFor}

most_first : (left evaluations cost : ℕ) → left ≤ open_turns evaluations cost 0
    → 0 + left < 1 + evaluations + (cost + MOST_CHECKS * evaluations) / TURN_UNITS
most_first left evaluations cost few = omega (arith, few)

-- a question before its first turn
pub new-job : (world : World) (refresh : RefreshView) (question : Question) (under_way : UnderWay) (job : TenantJob)
    → job ≡ record { turns = 0; under_way = under_way }
    → IsBeforeFirstTurn world refresh question under_way → IsJobOver world refresh job
new-job world refresh question under_way job is begins =
    let first : IsJobOver world refresh (record { turns = 0; under_way = under_way }) = record {
      pending = begins.pending;
      in_time = subst (λ (q : Question). 0 + turns_left world refresh under_way < turns_for world q) (sym begins.asked)
          (most_first (turns_left world refresh under_way) (length (rests_for world question)) (cost_for world question) begins.turns);
    } in
    subst (IsJobOver world refresh) (sym is) first

-- it has had nothing
new-had : (world : World) (refresh : RefreshView) (question : Question) (under_way : UnderWay) (job : TenantJob)
    → job ≡ record { turns = 0; under_way = under_way }
    → IsBeforeFirstTurn world refresh question under_way → (seen_job job).had ≡ no_job
new-had world refresh question under_way job is begins =
    ap (λ (j : TenantJob). (seen_job j).had) is
    ∙ ap (λ (s : Spent). let had : Job = record { turns = 0; units = s.units; checks = s.checks } in had) begins.nothing

-- and it is for the question
pub new-question : (world : World) (refresh : RefreshView) (question : Question) (under_way : UnderWay) (job : TenantJob)
    → job ≡ record { turns = 0; under_way = under_way }
    → IsBeforeFirstTurn world refresh question under_way → question_in job.under_way ≡ question
new-question world refresh question under_way job is begins = ap (λ (j : TenantJob). question_in j.under_way) is ∙ begins.asked

-- so a turn for it is one for the question, before which nothing was had
pub begun-works : (world new : World) (refresh : RefreshView) (asked question : Question) (under_way : UnderWay) (job : TenantJob)
    (close : Bool) (after : Option jobs.TenantJob) (worked : Worked)
    → job ≡ record { turns = 0; under_way = under_way } → IsBeforeFirstTurn world refresh asked under_way → asked ≡ question
    → WorksFor world new (question_in job.under_way) close (seen_job job).had after worked
    → WorksFor world new question close no_job after worked
begun-works world new refresh asked question under_way job close after worked is begins same works =
    subst (λ (q : Question). WorksFor world new q close no_job after worked)
    (new-question world refresh asked under_way job is begins ∙ same)
    (subst (λ (had : Job). WorksFor world new (question_in job.under_way) close had after worked)
    (new-had world refresh asked under_way job is begins) works)
