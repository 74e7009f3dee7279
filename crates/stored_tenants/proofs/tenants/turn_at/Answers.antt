-- The tenant with this number is the one that changes.
use Rattle.std.proofs.Common.{◌≡◌, ◌∙◌, ap, subst, sym, get_or, Option}
use Rattle.std.specs.Prelude.{option_map, slice_set}
use Rattle.mk_paths.specs.World.{World}
use Rattle.ports_core.specs.Jobs.{TenantJob, IsForRequest}
use Rattle.stored_tenants.specs.Kept.{IsIdle, job_of, job_at, seen_job, world_of, world_at}
use Rattle.std.proofs.lemmas.Option.{slice_get-get_or}
use Rattle.plain_service.specs.Questions.{question_of}
use Rattle.ports_core.specs.Answers.{plain_request_of}
use Rattle.stored_tenants.specs.declared.tenant.Tenant.{Tenant}
use Rattle.stored_tenants.specs.RowMarks.{LeavesRowsOf}
use Rattle.stored_tenants.specs.Turn.{WorksOn}
use Rattle.stored_tenants.proofs.KeptLemmas.{get-set_other, get-set_same, right_at, set_right, some_same}
use Rattle.stored_tenants.proofs.JobLemmas.{job_set, job_there}
use Rattle.stored_tenants.proofs.WorldLemmas.{if_ok, if_err, world_set, world_there}
use Rattle.stored_tenants.proofs.tenants.turn_at.Goals as goal

pub take_turn-requires-clause-right : goal.take_turn-requires-clause-right
take_turn-requires-clause-right c = right_at c.args.tenants.now c.args.number c.index-tenants-number.result
    c.requires.there c.requires.right

pub take_turn-requires-clause-for_request : goal.take_turn-requires-clause-for_request
take_turn-requires-clause-for_request c =
    subst (IsForRequest c.args.incoming.now.request.now) (job_there c.args.tenants.now c.args.number c.index-tenants-number.result
    c.requires.there) c.requires.for_request

pub returns-clause-works : goal.returns-clause-works
returns-clause-works c =
    let tenants = c.args.tenants.now in
    let number = c.args.number in
    let any = c.index-tenants-number.result in
    let old = get_or tenants number any in
    let new = c.take_turn.new.self in
    let incoming = c.args.incoming.now in
    if_ok c.take_turn.result
    (λ worked works.
    subst (λ (w : World). WorksOn w (world_at number (slice_set tenants number new)) incoming (job_at number tenants)
    (job_at number (slice_set tenants number new)) worked) (sym (world_there tenants number any c.requires.there))
    (subst (λ (w : World). WorksOn (world_of old) w incoming (job_at number tenants) (job_at number (slice_set tenants number new)) worked)
    (sym (world_set tenants number new c.requires.there))
    (subst (λ (job : Option TenantJob). WorksOn (world_of old) (world_of new) incoming job (job_at number (slice_set tenants number new))
    worked) (sym (job_there tenants number any c.requires.there))
    (subst (λ (job : Option TenantJob). WorksOn (world_of old) (world_of new) incoming (job_of old) job worked)
    (sym (job_set tenants number new c.requires.there)) works))))
    c.take_turn.ensures.works

pub returns-clause-err : goal.returns-clause-err
returns-clause-err c =
    if_err c.take_turn.result
    (λ (is : IsIdle (world_of (get_or c.args.tenants.now c.args.number c.index-tenants-number.result)) c.take_turn.new.self). world_set
    c.args.tenants.now c.args.number c.take_turn.new.self c.requires.there ∙ is.same
    ∙ sym (world_there c.args.tenants.now c.args.number c.index-tenants-number.result c.requires.there)) c.take_turn.ensures.err

pub returns-clause-dropped : goal.returns-clause-dropped
returns-clause-dropped c =
    if_err c.take_turn.result
    (λ (is : IsIdle (world_of (get_or c.args.tenants.now c.args.number c.index-tenants-number.result)) c.take_turn.new.self).
    job_set c.args.tenants.now c.args.number c.take_turn.new.self c.requires.there
    ∙ ap (option_map seen_job) is.none) c.take_turn.ensures.err

pub returns-clause-rows : goal.returns-clause-rows
returns-clause-rows c = λ before after was becomes.
    let tenants = c.args.tenants.now in
    let number = c.args.number in
    let any = c.index-tenants-number.result in
    let old = get_or tenants number any in
    let new = c.take_turn.new.self in
    let question = question_of (plain_request_of c.args.incoming.now.request.now) in
    let was_old : old ≡ before = some_same (sym (slice_get-get_or tenants number any c.requires.there) ∙ was) in
    let is_new : new ≡ after = some_same (sym (get-set_same tenants number new c.requires.there) ∙ becomes) in
    subst (λ (one : Tenant). LeavesRowsOf question one after) was_old (subst (λ (one : Tenant). LeavesRowsOf question old one) is_new
    c.take_turn.ensures.rows)

pub returns-clause-right : goal.returns-clause-right
returns-clause-right c = set_right c.args.tenants.now c.args.number c.take_turn.new.self c.requires.there c.requires.right
    c.take_turn.ensures.right

pub returns-clause-same : goal.returns-clause-same
returns-clause-same c = λ other apart. get-set_other c.args.tenants.now c.args.number other c.take_turn.new.self apart
