-- The job that begins is one for the request's question, and has had nothing.
use Rattle.std.proofs.Common.{◌∙◌, ap, ap₂, subst, sym}
use Rattle.ports_http.specs.Messages.{RequestMessage}
use Rattle.index_store.specs.PortTable.{stored_by}
use Rattle.index_keep.specs.Keeper.{refresh_of, keeper_rows}
use Rattle.plain_service.specs.Requests.{plain_request}
use Rattle.plain_service.specs.Answers.{answer_to}
use Rattle.plain_service.specs.Questions.{question_of}
use Rattle.plain_service.specs.declared.questions.Question.{Question}
use Rattle.plain_service.specs.declared.questions.Question.TheVariants.{OfPort, OfIndex}
use Rattle.ports_core.specs.Answers.{plain_request_of}
use Rattle.stored_tenants.specs.Kept.{job_of, world_of}
use Rattle.stored_tenants.specs.RowMarks.{LeavesRows, LeavesRowsOf}
use Rattle.stored_tenants.proofs.RowLemmas.{fresh-after}
use Rattle.stored_tenants.proofs.TurnLemmas.{begun-works, new-job, new-question}
use Rattle.stored_tenants.proofs.WorldLemmas.{if_ok}
use Rattle.stored_tenants.proofs.tenant.Tenant.begin.Goals as goal

pub work_on-requires-clause-job : goal.work_on-requires-clause-job
work_on-requires-clause-job c =
    let world = world_of c.args.self.now in
    let refresh = refresh_of stored_by c.args.self.now.keeper in
    new-job world refresh (OfPort c.in-OfPort.asked) c.of_port.result c.new-job.result c.new-job.ensures (c.of_port.ensures world refresh)

pub work_on-requires-in-OfIndex-clause-job : goal.work_on-requires-in-OfIndex-clause-job
work_on-requires-in-OfIndex-clause-job c =
    let world = world_of c.args.self.now in
    let refresh = refresh_of stored_by c.stop.new.self in
    new-job world refresh (OfIndex c.in-OfIndex.asked) c.of_index.result c.new-job-in-OfIndex.result c.new-job-in-OfIndex.ensures
    (c.of_index.ensures world refresh c.stop.ensures.begun)

pub returns-in-OfPort-clause-works : goal.returns-in-OfPort-clause-works
returns-in-OfPort-clause-works c =
    let world = world_of c.args.self.now in
    let refresh = refresh_of stored_by c.args.self.now.keeper in
    let asked = sym c.in-OfPort.is ∙ c.in_ok-prepared.ensures
    ∙ ap₂ (λ target body. question_of (plain_request c.request.inside.method target body)) c.as_str-target.ensures.value
    c.as_slice.ensures.value
    ∙ ap (λ (request : RequestMessage). question_of (plain_request_of request)) c.request.view_is in
    if_ok c.work_on.result
    (λ worked. begun-works world (world_of c.work_on.new.self) refresh (OfPort c.in-OfPort.asked) _ c.of_port.result c.new-job.result
    c.args.incoming.now.close (job_of c.work_on.new.self) worked
    c.new-job.ensures (c.of_port.ensures world refresh) asked)
    c.work_on.ensures.works

pub returns-in-OfIndex-clause-works : goal.returns-in-OfIndex-clause-works
returns-in-OfIndex-clause-works c =
    let world = world_of c.args.self.now in
    let refresh = refresh_of stored_by c.stop.new.self in
    let asked = sym c.in-OfIndex.is ∙ c.in_ok-prepared.ensures
    ∙ ap₂ (λ target body. question_of (plain_request c.request.inside.method target body)) c.as_str-target.ensures.value
    c.as_slice.ensures.value
    ∙ ap (λ (request : RequestMessage). question_of (plain_request_of request)) c.request.view_is in
    if_ok c.work_on-in-OfIndex.result
    (λ worked. begun-works world (world_of c.work_on-in-OfIndex.new.self) refresh (OfIndex c.in-OfIndex.asked) _ c.of_index.result
    c.new-job-in-OfIndex.result c.args.incoming.now.close
    (job_of c.work_on-in-OfIndex.new.self) worked c.new-job-in-OfIndex.ensures (c.of_index.ensures world refresh c.stop.ensures.begun)
    asked)
    c.work_on-in-OfIndex.ensures.works

pub returns-in-OfPort-clause-rows : goal.returns-in-OfPort-clause-rows
returns-in-OfPort-clause-rows c =
    let world = world_of c.args.self.now in
    let refresh = refresh_of stored_by c.args.self.now.keeper in
    let asked = sym c.in-OfPort.is ∙ c.in_ok-prepared.ensures
    ∙ ap₂ (λ target body. question_of (plain_request c.request.inside.method target body)) c.as_str-target.ensures.value
    c.as_slice.ensures.value
    ∙ ap (λ (request : RequestMessage). question_of (plain_request_of request)) c.request.view_is in
    subst (λ (question : Question). LeavesRowsOf question c.args.self.now c.work_on.new.self)
    (new-question world refresh (OfPort c.in-OfPort.asked) c.of_port.result c.new-job.result c.new-job.ensures
    (c.of_port.ensures world refresh) ∙ asked) c.work_on.ensures.rows

pub returns-in-OfIndex-clause-rows : goal.returns-in-OfIndex-clause-rows
returns-in-OfIndex-clause-rows c =
    let world = world_of c.args.self.now in
    let refresh = refresh_of stored_by c.stop.new.self in
    let old = keeper_rows stored_by c.args.self.now.keeper in
    let middle = keeper_rows stored_by c.stop.new.self in
    let new = keeper_rows stored_by c.work_on-in-OfIndex.new.self.keeper in
    let asked = sym c.in-OfIndex.is ∙ c.in_ok-prepared.ensures
    ∙ ap₂ (λ target body. question_of (plain_request c.request.inside.method target body)) c.as_str-target.ensures.value
    c.as_slice.ensures.value
    ∙ ap (λ (request : RequestMessage). question_of (plain_request_of request)) c.request.view_is in
    let fresh =
    subst (λ (question : Question). LeavesRows world (answer_to world question).1 middle new)
    (new-question world refresh (OfIndex c.in-OfIndex.asked) c.of_index.result c.new-job-in-OfIndex.result c.new-job-in-OfIndex.ensures
    (c.of_index.ensures world refresh c.stop.ensures.begun))
    c.work_on-in-OfIndex.ensures.rows in
    subst (λ (question : Question). LeavesRows world (answer_to world question).1 old new) asked
    (fresh-after world old middle new c.stop.ensures.rows fresh)
