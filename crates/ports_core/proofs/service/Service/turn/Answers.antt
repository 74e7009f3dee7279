use Rattle.std.proofs.Common.{◌≢◌, ◌<◌, ◌∙◌, ℕ, None, ap, sym, length, arith, refl, inl, inr}
use Rattle.std.proofs.Math.ListN.{length-set}
use Rattle.std.proofs.lemmas.Option.{slice_get_read}
use Rattle.std.specs.Option.{option_copied}
use Rattle.std.specs.Prelude.{option_and_then}
use Rattle.ports_core.specs.Keys.{key_texts}
use Rattle.ports_core.specs.Connections.{kept}
use Rattle.ports_core.specs.Jobs.{job_in}
use Rattle.ports_core.proofs.ChargeLemmas.{turn_spends, idle_spends, pending_spends, short_told, short_none}
use Rattle.ports_core.proofs.JobLemmas.{none_waits, first_rest, taken_out, for_request, idle_job, turn_job, pending_job, answered_job}
use Rattle.ports_core.proofs.JobLemmas.{pending_first, answered_first}
use Rattle.ports_core.proofs.Lists.{on_none, on_some}
use Rattle.ports_core.proofs.PlaceLemmas.{answered_fresh, answered_seats, same_seats}
use Rattle.ports_core.proofs.StepLemmas.{idle, pending_in_turn, answered_in_turn, within_keys, slice_get-set_kept}
use Rattle.ports_core.proofs.service.Service.turn.Goals as goal

-- nothing waits
pub returns-in_default-clause-turns : goal.returns-in_default-clause-turns
returns-in_default-clause-turns g c =
    let within : c.args.tenant < length c.self.inside.queues.items = within_keys c.args.tenant c.args.self.now c.self.inside.keys.items
    (g.K.Tenants.worlds c.self.inside.worlds) c.self.inside.queues.items c.self.inside.connections.entries c.self.inside.next
    (g.K.Tenants.jobs c.self.inside.worlds) (g.K.Tenants.sharing c.self.inside.worlds) c.self.inside.queues.items c.self.view_is
    c.self.invariant.queues c.requires in
    let was = slice_get_read c.self.inside.queues.items (length c.self.inside.queues.items) c.args.tenant c.index_mut-queue.result.now refl
    within c.index_mut-queue.ensures.value in
    let empty = none_waits c.index_mut-queue.result.now (sym (ap option_copied c.in_default.is) ∙ c.first.ensures) in
    rw (← c.self.view_is)
    (inl (idle (key_texts c.self.inside.keys.items) c.self.inside.next (g.K.Tenants.jobs c.self.inside.worlds)
    (g.K.Tenants.sharing c.self.inside.worlds) c.args.tenant c.nothing.result (g.K.Tenants.worlds c.self.inside.worlds)
    c.self.inside.queues.items c.index_mut-queue.result.now c.index_mut-queue.result.now c.self.inside.connections.entries
    was empty refl c.nothing.ensures.reply c.nothing.ensures.refused c.nothing.ensures.closed))

pub returns-in_default-clause-spends : goal.returns-in_default-clause-spends
returns-in_default-clause-spends g c =
    let within : c.args.tenant < length c.self.inside.queues.items = within_keys c.args.tenant c.args.self.now c.self.inside.keys.items
    (g.K.Tenants.worlds c.self.inside.worlds) c.self.inside.queues.items c.self.inside.connections.entries c.self.inside.next
    (g.K.Tenants.jobs c.self.inside.worlds) (g.K.Tenants.sharing c.self.inside.worlds) c.self.inside.queues.items c.self.view_is
    c.self.invariant.queues c.requires in
    let was = slice_get_read c.self.inside.queues.items (length c.self.inside.queues.items) c.args.tenant c.index_mut-queue.result.now refl
    within c.index_mut-queue.ensures.value in
    let empty = none_waits c.index_mut-queue.result.now (sym (ap option_copied c.in_default.is) ∙ c.first.ensures) in
    rw (← c.self.view_is) (idle_spends c.args.tenant c.nothing.result (g.K.Tenants.worlds c.self.inside.worlds) c.self.inside.queues.items
    (job_in c.args.tenant (g.K.Tenants.jobs c.self.inside.worlds)) c.index_mut-queue.result.now was empty c.nothing.ensures.counts)

pub returns-in_default-clause-jobs : goal.returns-in_default-clause-jobs
returns-in_default-clause-jobs g c =
    let within : c.args.tenant < length c.self.inside.queues.items = within_keys c.args.tenant c.args.self.now c.self.inside.keys.items
    (g.K.Tenants.worlds c.self.inside.worlds) c.self.inside.queues.items c.self.inside.connections.entries c.self.inside.next
    (g.K.Tenants.jobs c.self.inside.worlds) (g.K.Tenants.sharing c.self.inside.worlds) c.self.inside.queues.items c.self.view_is
    c.self.invariant.queues c.requires in
    let was = slice_get_read c.self.inside.queues.items (length c.self.inside.queues.items) c.args.tenant c.index_mut-queue.result.now refl
    within c.index_mut-queue.ensures.value in
    let empty = none_waits c.index_mut-queue.result.now (sym (ap option_copied c.in_default.is) ∙ c.first.ensures) in
    rw (← c.self.view_is) (idle_job c.args.tenant c.nothing.result c.self.inside.queues.items c.index_mut-queue.result.now
    (g.K.Tenants.jobs c.self.inside.worlds) was empty c.self.invariant.first)

-- a tenant with a key has a world
pub work-reply-requires-clause-there : goal.work-reply-requires-clause-there
work-reply-requires-clause-there g c = within_keys c.args.tenant c.args.self.now c.self.inside.keys.items
    (g.K.Tenants.worlds c.self.inside.worlds) c.self.inside.queues.items c.self.inside.connections.entries c.self.inside.next
    (g.K.Tenants.jobs c.self.inside.worlds) (g.K.Tenants.sharing c.self.inside.worlds) (g.K.Tenants.worlds c.self.inside.worlds)
    c.self.view_is c.self.invariant.worlds c.requires

-- what is under way is for the first request
pub work-reply-requires-clause-for_request : goal.work-reply-requires-clause-for_request
work-reply-requires-clause-for_request g c =
    let within : c.args.tenant < length c.self.inside.queues.items = within_keys c.args.tenant c.args.self.now c.self.inside.keys.items
    (g.K.Tenants.worlds c.self.inside.worlds) c.self.inside.queues.items c.self.inside.connections.entries c.self.inside.next
    (g.K.Tenants.jobs c.self.inside.worlds) (g.K.Tenants.sharing c.self.inside.worlds) c.self.inside.queues.items c.self.view_is
    c.self.invariant.queues c.requires in
    let was = slice_get_read c.self.inside.queues.items (length c.self.inside.queues.items) c.args.tenant c.index_mut-queue.result.now refl
    within c.index_mut-queue.ensures.value in
    let first = sym (ap option_copied c.in-Some.is) ∙ c.first.ensures in
    for_request c.index_mut-queue.result.now c.in-Some.first.now (job_in c.args.tenant (g.K.Tenants.jobs c.self.inside.worlds)) first
    (c.self.invariant.first c.args.tenant c.index_mut-queue.result.now was)

-- the first request isn't answered yet
pub invariant_of-self-in_default-reply : goal.invariant_of-self-in_default-reply
invariant_of-self-in_default-reply g c =
    let within : c.args.tenant < length c.self.inside.queues.items = within_keys c.args.tenant c.args.self.now c.self.inside.keys.items
    (g.K.Tenants.worlds c.self.inside.worlds) c.self.inside.queues.items c.self.inside.connections.entries c.self.inside.next
    (g.K.Tenants.jobs c.self.inside.worlds) (g.K.Tenants.sharing c.self.inside.worlds) c.self.inside.queues.items c.self.view_is
    c.self.invariant.queues c.requires in
    let was = slice_get_read c.self.inside.queues.items (length c.self.inside.queues.items) c.args.tenant c.index_mut-queue.result.now refl
    within c.index_mut-queue.ensures.value in
    let first = sym (ap option_copied c.in-Some.is) ∙ c.first.ensures in
    let job = pending_job c.args.tenant c.in-Some.first.now.request c.work-reply.result.reply c.work-reply.result.spent
    (job_in c.args.tenant (g.K.Tenants.jobs c.self.inside.worlds)) (g.K.Tenants.jobs c.self.inside.worlds)
    (g.K.Tenants.jobs c.work-reply.new.self) c.in_default-reply.is c.work-reply.ensures.job in
    let same = slice_get-set_kept c.self.inside.queues.items c.args.tenant c.index_mut-queue.result.now
    c.index_mut-queue.result.now was refl in
    record {
      worlds = c.work-reply.ensures.count ∙ c.self.invariant.worlds;
      queues = length-set c.self.inside.queues.items c.args.tenant c.index_mut-queue.result.now ∙ c.self.invariant.queues;
      few = c.self.invariant.few;
      fresh = c.self.invariant.fresh;
      seated = same_seats c.self.inside.queues.items _ c.self.inside.connections.entries same c.self.invariant.seated;
      jobs = c.work-reply.ensures.job_count ∙ c.self.invariant.jobs;
      first = pending_first c.args.tenant c.self.inside.queues.items _ c.index_mut-queue.result.now c.in-Some.first.now
          c.work-reply.result.spent (job_in c.args.tenant (g.K.Tenants.jobs c.self.inside.worlds)) (g.K.Tenants.jobs c.self.inside.worlds)
          (g.K.Tenants.jobs c.work-reply.new.self) was same first job c.self.invariant.first;
    }

pub returns-in_default-reply-clause-turns : goal.returns-in_default-reply-clause-turns
returns-in_default-reply-clause-turns g c =
    let within : c.args.tenant < length c.self.inside.queues.items = within_keys c.args.tenant c.args.self.now c.self.inside.keys.items
    (g.K.Tenants.worlds c.self.inside.worlds) c.self.inside.queues.items c.self.inside.connections.entries c.self.inside.next
    (g.K.Tenants.jobs c.self.inside.worlds) (g.K.Tenants.sharing c.self.inside.worlds) c.self.inside.queues.items c.self.view_is
    c.self.invariant.queues c.requires in
    let was = slice_get_read c.self.inside.queues.items (length c.self.inside.queues.items) c.args.tenant c.index_mut-queue.result.now refl
    within c.index_mut-queue.ensures.value in
    let first = sym (ap option_copied c.in-Some.is) ∙ c.first.ensures in
    let goes_on = on_none c.work-reply.result.reply c.in_default-reply.is c.work-reply.ensures.goes_on in
    rw (← c.self.view_is)
    (inr (inl (pending_in_turn (key_texts c.self.inside.keys.items) c.self.inside.next (g.K.Tenants.jobs c.self.inside.worlds)
    (g.K.Tenants.sharing c.self.inside.worlds) c.args.tenant c.spending.result (g.K.Tenants.worlds c.self.inside.worlds)
    (g.K.Tenants.worlds c.work-reply.new.self) c.self.inside.queues.items c.index_mut-queue.result.now c.index_mut-queue.result.now
    c.in-Some.first.now c.self.inside.connections.entries (g.K.Tenants.jobs c.work-reply.new.self)
    (g.K.Tenants.sharing c.work-reply.new.self)
    was first refl goes_on.worlds c.spending.ensures.reply c.spending.ensures.refused c.spending.ensures.closed)))

pub returns-in_default-reply-clause-spends : goal.returns-in_default-reply-clause-spends
returns-in_default-reply-clause-spends g c =
    let within : c.args.tenant < length c.self.inside.queues.items = within_keys c.args.tenant c.args.self.now c.self.inside.keys.items
    (g.K.Tenants.worlds c.self.inside.worlds) c.self.inside.queues.items c.self.inside.connections.entries c.self.inside.next
    (g.K.Tenants.jobs c.self.inside.worlds) (g.K.Tenants.sharing c.self.inside.worlds) c.self.inside.queues.items c.self.view_is
    c.self.invariant.queues c.requires in
    let was = slice_get_read c.self.inside.queues.items (length c.self.inside.queues.items) c.args.tenant c.index_mut-queue.result.now refl
    within c.index_mut-queue.ensures.value in
    let first = sym (ap option_copied c.in-Some.is) ∙ c.first.ensures in
    let goes_on = on_none c.work-reply.result.reply c.in_default-reply.is c.work-reply.ensures.goes_on in
    let there = within_keys c.args.tenant c.args.self.now c.self.inside.keys.items (g.K.Tenants.worlds c.self.inside.worlds)
    c.self.inside.queues.items c.self.inside.connections.entries c.self.inside.next (g.K.Tenants.jobs c.self.inside.worlds)
    (g.K.Tenants.sharing c.self.inside.worlds) (g.K.Tenants.worlds c.self.inside.worlds) c.self.view_is
    c.self.invariant.worlds c.requires in
    rw (← c.self.view_is)
    (pending_spends c.args.tenant c.spending.result (g.K.Tenants.worlds c.self.inside.worlds) (g.K.Tenants.worlds c.work-reply.new.self)
    c.self.inside.queues.items (job_in c.args.tenant (g.K.Tenants.jobs c.self.inside.worlds)) c.index_mut-queue.result.now _
    c.in-Some.first.now c.work-reply.result.spent
    there was (first_rest c.index_mut-queue.result.now c.in-Some.first.now first) goes_on c.spending.ensures.reply c.spending.ensures.spent)

pub returns-in_default-reply-clause-jobs : goal.returns-in_default-reply-clause-jobs
returns-in_default-reply-clause-jobs g c =
    let within : c.args.tenant < length c.self.inside.queues.items = within_keys c.args.tenant c.args.self.now c.self.inside.keys.items
    (g.K.Tenants.worlds c.self.inside.worlds) c.self.inside.queues.items c.self.inside.connections.entries c.self.inside.next
    (g.K.Tenants.jobs c.self.inside.worlds) (g.K.Tenants.sharing c.self.inside.worlds) c.self.inside.queues.items c.self.view_is
    c.self.invariant.queues c.requires in
    let was = slice_get_read c.self.inside.queues.items (length c.self.inside.queues.items) c.args.tenant c.index_mut-queue.result.now refl
    within c.index_mut-queue.ensures.value in
    let first = sym (ap option_copied c.in-Some.is) ∙ c.first.ensures in
    let job = pending_job c.args.tenant c.in-Some.first.now.request c.work-reply.result.reply c.work-reply.result.spent
    (job_in c.args.tenant (g.K.Tenants.jobs c.self.inside.worlds)) (g.K.Tenants.jobs c.self.inside.worlds)
    (g.K.Tenants.jobs c.work-reply.new.self) c.in_default-reply.is c.work-reply.ensures.job in
    rw (← c.self.view_is) (turn_job c.args.tenant c.spending.result c.self.inside.queues.items c.index_mut-queue.result.now
    c.in-Some.first.now None c.work-reply.result.spent (g.K.Tenants.jobs c.self.inside.worlds) (g.K.Tenants.jobs c.work-reply.new.self)
    was first c.spending.ensures.reply c.spending.ensures.spent job)

-- the first request is answered
pub returns-clause-turns : goal.returns-clause-turns
returns-clause-turns g c =
    let within : c.args.tenant < length c.self.inside.queues.items = within_keys c.args.tenant c.args.self.now c.self.inside.keys.items
    (g.K.Tenants.worlds c.self.inside.worlds) c.self.inside.queues.items c.self.inside.connections.entries c.self.inside.next
    (g.K.Tenants.jobs c.self.inside.worlds) (g.K.Tenants.sharing c.self.inside.worlds) c.self.inside.queues.items c.self.view_is
    c.self.invariant.queues c.requires in
    let was = slice_get_read c.self.inside.queues.items (length c.self.inside.queues.items) c.args.tenant c.index_mut-queue.result.now refl
    within c.index_mut-queue.ensures.value in
    let first = sym (ap option_copied c.in-Some.is) ∙ c.first.ensures in
    let first_is = taken_out c.index_mut-queue.result.now c.next-answered.new.self c.in-Some.first.now c.next-answered.result first
    c.next-answered.ensures.some c.next-answered.ensures.none in
    rw (← c.self.view_is)
    (inr (inr (answered_in_turn (key_texts c.self.inside.keys.items) c.self.inside.next (g.K.Tenants.jobs c.self.inside.worlds)
    (g.K.Tenants.sharing c.self.inside.worlds) c.args.tenant c.answer.result (g.K.Tenants.worlds c.self.inside.worlds)
    (g.K.Tenants.worlds c.work-reply.new.self) c.self.inside.queues.items c.index_mut-queue.result.now c.next-answered.new.self
    c.in-Some.first.now c.in-Some-reply.field-0.reply c.close_done-closed.result
    c.self.inside.connections.entries c.answer_connection.new.connections.entries c.close_done-closed.new.connections.entries
    (g.K.Tenants.jobs c.work-reply.new.self) (g.K.Tenants.sharing c.work-reply.new.self)
    within was first_is (on_some _ c.work-reply.result.reply c.in-Some-reply.field-0 c.in-Some-reply.is c.work-reply.ensures.answers)
    c.answer_connection.ensures.connection c.answer_connection.ensures.others c.close_done-closed.ensures.closed
    c.close_done-closed.ensures.connection c.close_done-closed.ensures.others
    c.answer.ensures.reply c.answer.ensures.refused c.answer.ensures.closed)))

-- the places and the jobs, then
pub invariant_of-self-2 : goal.invariant_of-self-2
invariant_of-self-2 g c =
    let within : c.args.tenant < length c.self.inside.queues.items = within_keys c.args.tenant c.args.self.now c.self.inside.keys.items
    (g.K.Tenants.worlds c.self.inside.worlds) c.self.inside.queues.items c.self.inside.connections.entries c.self.inside.next
    (g.K.Tenants.jobs c.self.inside.worlds) (g.K.Tenants.sharing c.self.inside.worlds) c.self.inside.queues.items c.self.view_is
    c.self.invariant.queues c.requires in
    let was = slice_get_read c.self.inside.queues.items (length c.self.inside.queues.items) c.args.tenant c.index_mut-queue.result.now refl
    within c.index_mut-queue.ensures.value in
    let first = sym (ap option_copied c.in-Some.is) ∙ c.first.ensures in
    let first_is = taken_out c.index_mut-queue.result.now c.next-answered.new.self c.in-Some.first.now c.next-answered.result first
    c.next-answered.ensures.some c.next-answered.ensures.none in
    let job = answered_job c.args.tenant c.in-Some.first.now.request c.work-reply.result.reply c.in-Some-reply.field-0
    c.work-reply.result.spent (job_in c.args.tenant (g.K.Tenants.jobs c.self.inside.worlds)) (g.K.Tenants.jobs c.self.inside.worlds)
    (g.K.Tenants.jobs c.work-reply.new.self) c.in-Some-reply.is c.work-reply.ensures.job in
    let connection = c.close_done-closed.ensures.connection ∙ ap (option_and_then kept) c.answer_connection.ensures.connection in
    let others = λ (d : ℕ) (ne : d ≢ c.in-Some.first.now.conn). c.close_done-closed.ensures.others d ne
    ∙ c.answer_connection.ensures.others d ne in
    record {
      worlds = c.work-reply.ensures.count ∙ c.self.invariant.worlds;
      queues = length-set c.self.inside.queues.items c.args.tenant c.next-answered.new.self ∙ c.self.invariant.queues;
      few = omega (arith, c.self.invariant.few, c.answer_connection.ensures.count, c.close_done-closed.ensures.count);
      fresh = answered_fresh c.args.tenant c.self.inside.queues.items c.index_mut-queue.result.now c.next-answered.new.self
          c.in-Some.first.now c.in-Some-reply.field-0.reply c.self.inside.connections.entries c.close_done-closed.new.connections.entries
          within was first_is connection others c.self.inside.next c.self.invariant.fresh;
      seated = answered_seats c.args.tenant c.self.inside.queues.items c.index_mut-queue.result.now c.next-answered.new.self
          c.in-Some.first.now c.in-Some-reply.field-0.reply c.self.inside.connections.entries c.close_done-closed.new.connections.entries
          within was first_is connection others c.self.invariant.seated;
      jobs = c.work-reply.ensures.job_count ∙ c.self.invariant.jobs;
      first = answered_first c.args.tenant c.self.inside.queues.items c.next-answered.new.self (g.K.Tenants.jobs c.self.inside.worlds)
          (g.K.Tenants.jobs c.work-reply.new.self) job c.self.invariant.first;
    }

pub returns-clause-spends : goal.returns-clause-spends
returns-clause-spends g c =
    let within : c.args.tenant < length c.self.inside.queues.items = within_keys c.args.tenant c.args.self.now c.self.inside.keys.items
    (g.K.Tenants.worlds c.self.inside.worlds) c.self.inside.queues.items c.self.inside.connections.entries c.self.inside.next
    (g.K.Tenants.jobs c.self.inside.worlds) (g.K.Tenants.sharing c.self.inside.worlds) c.self.inside.queues.items c.self.view_is
    c.self.invariant.queues c.requires in
    let was = slice_get_read c.self.inside.queues.items (length c.self.inside.queues.items) c.args.tenant c.index_mut-queue.result.now refl
    within c.index_mut-queue.ensures.value in
    let first = sym (ap option_copied c.in-Some.is) ∙ c.first.ensures in
    let first_is = taken_out c.index_mut-queue.result.now c.next-answered.new.self c.in-Some.first.now c.next-answered.result first
    c.next-answered.ensures.some c.next-answered.ensures.none in
    let answers = on_some _ c.work-reply.result.reply c.in-Some-reply.field-0 c.in-Some-reply.is c.work-reply.ensures.answers in
    rw (← c.self.view_is)
    (turn_spends c.args.tenant c.answer.result (g.K.Tenants.worlds c.self.inside.worlds) c.self.inside.queues.items
    (job_in c.args.tenant (g.K.Tenants.jobs c.self.inside.worlds)) c.index_mut-queue.result.now c.next-answered.new.self
    c.in-Some.first.now c.in-Some-reply.field-0.reply c.work-reply.result.spent answers.world
    answers.was was first_is (on_some _ c.work-reply.result.reply c.in-Some-reply.field-0 c.in-Some-reply.is c.work-reply.ensures.charges)
    c.answer.ensures.reply c.answer.ensures.spent)

-- no turn spends more than fits
pub returns-in_default-clause-short : goal.returns-in_default-clause-short
returns-in_default-clause-short g c = short_none c.nothing.result c.nothing.ensures.counts

pub returns-in_default-reply-clause-short : goal.returns-in_default-reply-clause-short
returns-in_default-reply-clause-short g c = short_told c.spending.result c.work-reply.result.spent c.spending.ensures.spent
    c.work-reply.ensures.short

pub returns-clause-short : goal.returns-clause-short
returns-clause-short g c = short_told c.answer.result c.work-reply.result.spent c.answer.ensures.spent c.work-reply.ensures.short
