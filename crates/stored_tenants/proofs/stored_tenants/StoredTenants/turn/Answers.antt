-- The world and the job of the tenant are those that change.
use Rattle.std.proofs.Common.{◌<◌, ◌≢◌, ◌∙◌, ℕ, List, length, subst, sym, ap, arith, inr}
use Rattle.std.specs.Prelude.{slice_get}
use Rattle.ports_http.specs.Messages.{ReplyMessage}
use Rattle.ports_core.specs.Charges.{Charges, FitsTurn}
use Rattle.ports_core.specs.Jobs.{IsForRequest, job_in, job_after, spent_on}
use Rattle.stored_tenants.specs.declared.tenant.Tenant.{Tenant}
use Rattle.stored_tenants.specs.Stored.{Stored}
use Rattle.stored_tenants.specs.Kept.{AreRightTenants, job_at, world_at}
use Rattle.stored_tenants.specs.Turn.{AnswersOver, ChargesOver}
use Rattle.stored_tenants.proofs.KeptLemmas.{refill_same}
use Rattle.stored_tenants.proofs.ShareLemmas.{IsUsed-cache}
use Rattle.stored_tenants.proofs.JobLemmas.{job_same}
use Rattle.stored_tenants.proofs.WorldLemmas.{answers_for, work_answers, work_charges, work_goes_on, place_is, if_none}
use Rattle.stored_tenants.proofs.stored_tenants.StoredTenants.turn.Goals as goal
use Rattle.stored_tenants.proofs.stored_tenants.StoredTenants.turn.Goals.{in-Ok, in-Err}

pub turn_at-requires-clause-there : goal.turn_at-requires-clause-there
turn_at-requires-clause-there c =
    let items = c.self.inside.tenants.items in
    let within : c.args.tenant < length items =
    place_is items c.args.tenant (subst (λ (v : Stored). c.args.tenant < length v.0) (sym c.self.view_is) c.requires.there) in
    subst (λ n. c.args.tenant < n) (sym (ap length c.deref_mut.ensures.value)) within

pub turn_at-requires-clause-right : goal.turn_at-requires-clause-right
turn_at-requires-clause-right c = subst AreRightTenants (sym c.deref_mut.ensures.value) c.self.invariant

pub turn_at-requires-clause-for_request : goal.turn_at-requires-clause-for_request
turn_at-requires-clause-for_request c =
    subst (λ (tenants : List Tenant). IsForRequest c.args.request.now (job_at c.args.tenant tenants)) (sym c.deref_mut.ensures.value)
    (subst (λ (v : Stored). IsForRequest c.args.request.now (job_in c.args.tenant v.1)) (sym c.self.view_is) c.requires.for_request)

pub returns-clause-answers : goal.returns-clause-answers
returns-clause-answers c =
    let items = c.self.inside.tenants.items in
    let slice = c.deref_mut.ensures.value in
    let within : c.args.tenant < length items =
    place_is items c.args.tenant (subst (λ (v : Stored). c.args.tenant < length v.0) (sym c.self.view_is) c.requires.there) in
    let lent = c.turn_at.ensures.count ∙ ap length slice in
    let refill = refill_same c.self.inside.tenants.len items c.turn_at.new.tenants lent (omega (arith, c.self.inside.tenants.ok)) in
    let count = ap length refill ∙ lent in
    let others = λ (u : ℕ) (ne : u ≢ c.args.tenant). ap (λ (ts : List Tenant). slice_get ts u) refill ∙ c.turn_at.ensures.same u ne
    ∙ ap (λ (ts : List Tenant). slice_get ts u) slice in
    rw (← c.self.view_is)
    (elim c.match-turn_at.branch [
      | in-Ok w ↦ rw w.result-is (work_answers items _ c.args.tenant within count others c.args.request.now _
          (subst (λ (ts : List Tenant). AnswersOver (world_at c.args.tenant items) (world_at c.args.tenant ts) c.args.request.now
          w.in-Ok.worked.reply) (sym refill)
          (subst (λ (ts : List Tenant). AnswersOver (world_at c.args.tenant ts) (world_at c.args.tenant c.turn_at.new.tenants)
          c.args.request.now w.in-Ok.worked.reply) slice w.in-Ok.ensures.works.answers)))
      | in-Err w ↦ rw w.result-is (answers_for items _ c.args.tenant within count others c.args.request.now _
          (inr (
            w.store_failed.ensures.value,
            ap (world_at c.args.tenant) refill ∙ w.in-Err.ensures.err
                ∙ ap (world_at c.args.tenant) slice,
          )))
    ])

pub returns-clause-charges : goal.returns-clause-charges
returns-clause-charges c =
    let items = c.self.inside.tenants.items in
    let slice = c.deref_mut.ensures.value in
    let within : c.args.tenant < length items =
    place_is items c.args.tenant (subst (λ (v : Stored). c.args.tenant < length v.0) (sym c.self.view_is) c.requires.there) in
    let new = c.turn_at.new.tenants in
    let lent = c.turn_at.ensures.count ∙ ap length slice in
    let others = λ (u : ℕ) (ne : u ≢ c.args.tenant). c.turn_at.ensures.same u ne ∙ ap (λ (ts : List Tenant). slice_get ts u) slice in
    rw (← c.self.view_is)
    (elim c.match-turn_at.branch [
      | in-Ok w ↦ rw w.result-is
          (work_charges items new c.args.tenant within lent others c.args.request.now w.in-Ok.worked.reply (job_at c.args.tenant items)
          w.in-Ok.worked.spent c.never_answers_503.ensures
          (subst (λ (ts : List Tenant). AnswersOver (world_at c.args.tenant ts) (world_at c.args.tenant new) c.args.request.now
          w.in-Ok.worked.reply) slice w.in-Ok.ensures.works.answers)
          (subst (λ (ts : List Tenant). ChargesOver (world_at c.args.tenant ts) c.args.request.now (job_at c.args.tenant ts)
          w.in-Ok.worked.reply w.in-Ok.worked.spent) slice w.in-Ok.ensures.works.charges))
      | in-Err w ↦ rw w.result-is
          (λ world there. subst (λ (reply : ReplyMessage). Charges world c.args.request.now reply (spent_on (job_at c.args.tenant items))
          w.nothing.result) (sym w.store_failed.ensures.value) w.nothing.ensures)
    ])

pub returns-clause-goes_on : goal.returns-clause-goes_on
returns-clause-goes_on c =
    let items = c.self.inside.tenants.items in
    let slice = c.deref_mut.ensures.value in
    let within : c.args.tenant < length items =
    place_is items c.args.tenant (subst (λ (v : Stored). c.args.tenant < length v.0) (sym c.self.view_is) c.requires.there) in
    let lent = c.turn_at.ensures.count ∙ ap length slice in
    let refill = refill_same c.self.inside.tenants.len items c.turn_at.new.tenants lent (omega (arith, c.self.inside.tenants.ok)) in
    let count = ap length refill ∙ lent in
    let others = λ (u : ℕ) (ne : u ≢ c.args.tenant). ap (λ (ts : List Tenant). slice_get ts u) refill ∙ c.turn_at.ensures.same u ne
    ∙ ap (λ (ts : List Tenant). slice_get ts u) slice in
    rw (← c.self.view_is)
    (elim c.match-turn_at.branch [
      | in-Ok w ↦ rw w.result-is
          (work_goes_on items _ c.args.tenant within count others c.args.request.now w.in-Ok.worked.reply
          (job_at c.args.tenant items) w.in-Ok.worked.spent
          (if_none w.in-Ok.worked.reply (λ same. ap (world_at c.args.tenant) refill ∙ same ∙ ap (world_at c.args.tenant) slice)
          w.in-Ok.ensures.works.silent)
          (subst (λ (ts : List Tenant). ChargesOver (world_at c.args.tenant ts) c.args.request.now (job_at c.args.tenant ts)
          w.in-Ok.worked.reply w.in-Ok.worked.spent) slice w.in-Ok.ensures.works.charges))
      | in-Err w ↦ rw w.result-is tt
    ])

pub returns-clause-job : goal.returns-clause-job
returns-clause-job c =
    let items = c.self.inside.tenants.items in
    let slice = c.deref_mut.ensures.value in
    let lent = c.turn_at.ensures.count ∙ ap length slice in
    let refill = refill_same c.self.inside.tenants.len items c.turn_at.new.tenants lent (omega (arith, c.self.inside.tenants.ok)) in
    let others = λ (u : ℕ) (ne : u ≢ c.args.tenant). ap (λ (ts : List Tenant). job_at u ts) refill ∙ job_same _ c.turn_at.new.tenants u
    (c.turn_at.ensures.same u ne) ∙ ap (λ (ts : List Tenant). job_at u ts) slice in
    rw (← c.self.view_is)
    (elim c.match-turn_at.branch [
      | in-Ok w ↦ rw w.result-is (record {
        job_is = ap (λ (ts : List Tenant). job_at c.args.tenant ts) refill ∙ w.in-Ok.ensures.works.job_is
            ∙ ap (λ (ts : List Tenant). job_after c.args.request.now w.in-Ok.worked.reply w.in-Ok.worked.spent (job_at c.args.tenant ts))
            slice;
        others = others;
      })
      | in-Err w ↦ rw w.result-is (record {
        job_is = ap (λ (ts : List Tenant). job_at c.args.tenant ts) refill ∙ w.in-Err.ensures.dropped;
        others = others;
      })
    ])

pub invariant_of-self : goal.invariant_of-self
invariant_of-self c =
    let items = c.self.inside.tenants.items in
    let new = c.turn_at.new.tenants in
    let lent = c.turn_at.ensures.count ∙ ap length c.deref_mut.ensures.value in
    subst AreRightTenants (sym (refill_same c.self.inside.tenants.len items new lent (omega (arith, c.self.inside.tenants.ok))))
    c.turn_at.ensures.right

pub returns-clause-short : goal.returns-clause-short
returns-clause-short c =
    elim c.match-turn_at.branch [
      | in-Ok w ↦ rw w.result-is w.in-Ok.ensures.works.short
      | in-Err w ↦ rw w.result-is (subst FitsTurn (sym w.nothing.ensures) (omega arith))
    ]

pub returns-clause-uses : goal.returns-clause-uses
returns-clause-uses c =
    rw (← c.self.view_is)
    (IsUsed-cache c.self.inside.cache c.turn_at.new.cache c.counts-before.result c.counts-before.ensures (omega arith)
    (omega arith) c.turn_at.ensures.uses)
