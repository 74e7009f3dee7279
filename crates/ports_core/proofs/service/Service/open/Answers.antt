use Rattle.std.proofs.Common.{◌≢◌, ℕ, ap, inl, arith}
use Rattle.std.specs.Result.{is_err}
use Rattle.ports_core.specs.Keys.{key_texts}
use Rattle.ports_core.proofs.PlaceLemmas.{one_more, opened_fresh, opened_seats}
use Rattle.ports_core.proofs.StepLemmas.{opened, on_ok}
use Rattle.ports_core.proofs.OpenedLemmas.{is_eq-nat_cmp_other}
use Rattle.ports_core.proofs.service.Service.open.Goals as goal

pub returns-clause-opens : goal.returns-clause-opens
returns-clause-opens g c =
    let updates = on_ok _ c.insert.result (ap is_err c.in_default.is) c.insert.ensures.updates in
    rw (← c.self.view_is)
    (inl (opened (key_texts c.self.inside.keys.items) c.self.inside.next (g.K.Tenants.jobs c.self.inside.worlds)
    (g.K.Tenants.sharing c.self.inside.worlds) c.nothing.result (g.K.Tenants.worlds c.self.inside.worlds) c.self.inside.queues.items
    c.self.inside.connections.entries c.insert.new.self.entries c.in-Ok.connection
    (omega arith) (let h = c.if-self.false in omega arith) c.nothing.ensures.reply c.nothing.ensures.refused c.nothing.ensures.closed
    c.in-Ok.ensures updates.1 (λ d ne. updates.2 d (is_eq-nat_cmp_other c.self.inside.next d ne))))

pub invariant_of-self-2 : goal.invariant_of-self-2
invariant_of-self-2 g c =
    let updates = on_ok _ c.insert.result (ap is_err c.in_default.is) c.insert.ensures.updates in
    let same = λ (d : ℕ) (ne : d ≢ c.self.inside.next). updates.2 d (is_eq-nat_cmp_other c.self.inside.next d ne) in
    record {
      worlds = c.self.invariant.worlds;
      queues = c.self.invariant.queues;
      few = let more = one_more c.insert.result _ _ (ap is_err c.in_default.is) c.insert.ensures.len in omega (arith, more);
      fresh = opened_fresh c.self.inside.connections.entries c.insert.new.self.entries c.self.inside.next same c.self.invariant.fresh;
      seated = opened_seats c.self.inside.queues.items c.self.inside.connections.entries c.insert.new.self.entries c.self.inside.next
          (c.self.invariant.fresh c.self.inside.next (omega arith)) same c.self.invariant.seated;
      jobs = c.self.invariant.jobs;
      first = c.self.invariant.first;
    }
