use Rattle.std.proofs.Common.{ap, sym, subst, ◌∙◌, arith, List, length}
use Rattle.std.proofs.lemmas.List.{with_items_is}
use Rattle.ports_core.specs.Keys.{key_texts}
use Rattle.ports_core.specs.Connections.{MayHappenTo}
use Rattle.ports_core.specs.Jobs.{AreForFirst}
use Rattle.ports_core.specs.Opened.{OpenAnd}
use Rattle.ports_core.specs.Places.{AreSeated}
use Rattle.ports_core.specs.Slices.{Queue}
use Rattle.ports_core.specs.State.{State, connection_of}
use Rattle.ports_core.proofs.JobLemmas.{joined_first}
use Rattle.ports_core.proofs.PlaceLemmas.{heard_fresh, heard_seats, open_places}
use Rattle.ports_core.proofs.StepLemmas.{heard}
use Rattle.ports_core.proofs.service.Service.hear.Goals as goal

pub hear_connection-requires-clause-places : goal.hear_connection-requires-clause-places
hear_connection-requires-clause-places g c =
    open_places c.self.inside.queues.items c.deref_mut.result.now c.self.inside.connections.entries c.args.conn
    (MayHappenTo c.args.event.now) c.deref_mut.ensures.value c.self.invariant.few c.self.invariant.seated
    (subst (λ (s : State). OpenAnd (connection_of c.args.conn s) (MayHappenTo c.args.event.now)) (sym c.self.view_is) c.requires)

pub invariant_of-self : goal.invariant_of-self
invariant_of-self g c =
    let queues = with_items_is c.self.inside.queues c.hear_connection.new.queues (c.hear_connection.auto.queues
    ∙ c.deref_mut.ensures.len) in
    record {
      worlds = c.self.invariant.worlds;
      queues = ap length queues ∙ c.hear_connection.auto.queues ∙ ap length c.deref_mut.ensures.value ∙ c.self.invariant.queues;
      few = omega (arith, c.self.invariant.few, c.hear_connection.ensures.count);
      fresh = heard_fresh _ c.args.event.now c.args.conn c.hear_connection.result _ c.hear_connection.new.connections.entries _ _
          c.hear_connection.ensures.hears c.self.inside.next c.self.invariant.fresh;
      seated = subst (λ (qs : List Queue). AreSeated qs c.hear_connection.new.connections.entries) (sym queues)
          (heard_seats _ c.args.event.now c.args.conn c.hear_connection.result _ c.hear_connection.new.connections.entries _ _
          c.hear_connection.ensures.hears
          (subst (λ (qs : List Queue). AreSeated qs c.self.inside.connections.entries) (sym c.deref_mut.ensures.value)
          c.self.invariant.seated));
      jobs = c.self.invariant.jobs;
      first = subst (λ (qs : List Queue). AreForFirst qs (g.K.Tenants.jobs c.self.inside.worlds)) (sym queues)
          (joined_first _ c.args.conn c.hear_connection.ensures.hears.0 _ c.hear_connection.new.queues
          (g.K.Tenants.jobs c.self.inside.worlds) c.hear_connection.ensures.hears.2
          (subst (λ (qs : List Queue). AreForFirst qs (g.K.Tenants.jobs c.self.inside.worlds)) (sym c.deref_mut.ensures.value)
          c.self.invariant.first));
    }

pub returns-clause-hears : goal.returns-clause-hears
returns-clause-hears g c =
    rw (← c.self.view_is)
    (heard (key_texts c.self.inside.keys.items) c.self.inside.next (g.K.Tenants.jobs c.self.inside.worlds)
    (g.K.Tenants.sharing c.self.inside.worlds) c.args.event.now c.args.conn c.hear_connection.result
    (g.K.Tenants.worlds c.self.inside.worlds)
    c.self.inside.queues.items c.deref_mut.result.now c.hear_connection.new.queues _ c.self.inside.connections.entries
    c.hear_connection.new.connections.entries
    (key_texts c.deref.result.now) (ap key_texts c.deref.ensures.value) c.deref_mut.ensures.value
    (with_items_is c.self.inside.queues c.hear_connection.new.queues (c.hear_connection.auto.queues ∙ c.deref_mut.ensures.len))
    c.hear_connection.ensures.hears)
