use Rattle.std.proofs.Common.{◌≡◌, ℕ, List, [], Option, None, ap, sym, ◌∙◌, length, arith}
use Rattle.std.specs.Prelude.{replicate}
use Rattle.std.proofs.lemmas.List.{length-replicate}
use Rattle.mk_paths.specs.World.{opening_world}
use Rattle.ports_core.specs.Jobs.{TenantJob}
use Rattle.ports_core.specs.Sharing.{sizes_of}
use Rattle.ports_core.specs.Slices.{Queue}
use Rattle.ports_core.proofs.JobLemmas.{begun_first}
use Rattle.ports_core.proofs.PlaceLemmas.{begun_fresh, begun_seats}
use Rattle.ports_core.proofs.StepLemmas.{new_state_is}
use Rattle.ports_core.proofs.service.Service.new.Goals as goal

-- so many worlds, or jobs, as there are keys
counted : {X : Type 0} (x : X) {xs : List X} {n count : ℕ} → xs ≡ replicate n x → count ≡ n → xs ≡ replicate count x
counted x are same = are ∙ ap (λ k. replicate k x) (sym same)

pub returns-clause-ok : goal.returns-clause-ok
returns-clause-ok g c =
    let no_job : Option TenantJob = None in
    new_state_is c.args.config.keys.items (g.K.Tenants.worlds c.in_ok-worlds.worlds) c.in_ok-queues.queues.items
    (g.K.Tenants.jobs c.in_ok-worlds.worlds) (g.K.Tenants.sharing c.in_ok-worlds.worlds) (sizes_of c.args.config)
    c.len-count.result c.new-2.result.entries
    (counted opening_world c.in_ok-worlds.ensures.worlds (omega arith)) c.in_ok-queues.ensures
    (counted no_job c.in_ok-worlds.ensures.jobs (omega arith)) (omega arith) c.new-2.ensures.empty c.in_ok-worlds.ensures.sharing

pub invariant_of-result : goal.invariant_of-result
invariant_of-result g c =
    let none : Queue = [] in
    let no_job : Option TenantJob = None in
    record {
      worlds = ap length c.in_ok-worlds.ensures.worlds ∙ length-replicate (length c.args.config.keys.items) opening_world;
      queues = ap length c.in_ok-queues.ensures ∙ length-replicate c.len-count.result none ∙ omega arith;
      few = let empty = ap length c.new-2.ensures.empty in omega (arith, empty);
      fresh = λ d above. begun_fresh c.new-2.result.entries c.new-2.ensures.empty d;
      seated = begun_seats c.len-count.result c.in_ok-queues.queues.items c.new-2.result.entries c.in_ok-queues.ensures;
      jobs = ap length c.in_ok-worlds.ensures.jobs ∙ length-replicate (length c.args.config.keys.items) no_job;
      first = begun_first c.in_ok-queues.queues.items _ (g.K.Tenants.jobs c.in_ok-worlds.worlds) c.in_ok-worlds.ensures.jobs;
    }
