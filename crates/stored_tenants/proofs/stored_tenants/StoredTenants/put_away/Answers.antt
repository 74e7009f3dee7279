-- Putting an index away changes no world and no job.
use Rattle.std.proofs.Common.{◌∙◌, List, Option, length, ap, ap₂, subst, sym, arith}
use Rattle.mk_paths.specs.World.{World}
use Rattle.ports_core.specs.Jobs.{TenantJob}
use Rattle.stored_tenants.specs.Kept.{AreRightTenants, jobs_of, worlds_of}
use Rattle.stored_tenants.specs.Shared.{sharing_in}
use Rattle.stored_tenants.specs.Stored.{Stored}
use Rattle.stored_tenants.proofs.KeptLemmas.{refill_same}
use Rattle.stored_tenants.proofs.stored_tenants.StoredTenants.put_away.Goals as goal

pub returns : goal.returns
returns c =
    let old = c.self.inside.tenants.items in
    let new = c.put_away_at.new.tenants in
    let slice = c.deref_mut.ensures.value in
    let refill = refill_same c.self.inside.tenants.len old new (c.put_away_at.ensures.count ∙ ap length slice)
    (omega (arith, c.self.inside.tenants.ok)) in
    ap₂ (λ (worlds : List World) (jobs : List (Option TenantJob)). let stored : Stored =
    (worlds, jobs, sharing_in c.self.inside.cache) in stored)
    (ap worlds_of refill ∙ c.put_away_at.ensures.worlds ∙ ap worlds_of slice) (ap jobs_of refill
    ∙ c.put_away_at.ensures.jobs ∙ ap jobs_of slice)
    ∙ c.self.view_is

pub invariant_of-self : goal.invariant_of-self
invariant_of-self c =
    let old = c.self.inside.tenants.items in
    let new = c.put_away_at.new.tenants in
    let count = c.put_away_at.ensures.count ∙ ap length c.deref_mut.ensures.value in
    let right = c.put_away_at.ensures.right (subst AreRightTenants (sym c.deref_mut.ensures.value) c.self.invariant) in
    subst AreRightTenants (sym (refill_same c.self.inside.tenants.len old new count (omega (arith, c.self.inside.tenants.ok)))) right
