-- The limits change no world, no row and no job.
use Rattle.std.proofs.Common.{◌∙◌, length, ap, subst, sym, arith}
use Rattle.stored_tenants.specs.Kept.{AreRightTenants}
use Rattle.stored_tenants.proofs.KeptLemmas.{refill_same}
use Rattle.stored_tenants.proofs.stored_tenants.StoredTenantsTenants.limit_steps.Goals as goal

pub invariant_of-self : goal.invariant_of-self
invariant_of-self c =
    let old = c.self.inside.tenants.items in
    let new = c.limit_tenants.new.tenants in
    let count = c.limit_tenants.ensures.count ∙ ap length c.deref_mut.ensures.value in
    let right = c.limit_tenants.ensures.right (subst AreRightTenants (sym c.deref_mut.ensures.value) c.self.invariant) in
    subst AreRightTenants (sym (refill_same c.self.inside.tenants.len old new count (omega (arith, c.self.inside.tenants.ok)))) right
