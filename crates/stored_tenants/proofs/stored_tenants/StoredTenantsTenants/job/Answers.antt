-- The job of a tenant that is there; another has none.
use Rattle.std.proofs.Common.{◌≡◌, ◌<◌, ◌≤◌, ◌∙◌, List, length, get_or, ap, subst, sym}
use Rattle.ports_core.specs.Jobs.{had_by}
use Rattle.stored_tenants.specs.declared.tenant.Tenant.{Tenant}
use Rattle.stored_tenants.specs.Kept.{job_of}
use Rattle.stored_tenants.proofs.JobLemmas.{job_past, job_there}
use Rattle.stored_tenants.proofs.WorldLemmas.{past_is, within_is}
use Rattle.stored_tenants.proofs.stored_tenants.StoredTenantsTenants.job.Goals as goal

pub returns-in-Some : goal.returns-in-Some
returns-in-Some c =
    let items = c.self.inside.tenants.items in
    let found = c.in-Some.tenant.now in
    let within : c.args.tenant < length items = subst (λ (ts : List Tenant). c.args.tenant < length ts) c.deref.ensures.value
    (within_is _ _ (sym c.in-Some.ensures.lookup.0)) in
    let here : found ≡ get_or items c.args.tenant found = c.in-Some.ensures.lookup.1
    ∙ ap (λ (ts : List Tenant). get_or ts c.args.tenant found) c.deref.ensures.value in
    rw (← c.self.view_is) (c.had.ensures ∙ ap (λ (t : Tenant). had_by (job_of t)) here
    ∙ sym (ap had_by (job_there items c.args.tenant found within)))

pub returns-in-None : goal.returns-in-None
returns-in-None c =
    let items = c.self.inside.tenants.items in
    let past : length items ≤ c.args.tenant = subst (λ (ts : List Tenant). length ts ≤ c.args.tenant) c.deref.ensures.value
    (past_is _ _ (sym c.in-None.ensures.lookup.0)) in
    rw (← c.self.view_is) (c.nothing.ensures ∙ sym (ap had_by (job_past items c.args.tenant past)))
