-- One tenant more that is as each begins.
use Rattle.std.proofs.Common.{◌∙◌, ap, sym, subst, arith, length, [], ◌∷◌}
use Rattle.std.specs.Prelude.{option_map}
use Rattle.std.proofs.lemmas.List.{length-append}
use Rattle.stored_tenants.specs.Kept.{AreRightTenants, HaveNoJob, HaveOpeningWorlds, seen_job}
use Rattle.stored_tenants.proofs.KeptLemmas.{added_right}
use Rattle.stored_tenants.proofs.JobLemmas.{no_jobs}
use Rattle.stored_tenants.proofs.WorldLemmas.{opening_added}
use Rattle.stored_tenants.proofs.tenants.open_tenants.Goals as goal

pub loop-preserved : goal.loop-preserved
loop-preserved c =
    let tenants = c.loop.tenants.items in
    let tenant = c.in_ok-open_tenant.field-0 in
    record {
      count = ap length c.in_ok-add_tenant.ensures ∙ omega (arith, c.loop.invariant.count, length-append tenants (tenant ∷ []));
      right = subst AreRightTenants (sym c.in_ok-add_tenant.ensures)
          (added_right tenants tenant c.loop.invariant.right c.in_ok-open_tenant.ensures.right);
      worlds = subst HaveOpeningWorlds (sym c.in_ok-add_tenant.ensures)
          (opening_added tenants tenant c.loop.invariant.worlds c.in_ok-open_tenant.ensures.opens.same);
      jobs = subst HaveNoJob (sym c.in_ok-add_tenant.ensures)
          (no_jobs tenants tenant c.loop.invariant.jobs (ap (option_map seen_job) c.in_ok-open_tenant.ensures.opens.none));
    }
