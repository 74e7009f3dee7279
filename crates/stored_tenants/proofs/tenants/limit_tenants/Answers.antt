-- One tenant more is limited, and is as right as it was.
use Rattle.std.proofs.Common.{◌<◌, ◌∙◌, arith, length, get_or, refl}
use Rattle.std.proofs.lemmas.List.{length-set}
use Rattle.stored_tenants.specs.declared.tenant.Tenant.{Tenant}
use Rattle.stored_tenants.specs.Kept.{world_of}
use Rattle.stored_tenants.proofs.KeptLemmas.{right_at, set_right, limited}
use Rattle.stored_tenants.proofs.JobLemmas.{jobs_kept}
use Rattle.stored_tenants.proofs.WorldLemmas.{worlds_kept}
use Rattle.stored_tenants.proofs.tenants.limit_tenants.Goals as goal

pub loop-tenant-preserved : goal.loop-tenant-preserved
loop-tenant-preserved c =
    let t = c.loop-tenant.tenant-index in
    let tenants = c.loop-tenant.tenants in
    let any = c.tenant-item.result in
    let old = get_or tenants t any in
    let files = c.limit_steps in
    let keeper = c.limit_steps-in-loop-tenant in
    let tenant : Tenant = record old { store = files.new.self; keeper = keeper.new.self } in
    let inside : t < length tenants = omega arith in
    record {
      count = length-set tenants t tenant ∙ c.loop-tenant.invariant.count;
      right = λ before.
          let right = c.loop-tenant.invariant.right before in
          set_right tenants t tenant inside right
          (limited old files.new.self keeper.new.self files.ensures keeper.ensures.rows keeper.ensures.begun
          (keeper.ensures.kept (world_of old)) (right_at tenants t any inside right));
      worlds = worlds_kept tenants t any tenant inside files.ensures ∙ c.loop-tenant.invariant.worlds;
      jobs = jobs_kept tenants t any tenant inside refl ∙ c.loop-tenant.invariant.jobs;
    }
