-- There are so many worlds as each begins, and no tenant has a job.
use Rattle.std.proofs.Common.{ap, ◌∙◌, arith, Option, None}
use Rattle.std.specs.Prelude.{replicate}
use Rattle.mk_paths.specs.World.{opening_world}
use Rattle.ports_core.specs.Jobs.{TenantJob}
use Rattle.stored_tenants.proofs.ShareLemmas.{unused-new}
use Rattle.stored_tenants.proofs.stored_tenants.StoredTenantsTenants.new.Goals as goal

pub returns-clause-worlds : goal.returns-clause-worlds
returns-clause-worlds c = c.in_ok-tenants.ensures.worlds ∙ ap (λ n. replicate n opening_world)
    (omega (arith, c.in_ok-tenants.ensures.count))

pub returns-clause-jobs : goal.returns-clause-jobs
returns-clause-jobs c =
    let no_job : Option TenantJob = None in
    c.in_ok-tenants.ensures.jobs ∙ ap (λ n. replicate n no_job) (omega (arith, c.in_ok-tenants.ensures.count))

pub returns-clause-sharing : goal.returns-clause-sharing
returns-clause-sharing c = unused-new c.args.config.now c.in_ok-cache.cache c.requires c.in_ok-cache.ensures
