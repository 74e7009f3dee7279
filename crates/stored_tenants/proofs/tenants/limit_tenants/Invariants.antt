-- As many tenants as before, with the same worlds and jobs, and right if they were.
use Rattle.std.proofs.Common.{◌≡◌, length}
use Rattle.stored_tenants.specs.Kept.{AreRightTenants, KeepJobs, KeepWorlds}
use Rattle.stored_tenants.proofs.tenants.limit_tenants.Given as goal

abbrev pub invariant-loop-tenant : goal.invariant-loop-tenant
invariant-loop-tenant l = record {
  count : length l.tenants ≡ length l.fn.tenants;
  right : AreRightTenants l.fn.tenants → AreRightTenants l.tenants;
  worlds : KeepWorlds l.fn.tenants l.tenants;
  jobs : KeepJobs l.fn.tenants l.tenants;
}
