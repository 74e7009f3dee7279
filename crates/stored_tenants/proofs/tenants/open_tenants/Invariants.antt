-- The tenants so far are right, are as each begins, and have no job.
use Rattle.std.proofs.Common.{◌≡◌, length}
use Rattle.stored_tenants.specs.Kept.{AreRightTenants, HaveNoJob, HaveOpeningWorlds}
use Rattle.stored_tenants.proofs.tenants.open_tenants.Given as goal

abbrev pub invariant-loop : goal.invariant-loop
invariant-loop l = record {
  count : length l.tenants.items ≡ l.counter;
  right : AreRightTenants l.tenants.items;
  worlds : HaveOpeningWorlds l.tenants.items;
  jobs : HaveNoJob l.tenants.items;
}
