use Rattle.std.proofs.Common.{◌==◌, length, not, arith}
use Rattle.ports_core.specs.State.{keys_of, waiting_at}
use Rattle.ports_serve.specs.Rounds.{waits}
use Rattle.ports_serve.proofs.Going.{later_passes, waits_none}
use Rattle.ports_serve.proofs.rounds.requests_wait.Goals as goal

pub loop-tenant-preserved : goal.loop-tenant-preserved
loop-tenant-preserved g c =
    let service = c.args.service.now in
    later_passes (λ t. not (waiting_at t service == 0)) c.loop-tenant.tenant (length (keys_of service)) (waits service)
    (omega (arith, c.loop-tenant-test.true, c.tenants-tenant-end.ensures))
    (waits_none (waiting_at c.loop-tenant.tenant service) (omega (arith, c.if-waiting-gt0.false, c.waiting.ensures)))
    c.loop-tenant.invariant
