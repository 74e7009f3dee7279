use Rattle.std.proofs.Common.{◌≡◌, ◌==◌, ◌-◌, length, not}
use Rattle.std.specs.List.{list_any}
use Rattle.ports_core.specs.State.{keys_of, waiting_at}
use Rattle.ports_serve.specs.Rounds.{numbers_from, waits}
use Rattle.ports_serve.proofs.rounds.requests_wait.Given as goal

-- whether a request waits is whether one waits for a later tenant
abbrev pub invariant-loop-tenant : goal.invariant-loop-tenant
invariant-loop-tenant g l =
    list_any (λ t. not (waiting_at t l.fn.service == 0)) (numbers_from l.tenant (length (keys_of l.fn.service) - l.tenant)) ≡ waits
    l.fn.service
