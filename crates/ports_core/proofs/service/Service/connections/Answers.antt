use Rattle.std.proofs.Common.{◌≡◌, ◌++◌, ◌∷◌, length, ap, arith, sym, ◌∙◌, length-append}
use Rattle.ports_core.specs.State.{State, connections_of}
use Rattle.ports_core.proofs.Lists.{length-map}
use Rattle.ports_core.proofs.service.Service.connections.Goals as goal

-- a number is left of those of at most 16 connections
pub push-requires : goal.push-requires
push-requires g c =
    let connections = c.self.inside.connections.entries in
    let all : length (c.loop-conn.numbers.items ++ c.in-Some.conn.now ∷ c.next.new.self) ≡ length connections =
    ap (λ left. length (c.loop-conn.numbers.items ++ left)) (sym c.in-Some.ensures.steps) ∙ ap length c.loop-conn.invariant.2
    ∙ ap (λ (s : State). length (connections_of s)) (sym c.self.view_is) ∙ length-map _ connections in
    let few = c.self.invariant.few in
    let split = length-append c.loop-conn.numbers.items (c.in-Some.conn.now ∷ c.next.new.self) in
    (omega arith, omega (arith, all, few, split))
