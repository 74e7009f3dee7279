use Rattle.std.proofs.Common.{arith, inl, refl}
use Rattle.ports_http.specs.Limits.{unread_limit}
use Rattle.ports_http.proofs.conn.Conn.new.Goals as goal

pub invariant_of-result : goal.invariant_of-result
unfolding unread_limit
invariant_of-result c =
    let empty = c.in_ok-with_capacity.ensures.len in
    let exact = c.in_ok-with_capacity.ensures.exact in
    record {
      start = omega arith;
      held = omega (arith, empty);
      missing = inl refl;
      reserved = omega (arith, exact);
    }
