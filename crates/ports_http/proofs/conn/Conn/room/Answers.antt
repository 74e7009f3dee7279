use Rattle.std.proofs.Common.{arith}
use Rattle.ports_http.specs.Limits.{unread_limit}
use Rattle.ports_http.proofs.ConnLemmas.{room_left}
use Rattle.ports_http.proofs.conn.Conn.room.Goals as goal

pub overflow_sub-result-2 : goal.overflow_sub-result-2
unfolding unread_limit
overflow_sub-result-2 c = omega (arith, c.self.invariant.held)

pub returns : goal.returns
unfolding unread_limit
returns c = rw (← c.self.view_is, c.len.ensures) (room_left c.self.inside c.if-self.false)
