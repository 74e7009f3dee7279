use Rattle.std.proofs.Common.{refl, sym, arith}
use Rattle.std.proofs.lemmas.List.{take_all}
use Rattle.ports_http.specs.Limits.{head_limit}
use Rattle.ports_http.proofs.first.front.Goals as goal

pub returns-then-unread-lt-HEAD_LIMIT : goal.returns-then-unread-lt-HEAD_LIMIT
unfolding head_limit
returns-then-unread-lt-HEAD_LIMIT c = sym (take_all 8192 c.args.unread.now (omega arith))

pub returns-else-unread-lt-HEAD_LIMIT : goal.returns-else-unread-lt-HEAD_LIMIT
unfolding head_limit
returns-else-unread-lt-HEAD_LIMIT c = refl
