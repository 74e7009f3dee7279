-- Nothing is spent, and all turns are left.
use Rattle.std.proofs.Common.{◌≤◌, ℕ, refl, arith}
use Rattle.question_turns.proofs.under_way.UnderWay.of_port.Goals as goal

same : (n : ℕ) → n ≤ n
same n = omega arith

pub returns : goal.returns
returns c = λ world refresh. record { asked = refl; nothing = c.nothing.ensures; pending = c.nothing.ensures; turns = same _ }
