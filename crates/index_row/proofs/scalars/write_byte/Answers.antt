use Rattle.index_row.proofs.Adding.{Adds-byte}
use Rattle.index_row.proofs.scalars.write_byte.Goals as goal

pub returns : goal.returns
returns c = Adds-byte _ _ _ c.in_ok-push.ensures.items
