use Rattle.mk_ref.proofs.Covering.{length-outside, outside-at}
use Rattle.mk_ref.proofs.laws.outside_keeps_places.Goals as goal

pub returns : goal.returns
returns c = λ text. (length-outside text, outside-at text)
