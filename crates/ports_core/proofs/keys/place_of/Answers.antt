use Rattle.ports_core.proofs.KeyLemmas.{tenant_of_place}
use Rattle.ports_core.proofs.keys.place_of.Goals as goal

pub returns-in-Some-clause-place : goal.returns-in-Some-clause-place
returns-in-Some-clause-place c = rw c.in-Some.is (tenant_of_place c.args.keys.now _ c.in-Some.key.items _ c.place_among.ensures.place (cc))
