use Rattle.mk_mods.proofs.Replacing.{first-cut, all_replaced-cut, first_replaced-none, all_replaced-none}
use Rattle.mk_mods.proofs.laws.acts_at_least_places.Goals as goal

pub returns-clause-first : goal.returns-clause-first
returns-clause-first c = first-cut

pub returns-clause-each : goal.returns-clause-each
returns-clause-each c = all_replaced-cut

pub returns-clause-nowhere : goal.returns-clause-nowhere
returns-clause-nowhere c = λ old new word none. (first_replaced-none old new word none, all_replaced-none old new word none)
