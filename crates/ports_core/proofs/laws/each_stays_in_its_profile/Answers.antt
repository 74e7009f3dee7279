use Rattle.ports_core.proofs.LanguageLemmas.{each-stays}
use Rattle.ports_core.proofs.laws.each_stays_in_its_profile.Goals as goal

pub returns : goal.returns
returns c = each-stays c.others_keep_the_profile.ensures
