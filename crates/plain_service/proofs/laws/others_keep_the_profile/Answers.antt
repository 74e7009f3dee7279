use Rattle.plain_service.proofs.LanguageLemmas.{others_keep_the_profile as kept}
use Rattle.plain_service.proofs.laws.others_keep_the_profile.Goals as goal

pub returns : goal.returns
returns c = kept
