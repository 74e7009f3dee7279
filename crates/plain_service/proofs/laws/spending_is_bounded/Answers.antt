use Rattle.plain_service.proofs.SpendingLemmas.{stay_within, take_all_unchecked}
use Rattle.plain_service.proofs.laws.spending_is_bounded.Goals as goal

pub returns-clause-within : goal.returns-clause-within
returns-clause-within c = stay_within

pub returns-clause-whole : goal.returns-clause-whole
returns-clause-whole c = take_all_unchecked
