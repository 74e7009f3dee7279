-- The machine is under way in the evaluation of its key.
use Rattle.eval_ask.specs.Ask.{key_in}
use Rattle.eval_ask.proofs.ask.Ask.spent.Goals as goal

pub returns-clause-within : goal.returns-clause-within
returns-clause-within c = λ files is.
    let key = key_in c.args.self.now in
    c.spent.ensures.within files key.settings key.name key.flavors c.args.self.now.trace is.under
