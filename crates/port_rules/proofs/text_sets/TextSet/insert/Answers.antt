use Rattle.port_rules.proofs.text_sets.TextSet.insert.Goals as goal
use Rattle.general_facts.specs.Maps.{contains_by-put}

pub returns-in-Ok-clause-more : goal.returns-in-Ok-clause-more
returns-in-Ok-clause-more c = λ other. contains_by-put c.args.self.now.texts c.insert.new.self c.args.text.now other c.in-Ok.ensures.updates
