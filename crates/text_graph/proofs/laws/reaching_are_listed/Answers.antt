use Rattle.text_graph.proofs.Listed.{listed_reaching}
use Rattle.text_graph.proofs.laws.reaching_are_listed.Goals as goal

pub returns : goal.returns
returns c = listed_reaching
