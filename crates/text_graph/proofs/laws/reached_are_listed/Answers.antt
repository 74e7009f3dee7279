use Rattle.text_graph.proofs.Listed.{listed_reached}
use Rattle.text_graph.proofs.laws.reached_are_listed.Goals as goal

pub returns : goal.returns
returns c = listed_reached
