-- The law of evaluations, and the places of directories.
use Rattle.port_index.proofs.SamePaths.{path_is_the_same}
use Rattle.port_index.proofs.laws.path_is_the_same_where_answered.Goals as goal

pub returns : goal.returns
returns c = path_is_the_same c.same_where_answered.ensures
