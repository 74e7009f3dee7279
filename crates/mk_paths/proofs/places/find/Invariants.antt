-- What was asked so far, and what the trees from here on give, are those of all trees.
use Rattle.std.proofs.Common.{map, drop}
use Rattle.std.specs.String.{string_bytes}
use Rattle.mk_paths.proofs.Placing.{IsUnderway}
use Rattle.mk_paths.proofs.places.find.Given as goal

abbrev pub invariant-loop-tree : goal.invariant-loop-tree
invariant-loop-tree g l = IsUnderway (g.N.Names.view l.fn.names) (g.N.Names.view l.names) (map string_bytes (drop l.tree-index l.trees))
    (map string_bytes l.trees) l.directory
