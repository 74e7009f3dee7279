-- The texts so far follow those that were there.
use Rattle.std.proofs.Common.{◌≡◌, ◌++◌}
use Rattle.port_index.proofs.tree_paths.append.Given as goal

abbrev pub invariant-loop-text : goal.invariant-loop-text
invariant-loop-text l = l.texts.items ≡ l.initial.texts.items ++ l.yielded
