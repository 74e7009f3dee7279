use Rattle.std.proofs.Common.{◌≡◌, map, take}
use Rattle.mk_loop.specs.Scopes.{iteration_words}
use Rattle.mk_loop.proofs.scopes.inside.Given as goal

abbrev pub invariant-loop-outer : goal.invariant-loop-outer
invariant-loop-outer l = map iteration_words l.inner.items ≡ map iteration_words (take l.outer-index l.loops)
