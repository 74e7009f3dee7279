-- The paths stay, and fewer are ahead.
use Rattle.std.proofs.Common.{length, ◌-◌, ◌≡◌}
use Rattle.port_index.proofs.path_finder.PathFinder.has.Given as goal

abbrev pub invariant-loop-self : goal.invariant-loop-self
invariant-loop-self l = l.self.paths ≡ l.initial.self.paths

abbrev pub decreases-loop-self : goal.decreases-loop-self
decreases-loop-self l = length l.self.paths.now - l.self.place
