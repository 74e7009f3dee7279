use Rattle.std.proofs.Common.{◌≡◌, ◌+◌, ◌*◌, length, map}
use Rattle.mk_cond_tree.specs.Reader.{after_or, after_and, read_not, read_and, operands}
use Rattle.mk_cond_tree.specs.Views.{conjunction_tree, term_tree}
use Rattle.mk_cond_tree.proofs.Chains.{continued}
use Rattle.mk_cond_tree.proofs.reader.+reading.Given as goal

abbrev pub decreases-group : goal.decreases-group
decreases-group l = 6 * l.levels

abbrev pub decreases-negation : goal.decreases-negation
decreases-negation l = 6 * l.levels

abbrev pub decreases-read_not : goal.decreases-read_not
decreases-read_not l = 6 * l.levels + 1

abbrev pub decreases-later_nots : goal.decreases-later_nots
decreases-later_nots l = 6 * l.levels + 2

abbrev pub decreases-read_and : goal.decreases-read_and
decreases-read_and l = 6 * l.levels + 3

abbrev pub decreases-later_ands : goal.decreases-later_ands
decreases-later_ands l = 6 * l.levels + 4

abbrev pub decreases-read_or : goal.decreases-read_or
decreases-read_or l = 6 * l.levels + 5

abbrev pub invariant-later_nots-loop-behind : goal.invariant-later_nots-loop-behind
invariant-later_nots-loop-behind l =
    continued after_and (read_not l.levels) (map term_tree l.more.items) l.rest ≡ operands after_and (read_not l.levels) l.tokens

abbrev pub decreases-later_nots-loop-behind : goal.decreases-later_nots-loop-behind
decreases-later_nots-loop-behind l = length l.rest

abbrev pub invariant-later_ands-loop-behind : goal.invariant-later_ands-loop-behind
invariant-later_ands-loop-behind l =
    continued after_or (read_and l.levels) (map conjunction_tree l.more.items) l.rest ≡ operands after_or (read_and l.levels) l.tokens

abbrev pub decreases-later_ands-loop-behind : goal.decreases-later_ands-loop-behind
decreases-later_ands-loop-behind l = length l.rest
