-- So far no arrow leads from any text.
use Rattle.std.proofs.Common.{◌≡◌, ◌≤◌, ◌-◌, [], length}
use Rattle.std.specs.List.{All}
use Rattle.text_graph.proofs.steps.nowhere.Given as goal

abbrev pub invariant-loop-alloc : goal.invariant-loop-alloc
invariant-loop-alloc l = record {
  none : All (λ numbers. numbers.items ≡ []) l.next.items;
  few : length l.next.items ≤ l.count;
}

abbrev pub decreases-loop-alloc : goal.decreases-loop-alloc
decreases-loop-alloc l = l.count - length l.next.items
