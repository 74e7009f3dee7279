-- The steps over the arrows up to here.
use Rattle.std.proofs.Common.{◌≡◌, ◌<◌, ℕ, [], map, take, length, get_or}
use Rattle.text_graph.specs.Numbers.{next_numbers}
use Rattle.text_graph.proofs.steps.Steps.over.Given as goal

abbrev pub invariant-loop-arrow : goal.invariant-loop-arrow
invariant-loop-arrow l = record {
  count : length l.next.items ≡ l.count;
  next : (number : ℕ) → number < l.count → get_or (map (λ next. next.items) l.next.items) number [] ≡ next_numbers
      (take l.arrow-index l.arrows) number;
}
