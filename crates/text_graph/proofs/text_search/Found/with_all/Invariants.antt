-- The texts up to here are added.
use Rattle.std.proofs.Common.{◌≡◌, take, length}
use Rattle.text_graph.specs.Numbers.{numbers_added, KnowsItsNumbers}
use Rattle.text_graph.proofs.text_search.Found.with_all.Given as goal

abbrev pub invariant-loop-number : goal.invariant-loop-number
invariant-loop-number l = record {
  numbers : l.found.numbers.items ≡ numbers_added l.fn.self.numbers.items (take l.number-index l.numbers);
  knows : KnowsItsNumbers l.found;
  count : length l.found.known.items ≡ length l.fn.self.known.items;
}
