-- What a sort and a `dedup` leave.
use Rattle.std.proofs.Common.{ℕ, List, Bor}
use Rattle.std.proofs.lemmas.List.Filters.{dedup_is}
use Rattle.text_parts.specs.Ordered.{sorted_once}
use Rattle.text_graph.proofs.reach.put_in_order.Goals as goal

pub returns : goal.returns
returns c = sorted_once (λ (text : Bor (List ℕ)). text.now) _ _ _ c.sort_unstable.ensures.permutation c.sort_unstable.ensures.sorted
    (dedup_is _ _ _ c.dedup.ensures.filtered)
