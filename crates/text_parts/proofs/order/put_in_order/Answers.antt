-- What a sort and a `dedup` leave.
use Rattle.std.proofs.lemmas.List.Filters.{dedup_is}
use Rattle.std.specs.String.{string_bytes}
use Rattle.text_parts.specs.Ordered.{sorted_once}
use Rattle.text_parts.proofs.order.put_in_order.Goals as goal

pub returns : goal.returns
returns c = sorted_once string_bytes _ _ _ c.sort_unstable.ensures.permutation c.sort_unstable.ensures.sorted
    (dedup_is _ _ _ c.dedup.ensures.filtered)
