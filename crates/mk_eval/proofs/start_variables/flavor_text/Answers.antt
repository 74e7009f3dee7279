-- The copies, put in order, are joined.
use Rattle.std.proofs.Common.{◌∙◌, map, string_bytes, codes, ap}
use Rattle.text_parts.specs.Order.{in_order}
use Rattle.mk_eval.proofs.Joining.{joined-between}
use Rattle.mk_eval.proofs.start_variables.flavor_text.Goals as goal

pub returns : goal.returns
returns c =
    joined-between c.join.result (codes " ") c.as_slice.result.now (in_order (map string_bytes c.args.flavors.now))
    (ap (map string_bytes) c.as_slice.ensures.value ∙ c.put_in_order.ensures ∙ ap in_order c.in_ok-texts.ensures) c.join.ensures.ok
