-- The text is cut where its operator begins.
use Rattle.std.proofs.Common.{◌∙◌, ap, arith, length}
use Rattle.ports_query.specs.Conditions.{plain_length}
use Rattle.ports_query.proofs.FirstOperator.{boundary}
use Rattle.ports_query.proofs.conditions.Condition.read.Goals as goal

pub split_at-requires : goal.split_at-requires
split_at-requires c =
    boundary c.args.text.now c.plain_length.result (c.plain_length.ensures.length ∙ ap plain_length c.as_bytes.ensures.value)
    (omega (arith, ap length c.as_bytes.ensures.value))
