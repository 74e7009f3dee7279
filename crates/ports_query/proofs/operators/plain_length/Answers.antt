-- From place to place.
use Rattle.std.proofs.Common.{◌∙◌, sym, ap}
use Rattle.std.proofs.lemmas.List.{take_rest}
use Rattle.std.specs.Option.{is_some}
use Rattle.ports_query.specs.Conditions.{operator_at}
use Rattle.ports_query.proofs.FirstOperator.{from-on, from-here, from-end}
use Rattle.ports_query.proofs.operators.plain_length.Goals as goal

pub loop-at-preserved : goal.loop-at-preserved
loop-at-preserved c =
    from-on c.args.text.now c.loop-at.at c.loop-at-test.true
    (ap (λ text. is_some (operator_at text)) (sym (take_rest c.args.text.now c.loop-at.at)) ∙ sym c.begins_with_operator.ensures
    ∙ c.if-begins_with_operator.false) c.loop-at.invariant

pub returns-then-begins_with_operator-clause-length : goal.returns-then-begins_with_operator-clause-length
returns-then-begins_with_operator-clause-length c =
    from-here c.args.text.now c.loop-at.at c.loop-at-test.true
    (ap (λ text. is_some (operator_at text)) (sym (take_rest c.args.text.now c.loop-at.at)) ∙ sym c.begins_with_operator.ensures
    ∙ c.if-begins_with_operator.true) c.loop-at.invariant

pub returns-clause-length : goal.returns-clause-length
returns-clause-length c = from-end c.args.text.now c.loop-at.at c.loop-at-test.false c.loop-at.auto.at-end c.loop-at.invariant
