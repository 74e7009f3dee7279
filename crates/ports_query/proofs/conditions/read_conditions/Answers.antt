-- One text more, which is a condition or isn't.
use Rattle.std.proofs.Common.{map}
use Rattle.ports_query.specs.Conditions.{condition_seen}
use Rattle.ports_query.proofs.Reading.{read-fails, read-more, read-ends}
use Rattle.ports_query.proofs.conditions.read_conditions.Goals as goal

pub returns-in_default : goal.returns-in_default
returns-in_default c =
    read-fails c.args.texts.now c.loop-text.text-index _ (map condition_seen c.loop-text.conditions.items) c.in_ok-condition.field-0
    c.loop-text-test.true c.in_default.is c.in_ok-condition.ensures c.loop-text.invariant

pub loop-text-preserved : goal.loop-text-preserved
loop-text-preserved c =
    read-more c.args.texts.now c.loop-text.text-index _ c.loop-text.conditions.items c.push.new.self.items c.in-Some.condition
    c.in_ok-condition.field-0 c.loop-text-test.true c.in-Some.is c.in_ok-condition.ensures
    c.in_ok-push.ensures.items c.loop-text.invariant

pub returns : goal.returns
returns c = read-ends c.args.texts.now c.loop-text.text-index (map condition_seen c.loop-text.conditions.items)
    c.loop-text-test.false c.loop-text.invariant
