use Rattle.std.proofs.Common.{refl}
use Rattle.mk_step.proofs.Skipping.{skips-one, skips-all, costs-one}
use Rattle.mk_step.proofs.blank_lines.skip_blank_lines.Goals as goal

pub loop-at-init : goal.loop-at-init
loop-at-init c = λ site others files makefile s a. refl

pub loop-at-preserved : goal.loop-at-preserved
loop-at-preserved c = λ site others.
    skips-one c.args.nodes.now c.args.from c.loop-at.at c.index-nodes-at.result site others c.loop-at-test.true c.index-nodes-at.is
    (c.is_blank.ensures.blank c.if-not-is_blank.false) (c.loop-at.invariant site others)

pub returns-then-not-is_blank-clause-costs : goal.returns-then-not-is_blank-clause-costs
returns-then-not-is_blank-clause-costs c = λ site within.
    costs-one c.args.nodes.now c.loop-at.at c.index-nodes-at.result site within c.index-nodes-at.is
    (c.is_blank.ensures.other c.if-not-is_blank.true)

pub returns-clause-alike : goal.returns-clause-alike
returns-clause-alike c = λ site others. skips-all c.args.nodes.now c.args.from c.loop-at.at site others c.loop-at-test.false
    (c.loop-at.invariant site others)
