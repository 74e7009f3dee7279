use Rattle.std.proofs.Common.{◌∙◌, sym, ap}
use Rattle.port_rules.specs.Packages.{is_named_subpackage}
use Rattle.port_rules.proofs.Everywhere.{all-pass, one-fails}
use Rattle.port_rules.proofs.packages.are_named.Goals as goal

pub returns-then-not-is_named : goal.returns-then-not-is_named
returns-then-not-is_named c =
    one-fails is_named_subpackage c.args.words.now c.loop-word.word-index c.word-item.result c.loop-word-test.true c.word-item.is
    (sym (c.if-not-is_named.ensures ∙ ap is_named_subpackage c.deref.ensures))

pub returns : goal.returns
returns c = all-pass is_named_subpackage c.args.words.now c.loop-word.word-index c.loop-word-test.false c.loop-word.invariant
