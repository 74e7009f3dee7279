use Rattle.std.proofs.Common.{◌∙◌, ◌||◌, sym, ap, string_bytes}
use Rattle.port_rules.specs.TextSets.{holds}
use Rattle.port_rules.proofs.Everywhere.{all-pass, one-fails}
use Rattle.port_rules.proofs.flavors.are_known.Goals as goal

pub returns-then-not-contains-2 : goal.returns-then-not-contains-2
returns-then-not-contains-2 c =
    one-fails (λ text. holds c.args.one.now text || holds c.args.other.now text) c.args.texts.now c.loop-text.text-index c.text-item.result
    c.loop-text-test.true c.text-item.is
    (ap (λ found. found || holds c.args.other.now (string_bytes c.text-item.result))
    (sym (c.if-not-contains.ensures ∙ ap (holds c.args.one.now) c.deref.ensures))
    ∙ sym (c.if-not-contains-2.ensures ∙ ap (holds c.args.other.now) c.deref-then-not-contains.ensures))

pub returns : goal.returns
returns c =
    all-pass (λ text. holds c.args.one.now text || holds c.args.other.now text) c.args.texts.now c.loop-text.text-index
    c.loop-text-test.false c.loop-text.invariant
