use Rattle.std.proofs.Common.{◌≡◌, ◌∙◌, ◌+◌, ◌||◌, sym, ap, map, take, string_bytes}
use Rattle.std.specs.Str.{bytes_eq}
use Rattle.mk_env.specs.Expansion.{is_among}
use Rattle.port_rules.specs.TextSets.{holds}
use Rattle.port_rules.proofs.Doubles.{has_double-next, has_double-found, is_among-more, not-new, new}
use Rattle.port_rules.proofs.text_sets.has_double.Goals as goal

pub returns-then-not-branch : goal.returns-then-not-branch
returns-then-not-branch c =
    let held = holds c.loop-text.before c.as_str.result.now in
    let among : held ≡ is_among (string_bytes c.text-item.result) (map string_bytes (take c.loop-text.text-index c.args.texts.now)) =
    ap (holds c.loop-text.before) c.as_str.ensures.value ∙ c.loop-text.invariant.held (string_bytes c.text-item.result) in
    sym (has_double-found c.args.texts.now (c.loop-text.text-index + 1)
    (has_double-next c.args.texts.now c.loop-text.text-index c.text-item.result held c.loop-text-test.true c.text-item.is among
    c.loop-text.invariant.apart
    ∙ not-new c.in_ok-insert.field-0 held c.in_ok-insert.ensures.new c.if-not-branch.true))

pub loop-text-preserved : goal.loop-text-preserved
loop-text-preserved c =
    let held = holds c.loop-text.before c.as_str.result.now in
    let among : held ≡ is_among (string_bytes c.text-item.result) (map string_bytes (take c.loop-text.text-index c.args.texts.now)) =
    ap (holds c.loop-text.before) c.as_str.ensures.value ∙ c.loop-text.invariant.held (string_bytes c.text-item.result) in
    record {
      held = λ text. c.in_ok-insert.ensures.more text
          ∙ ap (λ put. bytes_eq text put || holds c.loop-text.before text) c.as_str.ensures.value
          ∙ ap (λ found. bytes_eq text (string_bytes c.text-item.result) || found) (c.loop-text.invariant.held text)
          ∙ sym (is_among-more c.args.texts.now c.loop-text.text-index c.text-item.result text c.loop-text-test.true c.text-item.is);
      apart = has_double-next c.args.texts.now c.loop-text.text-index c.text-item.result held c.loop-text-test.true c.text-item.is among
          c.loop-text.invariant.apart
          ∙ new c.in_ok-insert.field-0 held c.in_ok-insert.ensures.new c.if-not-branch.false;
    }
