use Rattle.std.proofs.Common.{◌++◌, Some, option_map, sym, ap, ◌∙◌, arith, drop, append-nil}
use Rattle.mk_cond_tree.specs.Scanner.{walk}
use Rattle.mk_cond_tree.proofs.Scans.{walk-blank, walk-token, walk-refused, walk-done, token-added}
use Rattle.mk_cond_tree.proofs.Pieces.{walk-tokens}
use Rattle.mk_cond_tree.proofs.scanner.tokens.Goals as goal

pub loop-at-preserved-then-is_blank : goal.loop-at-preserved-then-is_blank
loop-at-preserved-then-is_blank c = (
  ap (option_map (λ later. c.loop-at.found.items ++ later)) (walk-blank c.args.bytes.now c.loop-at.at c.loop-at-test.true
      c.if-is_blank.ensures) ∙ c.loop-at.invariant.0,
  omega arith,
)

pub loop-at-preserved : goal.loop-at-preserved
loop-at-preserved c =
    let bytes = c.args.bytes.now in
    let later = walk c.in-Some.end 0 (drop c.in-Some.end bytes) in (
      ap (λ l. option_map (λ tokens. l ++ tokens) later) c.in_ok-push.ensures.items
          ∙ token-added c.loop-at.found.items c.in-Some.token later
          ∙ ap (option_map (λ tokens. c.loop-at.found.items ++ tokens))
          (walk-token bytes c.loop-at.at c.in-Some.token c.in-Some.end c.loop-at-test.true c.if-is_blank.ensures c.in-Some.ensures.token
          c.in-Some.ensures.within.0)
          ∙ c.loop-at.invariant.0,
      c.in-Some.ensures.within.1,
    )

pub returns-in_default : goal.returns-in_default
returns-in_default c =
    sym (ap (option_map (λ later. c.loop-at.found.items ++ later)) (walk-refused c.args.bytes.now c.loop-at.at c.loop-at-test.true
    c.if-is_blank.ensures c.in_default.ensures.token))
    ∙ c.loop-at.invariant.0 ∙ walk-tokens c.args.bytes.now

pub returns : goal.returns
returns c =
    ap Some (sym (append-nil c.loop-at.found.items))
    ∙ sym (ap (option_map (λ later. c.loop-at.found.items ++ later)) (walk-done c.args.bytes.now c.loop-at.at c.loop-at-test.false))
    ∙ c.loop-at.invariant.0 ∙ walk-tokens c.args.bytes.now
