use Rattle.std.proofs.Common.{◌∙◌, sym, ap, arith, rules, Ok, []}
use Rattle.std.proofs.lemmas.List.{append-nil}
use Rattle.std.proofs.lemmas.Result.{err_from_is_err_and}
use Rattle.portsd_text.specs.Scripts.{put_before, numbered}
use Rattle.portsd_text.proofs.ScriptFacts.{events_from-line, events_from-end, events_from-cut, script_of-begins, IsFaultOf-before}
use Rattle.portsd_text.proofs.script.read_lines.Goals as goal

pub loop-front-init : goal.loop-front-init
loop-front-init c = record {
  paired = search rules;
  same = script_of-begins _ _ c.args.whole c.args.text.now c.new.ensures.items;
  bounded = omega arith;
}

pub loop-front-preserved : goal.loop-front-preserved
loop-front-preserved c =
    let loop = c.loop-front in
    let step = events_from-line c.args.whole loop.line loop.rest.now c.in-Some.front.now c.in-Some.later.now c.in-Some.ensures.lines in
    record {
      paired = c.in_ok-push_line.ensures.paired;
      same = sym (c.in_ok-push_line.ensures.ok _) ∙ ap (put_before (numbered loop.script)) (sym step) ∙ loop.invariant.same;
      bounded = omega (arith, c.in-Some.ensures.shorter);
    }

pub returns-in_err-push_line-clause-err : goal.returns-in_err-push_line-clause-err
returns-in_err-push_line-clause-err c =
    let loop = c.loop-front in
    let step = events_from-line c.args.whole loop.line loop.rest.now c.in-Some.front.now c.in-Some.later.now c.in-Some.ensures.lines in
    let p = err_from_is_err_and c.from_residual.result c.from_residual.ensures.1 in
    rw (p.1, p.2, ← loop.invariant.same, step) (IsFaultOf-before (numbered loop.script) _ _ (c.in_err-push_line.ensures.err _))

pub returns-then-not-whole-clause-err : goal.returns-then-not-whole-clause-err
returns-then-not-whole-clause-err c =
    let loop = c.loop-front in
    let last = events_from-cut c.args.whole loop.line loop.rest.now (search rules) c.in_default.ensures.lines in
    sym loop.invariant.same ∙ ap (put_before (numbered loop.script)) last

pub returns-in_err-push_line-2-clause-err : goal.returns-in_err-push_line-2-clause-err
returns-in_err-push_line-2-clause-err c =
    let loop = c.loop-front in
    let last = events_from-end c.args.whole loop.line loop.rest.now (search rules) c.in_default.ensures.lines in
    let p = err_from_is_err_and c.from_residual-in_err-push_line-2.result c.from_residual-in_err-push_line-2.ensures.1 in
    rw (p.1, p.2, ← loop.invariant.same, last) (IsFaultOf-before (numbered loop.script) _ _ (c.in_err-push_line-2.ensures.err _))

pub returns-clause-ok : goal.returns-clause-ok
returns-clause-ok c =
    let loop = c.loop-front in
    let last = events_from-end c.args.whole loop.line loop.rest.now (search rules) c.in_default.ensures.lines in
    sym loop.invariant.same ∙ ap (put_before (numbered loop.script)) last ∙ c.in_ok-push_line-2.ensures.ok (Ok [])
    ∙ ap Ok (append-nil (numbered c.push_line-2.new.script))
