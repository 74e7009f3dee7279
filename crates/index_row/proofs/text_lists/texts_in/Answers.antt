use Rattle.std.proofs.Common.{string_bytes}
use Rattle.std.proofs.lemmas.Result.{err_from_is_err_and}
use Rattle.std.proofs.lemmas.List.{map_push}
use Rattle.index_row.specs.Reads.{text}
use Rattle.index_row.proofs.Walks.{reads-on, reads-fail, reads-end}
use Rattle.index_row.proofs.text_lists.texts_in.Goals as goal

pub returns-in_err-text : goal.returns-in_err-text
returns-in_err-text c =
    let p = err_from_is_err_and c.from_residual-in_err-text.result c.from_residual-in_err-text.ensures.1 in
    rw (p.1, p.2)
    (reads-fail text c.in_err-text.field-0.0 _ c.args.count c.loop.counter _ _ c.loop-test.true c.in_err-text.ensures c.loop.invariant)

pub loop-preserved : goal.loop-preserved
loop-preserved c =
    rw (c.in_ok-push.ensures.items, map_push string_bytes c.loop.found.items c.in_ok-text.text)
    (reads-on text _ c.args.count c.loop.counter _ _ _ _ c.loop-test.true c.in_ok-text.ensures c.loop.invariant)

pub returns : goal.returns
returns c = reads-end text _ c.args.count c.loop.counter _ _ c.loop-test.false c.loop.invariant
