use Rattle.std.proofs.Common.{string_bytes}
use Rattle.index_row.specs.Reads.{text}
use Rattle.index_row.proofs.Walks.{Written-seen, Written-all}
use Rattle.index_row.proofs.text_lists.put_texts.Goals as goal

pub loop-text-preserved : goal.loop-text-preserved
loop-text-preserved c =
    Written-seen text string_bytes c.args.written.now c.loop-text.text-index _ _ _ c.text-item.result _ c.loop-text-test.true c.text-item.is
    c.deref.ensures c.in_ok-write_text.ensures
    c.loop-text.invariant

pub returns : goal.returns
returns c = Written-all text string_bytes c.args.written.now _ _ _ c.loop-text-test.false c.loop-text.invariant
