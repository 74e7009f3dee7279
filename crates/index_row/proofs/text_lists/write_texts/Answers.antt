use Rattle.std.proofs.lemmas.Result.{on_ok_weaker}
use Rattle.index_row.specs.Reads.{text}
use Rattle.index_row.proofs.Walks.{Adds-list}
use Rattle.index_row.proofs.text_lists.write_texts.Goals as goal

pub returns : goal.returns
returns c = on_ok_weaker c.put_texts.result (λ put. Adds-list text _ _ _ _ _ c.in_ok-write_number.ensures put) c.put_texts.ensures
