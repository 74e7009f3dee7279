use Rattle.std.proofs.Common.{subst, List, map, String, Global, string_bytes}
use Rattle.std.proofs.lemmas.Result.{on_ok_weaker}
use Rattle.index_row.specs.Reads.{texts}
use Rattle.index_row.specs.Answers.{Adds}
use Rattle.index_row.proofs.RowBytes.{Adds-row}
use Rattle.index_row.proofs.rows.write_parts.Goals as goal

pub returns : goal.returns
returns c =
    on_ok_weaker c.write_texts.result
    (λ last. Adds-row _ _ _ _ _ _ _ c.in_ok-write_outcome.ensures c.in_ok-write_number.ensures
    (subst (λ (names : List (String Global)). Adds texts c.write_number.new.out.items c.write_texts.new.out.items (map string_bytes names))
    c.deref.ensures.value last))
    c.write_texts.ensures
