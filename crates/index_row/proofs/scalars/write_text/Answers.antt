use Rattle.std.proofs.Common.{◌∙◌, ap, ◌++◌}
use Rattle.index_row.proofs.Adding.{Adds-text}
use Rattle.index_row.proofs.scalars.write_text.Goals as goal

pub returns : goal.returns
returns c =
    Adds-text _ _ _ _ c.utf8.written c.in_ok-write_number.ensures
    (c.in_ok-extend_from_slice.ensures.items ∙ ap (λ bytes. c.write_number.new.out.items ++ bytes) c.as_bytes.ensures.value)
