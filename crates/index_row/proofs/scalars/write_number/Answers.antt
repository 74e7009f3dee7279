use Rattle.std.proofs.Common.{◌∙◌, ap, ◌++◌}
use Rattle.index_row.proofs.Adding.{Adds-number}
use Rattle.index_row.proofs.scalars.write_number.Goals as goal

pub returns : goal.returns
returns c = Adds-number _ _ _ c.ranges.value.fits (c.in_ok-extend_from_slice.ensures.items
    ∙ ap (λ digits. c.args.out.now.items ++ digits) c.to_le_bytes.ensures)
