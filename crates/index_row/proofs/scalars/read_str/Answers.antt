use Rattle.std.proofs.Common.{◌∙◌, ap, sym, Some}
use Rattle.index_row.proofs.Adding.{text-by, utf8_text-good, utf8_text-bad}
use Rattle.index_row.proofs.scalars.read_str.Goals as goal

pub returns-in-Ok : goal.returns-in-Ok
returns-in-Ok c =
    text-by _ _ _ _ _ _ c.in_ok-count.ensures c.in_ok-front.ensures
    (utf8_text-good _ _ c.in-Ok.ensures.cases.1 ∙ ap (λ found. Some (found, c.in_ok-front.rest.now)) (sym c.in-Ok.ensures.cases.0))

pub returns-in-Err : goal.returns-in-Err
returns-in-Err c = text-by _ _ _ _ _ _ c.in_ok-count.ensures c.in_ok-front.ensures (utf8_text-bad _ _ c.in-Err.ensures.cases.0)
