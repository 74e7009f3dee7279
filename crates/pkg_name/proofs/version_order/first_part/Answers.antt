-- The first part ends before the first dot; what is on either side has short numbers as the text has.
use Rattle.pkg_name.proofs.ShortNumbers.{short-take, short-drop}
use Rattle.pkg_name.proofs.PartCuts.{last_part, next_part_cut}
use Rattle.pkg_name.proofs.version_order.first_part.Goals as goal

pub returns-then-end-text-clause-parts : goal.returns-then-end-text-clause-parts
returns-then-end-text-clause-parts c = last_part c.args.text.now c.dot_or_end-end.result c.dot_or_end-end.ensures.value c.if-end-text.true

pub returns-else-end-text-clause-parts : goal.returns-else-end-text-clause-parts
returns-else-end-text-clause-parts c =
    next_part_cut c.args.text.now c.dot_or_end-end.result c.dot_or_end-end.ensures.value c.dot_or_end-end.ensures.bound c.if-end-text.false

pub returns-else-end-text-clause-short : goal.returns-else-end-text-clause-short
returns-else-end-text-clause-short c = short-take c.dot_or_end-end.result c.args.text.now c.requires.short

pub returns-else-end-text-clause-after_short : goal.returns-else-end-text-clause-after_short
returns-else-end-text-clause-after_short c = short-take _ _ (short-drop _ c.args.text.now c.requires.short)
