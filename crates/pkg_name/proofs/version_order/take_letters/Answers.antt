-- What follows the letters has short numbers as the text has.
use Rattle.pkg_name.proofs.ShortNumbers.{short-drop}
use Rattle.pkg_name.proofs.version_order.take_letters.Goals as goal

pub returns-clause-short : goal.returns-clause-short
returns-clause-short c = rw c.split_at.ensures.back (short-drop _ c.args.text.now c.requires.short)
