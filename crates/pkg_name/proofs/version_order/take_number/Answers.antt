-- What a text begins with, and what follows it, has short numbers as the text has.
use Rattle.std.specs.Char.{is_ascii_digit}
use Rattle.pkg_name.proofs.ShortNumbers.{short-take, short-drop, short-digits, prefix_passes}
use Rattle.pkg_name.proofs.version_order.take_number.Goals as goal

pub number-requires-clause-digits : goal.number-requires-clause-digits
number-requires-clause-digits c = rw (c.split_at.ensures.front, c.digits_at_front.ensures.value)
    (prefix_passes is_ascii_digit c.args.text.now)

pub number-requires-clause-few : goal.number-requires-clause-few
number-requires-clause-few c =
    rw (c.split_at.ensures.front, c.digits_at_front.ensures.value)
    (short-digits _ (prefix_passes is_ascii_digit c.args.text.now) (short-take _ c.args.text.now c.requires.short))

pub returns-clause-short : goal.returns-clause-short
returns-clause-short c = rw c.split_at.ensures.back (short-drop _ c.args.text.now c.requires.short)
