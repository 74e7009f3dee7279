-- The numbers are short if those from here on are, with the digits before them.
use Rattle.std.proofs.Common.{◌≡◌, ◌≤◌, drop}
use Rattle.pkg_name.specs.Version.{has_short_numbers}
use Rattle.pkg_name.proofs.ShortNumbers.{fits_after}
use Rattle.pkg_name.proofs.version.numbers_are_short.Given as goal

abbrev pub invariant-loop-byte : goal.invariant-loop-byte
invariant-loop-byte l = (has_short_numbers l.text ≡ fits_after l.digits (drop l.byte-index l.text)) × (l.digits ≤ 18)
