-- A digit after the dash is the test.
use Rattle.std.proofs.Common.{◌∙◌, ap}
use Rattle.pkg_name.specs.Version.{begins_with_digit}
use Rattle.pkg_name.proofs.name.cut_at_version.Goals as goal

pub returns : goal.returns
returns c = c.cut_where.ensures begins_with_digit (λ text answer at. at.says.met ∙ ap begins_with_digit at.shows)
