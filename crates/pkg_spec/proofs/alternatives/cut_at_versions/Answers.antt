-- That versions begin after the dash is the test.
use Rattle.std.proofs.Common.{◌∙◌, ap}
use Rattle.pkg_spec.specs.Alternatives.{begins_versions}
use Rattle.pkg_spec.proofs.alternatives.cut_at_versions.Goals as goal

pub returns : goal.returns
returns c = c.cut_where.ensures begins_versions (λ text answer at. at.says.met ∙ ap begins_versions at.shows)
