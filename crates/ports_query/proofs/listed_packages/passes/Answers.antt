-- All conditions of the query are met.
use Rattle.std.proofs.Common.{◌∙◌, sym, ap}
use Rattle.std.proofs.lemmas.List.Folds.{list_all-map}
use Rattle.std.proofs.lemmas.Result.{IfOk-weaker}
use Rattle.std.specs.List.{list_all}
use Rattle.ports_query.specs.Conditions.{condition_seen}
use Rattle.ports_query.specs.ListedPackages.{passes}
use Rattle.ports_query.specs.Candidate.{meets}
use Rattle.ports_query.proofs.listed_packages.passes.Goals as goal

pub returns-in-Meets : goal.returns-in-Meets
returns-in-Meets c =
    let candidate = c.args.candidate in
    let met = meets candidate.path.now candidate.port.now candidate.found.now in
    let same = sym (list_all-map met condition_seen c.conditions.result.now) ∙ ap (list_all met) c.conditions.ensures
    ∙ ap (λ test. passes test candidate) (sym c.in-Meets.is) in
    IfOk-weaker c.meets_all.result _ _ (λ all is. is ∙ same) c.meets_all.ensures
