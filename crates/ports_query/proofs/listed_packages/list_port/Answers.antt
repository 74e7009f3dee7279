-- A package more, which is listed if it passes the test.
use Rattle.std.proofs.Common.{◌∙◌, ap, cond, ◌++◌, ◌∷◌, []}
use Rattle.port_rules.specs.Packages.{PackageValue}
use Rattle.ports_query.specs.ListedPackages.{listed_at, test_seen}
use Rattle.ports_query.proofs.Steps.{kept-more}
use Rattle.ports_query.proofs.listed_packages.list_port.Goals as goal

pub loop-found-preserved : goal.loop-found-preserved
loop-found-preserved c =
    let test = test_seen c.args.test c.args.path.now c.args.port.now in
    let before = c.loop-found.listed.items in
    kept-more test (listed_at c.args.path.now) c.packages-found-items.result.now c.loop-found.found-index c.found-item.result
    c.args.listed.now.items before c.list_package.new.listed.items c.loop-found-test.true
    c.loop-found.invariant
    (c.in_ok-list_package.ensures ∙ ap (λ (found : PackageValue). cond (test found) (before ++ listed_at c.args.path.now found ∷ []) before)
    c.found-item.is)
