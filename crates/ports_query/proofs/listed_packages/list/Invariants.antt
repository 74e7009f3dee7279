-- What is listed so far are the packages of the roots up to here.
use Rattle.std.proofs.Common.{◌≡◌, take}
use Rattle.ports_query.specs.ListedPackages.{listed_packages, test_seen}
use Rattle.ports_query.proofs.listed_packages.list.Given as goal

abbrev pub invariant-loop-root : goal.invariant-loop-root
invariant-loop-root l = l.listed.items ≡ listed_packages (test_seen l.test) (take l.root-index l.roots)
