-- The packages up to here are listed.
use Rattle.std.proofs.Common.{◌≡◌, ◌++◌, map, filter, take}
use Rattle.ports_query.specs.ListedPackages.{listed_at, test_seen}
use Rattle.ports_query.proofs.listed_packages.list_port.Given as goal

abbrev pub invariant-loop-found : goal.invariant-loop-found
invariant-loop-found l =
    l.listed.items ≡ l.fn.listed.items ++ map (listed_at l.path)
    (filter (test_seen l.test l.path l.port) (take l.found-index l.found-items))
