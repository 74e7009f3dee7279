-- The items so far are the packages up to here.
use Rattle.std.proofs.Common.{map, take, codes}
use Rattle.plain_service.specs.ListBodies.{listed_body}
use Rattle.plain_service.specs.JsonText.{HasItems}
use Rattle.plain_service.proofs.list_bodies.packages.Given as goal

abbrev pub invariant-loop-one : goal.invariant-loop-one
invariant-loop-one l = HasItems l.out (codes "packages") (map listed_body (take l.one-index l.packages))
