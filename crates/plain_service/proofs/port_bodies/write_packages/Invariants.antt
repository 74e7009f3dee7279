-- The packages up to here were written.
use Rattle.std.proofs.Common.{◌∷◌, codes, take, map}
use Rattle.std.specs.Prelude.{flat_map}
use Rattle.json.specs.Token.{begin_array, key}
use Rattle.plain_service.specs.PortBody.{package_body}
use Rattle.plain_service.specs.JsonText.{AddsTokens, value_tokens}
use Rattle.plain_service.proofs.port_bodies.write_packages.Given as goal

abbrev pub invariant-loop-one : goal.invariant-loop-one
invariant-loop-one l =
    AddsTokens l.fn.out l.out (key (codes "packages") ∷ begin_array ∷ flat_map value_tokens
    (map package_body (take l.one-index l.packages)))
