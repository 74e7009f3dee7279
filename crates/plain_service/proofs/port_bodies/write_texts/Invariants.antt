-- The texts up to here were written.
use Rattle.std.proofs.Common.{◌∷◌, take, map, string_bytes}
use Rattle.std.specs.Prelude.{flat_map}
use Rattle.json.specs.Token.{begin_array, key}
use Rattle.serde_json.specs.Data.{string}
use Rattle.plain_service.specs.JsonText.{AddsTokens, value_tokens}
use Rattle.plain_service.proofs.port_bodies.write_texts.Given as goal

abbrev pub invariant-loop-text : goal.invariant-loop-text
invariant-loop-text l =
    AddsTokens l.fn.out l.out
    (key l.name ∷ begin_array ∷ flat_map value_tokens (map (λ text. string (string_bytes text)) (take l.text-index l.texts)))
