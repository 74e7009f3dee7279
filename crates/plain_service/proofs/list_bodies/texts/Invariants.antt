-- The items so far are the texts up to here.
use Rattle.std.proofs.Common.{map, take, string_bytes}
use Rattle.serde_json.specs.Data.{string}
use Rattle.plain_service.specs.JsonText.{HasItems}
use Rattle.plain_service.proofs.list_bodies.texts.Given as goal

abbrev pub invariant-loop-text : goal.invariant-loop-text
invariant-loop-text l = HasItems l.out l.name (map string (map string_bytes (take l.text-index l.texts)))
