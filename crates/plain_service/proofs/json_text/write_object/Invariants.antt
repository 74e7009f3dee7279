-- The members up to here were written.
use Rattle.std.proofs.Common.{◌∷◌, take}
use Rattle.std.specs.Prelude.{flat_map}
use Rattle.json.specs.Token.{begin_object}
use Rattle.plain_service.specs.JsonText.{AddsTokens}
use Rattle.plain_service.proofs.WritingLemmas.{member_tokens}
use Rattle.plain_service.proofs.json_text.write_object.Given as goal

abbrev pub invariant-loop-name : goal.invariant-loop-name
invariant-loop-name l = AddsTokens l.fn.out l.out (begin_object ∷ flat_map member_tokens (take l.name-index l.members))
