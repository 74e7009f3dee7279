use Rattle.plain_service.proofs.WritingLemmas.{object_added}
use Rattle.plain_service.proofs.json_text.write_object.Goals as goal

pub returns : goal.returns
returns c = object_added c.args.members.now c.loop-name.name-index c.loop-name-test.false c.loop-name.invariant c.end_object.ensures
