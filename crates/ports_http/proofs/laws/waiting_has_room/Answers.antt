use Rattle.ports_http.proofs.StreamLaws.{waiting_has_room}
use Rattle.ports_http.proofs.laws.waiting_has_room.Goals as goal

pub returns : goal.returns
returns c = waiting_has_room
