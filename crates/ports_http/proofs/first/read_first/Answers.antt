use Rattle.std.proofs.Common.{refl, ap, inl, inr, Err}
use Rattle.ports_http.specs.Limits.{head_limit, field_limit}
use Rattle.ports_http.proofs.StreamLemmas.{covers_front}
use Rattle.ports_http.proofs.first.read_first.Goals as goal

pub after_head-requires : goal.after_head-requires
unfolding field_limit
after_head-requires c =
    let within = rw (c.in-Ok-Complete.field-0-is, c.front.ensures) at c.in-Ok-Complete.ensures.within in
    let at = rw (c.in-Ok-Complete.field-0-is, c.front.ensures) at c.in-Ok-Complete.ensures.complete in
    (at.0, covers_front c.args.unread.now c.parse_request.new.headers c.in-Ok-Complete.spans at.0 c.parse_request.auto.headers within at.1)

pub returns-in-TooManyHeaders : goal.returns-in-TooManyHeaders
unfolding field_limit
returns-in-TooManyHeaders c =
    let no_room = rw c.front.ensures at c.in-Err.ensures.no_room in
    let too_many = rw c.front.ensures at c.in-Err.ensures.too_many in
    inr (inl (refl, inr (inl (no_room, too_many (ap Err c.in-TooManyHeaders.is)))))
