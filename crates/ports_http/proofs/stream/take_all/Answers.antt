use Rattle.ports_http.proofs.DecodeLemmas.{found_falls, so_far_on}
use Rattle.ports_http.proofs.stream.take_all.Goals as goal

pub taking-smaller : goal.taking-smaller
taking-smaller c =
    let takes = rw c.in-Ok-Some.field-0-is at c.in-Ok-Some.ensures in
    found_falls c.taking.conn c.in-Ok-Some.found c.next_request.new.self takes

pub taking-preserved : goal.taking-preserved
taking-preserved c = λ stream so_far.
    let takes = rw c.in-Ok-Some.field-0-is at c.in-Ok-Some.ensures in
    let on = so_far_on stream c.taking.conn c.next_request.new.self c.in-Ok-Some.found c.taking.decoded.requests.items c.taking.decoded.end
    takes (c.taking.invariant stream so_far) in
    rw (c.in_ok-note-in-Ok-Some.ensures.requests, c.in_ok-note-in-Ok-Some.ensures.end) on
