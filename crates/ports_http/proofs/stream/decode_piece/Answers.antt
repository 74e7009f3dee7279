use Rattle.std.proofs.Common.{◌≡◌, ◌++◌, [], length, subst, sym, ap, ◌∙◌, refl, arith, append-nil, append_assoc}
use Rattle.std.proofs.lemmas.List.{take-append-drop}
use Rattle.ports_http.specs.DecodedStream.{DecodedSoFar}
use Rattle.ports_http.proofs.DecodeLemmas.{fed_on, over_stays, settled_has_room, not_empty}
use Rattle.ports_http.proofs.stream.decode_piece.Goals as goal

pub feeding-init : goal.feeding-init
feeding-init c = record { settled = c.requires; front = []; whole = refl; decoded = λ stream so_far. rw append-nil so_far }

pub feeding-smaller : goal.feeding-smaller
feeding-smaller c =
    let room = settled_has_room c.feeding.conn (sym c.if-not-is_over.ensures) c.feeding.invariant.settled in
    let some = not_empty (length c.feeding.rest.now) c.feeding-test.ensures in
    omega (arith, room, some, c.room.ensures, c.min.ensures, c.split_at.ensures.back_len)

pub feeding-preserved : goal.feeding-preserved
feeding-preserved c =
    let now = c.split_at.result.0.now in
    let later = c.split_at.result.1.now in
    let parts : now ++ later ≡ c.feeding.rest.now =
    rw (c.split_at.ensures.front, c.split_at.ensures.back) (take-append-drop _ c.feeding.rest.now) in
    let front = c.feeding.invariant.front in
    record {
      settled = c.in_ok-take_all.ensures.settled;
      front = front ++ now;
      whole = append_assoc front now later ∙ ap (λ t. front ++ t) parts ∙ c.feeding.invariant.whole;
      decoded = λ stream so_far.
          let on = fed_on (stream ++ front) c.feeding.conn c.feeding.decoded.requests.items c.feeding.decoded.end now
          (sym c.if-not-is_over.ensures) (c.feeding.invariant.decoded stream so_far) in
          let fed_so = subst (λ n. DecodedSoFar ((stream ++ front) ++ now) n c.feeding.decoded.requests.items c.feeding.decoded.end)
          (sym c.feed.ensures) on in
          rw (← append_assoc stream front now) (c.in_ok-take_all.ensures.decoded ((stream ++ front) ++ now) fed_so);
    }

pub returns-else-not-is_over-clause-decoded : goal.returns-else-not-is_over-clause-decoded
returns-else-not-is_over-clause-decoded c = λ stream so_far.
    let front = c.feeding.invariant.front in
    let over = over_stays (stream ++ front) c.feeding.conn c.feeding.decoded.requests.items c.feeding.decoded.end c.feeding.rest.now
    (sym c.if-not-is_over.ensures) (c.feeding.invariant.decoded stream so_far) in
    subst (λ t. DecodedSoFar t c.feeding.conn c.feeding.decoded.requests.items c.feeding.decoded.end)
    (append_assoc stream front c.feeding.rest.now ∙ ap (λ t. stream ++ t) c.feeding.invariant.whole) over
