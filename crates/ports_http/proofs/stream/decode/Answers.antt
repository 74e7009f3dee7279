use Rattle.std.proofs.Common.{subst, ap, ◌∙◌}
use Rattle.std.proofs.lemmas.List.{take_all}
use Rattle.ports_http.specs.DecodedStream.{DecodedSoFar}
use Rattle.ports_http.proofs.DecodeLemmas.{settled_decodes, pieces_next}
use Rattle.ports_http.proofs.stream.decode.Goals as goal

pub loop-piece-preserved : goal.loop-piece-preserved
loop-piece-preserved c =
    let so_far = c.in_ok-decode_piece.ensures.decoded _ c.loop-piece.invariant.decoded in
    record {
      settled = c.in_ok-decode_piece.ensures.settled;
      decoded = subst (λ s. DecodedSoFar s c.decode_piece.new.conn c.decode_piece.new.decoded.requests.items c.decode_piece.new.decoded.end)
          (pieces_next (λ piece. piece.items) c.args.pieces.now c.loop-piece.piece-index _ _ c.loop-piece-test.true
          (c.as_slice.ensures.value ∙ ap (λ v. v.items) c.piece-item.is)) so_far;
    }

pub returns : goal.returns
returns c =
    let all = take_all c.loop-piece.piece-index c.args.pieces.now c.loop-piece-test.false in
    let so_far = rw all at c.loop-piece.invariant.decoded in
    settled_decodes _ c.loop-piece.conn c.loop-piece.decoded.requests.items c.loop-piece.decoded.end c.loop-piece.invariant.settled so_far
