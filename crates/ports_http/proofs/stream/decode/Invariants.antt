use Rattle.std.proofs.Common.{take, flat_map}
use Rattle.ports_http.specs.DecodedStream.{WaitsOrIsOver, DecodedSoFar}
use Rattle.ports_http.proofs.stream.decode.Given as goal

abbrev pub invariant-loop-piece : goal.invariant-loop-piece
invariant-loop-piece l = record {
  settled : WaitsOrIsOver l.conn;
  decoded : DecodedSoFar (flat_map (λ piece. piece.items) (take l.piece-index l.pieces)) l.conn l.decoded.requests.items l.decoded.end;
}
