use Rattle.std.proofs.Common.{◌≡◌, ◌++◌, ℕ, List, length}
use Rattle.ports_http.specs.DecodedStream.{WaitsOrIsOver, DecodedSoFar}
use Rattle.ports_http.proofs.stream.decode_piece.Given as goal

abbrev pub invariant-feeding : goal.invariant-feeding
invariant-feeding l = record {
  settled : WaitsOrIsOver l.conn;
  front : List ℕ;
  whole : front ++ l.rest ≡ l.piece;
  decoded : (stream : List ℕ)
      → DecodedSoFar stream l.initial.conn l.initial.decoded.requests.items l.initial.decoded.end
      → DecodedSoFar (stream ++ front) l.conn l.decoded.requests.items l.decoded.end;
}

abbrev pub decreases-feeding : goal.decreases-feeding
decreases-feeding l = length l.rest
