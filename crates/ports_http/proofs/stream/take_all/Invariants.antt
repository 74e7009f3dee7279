use Rattle.std.proofs.Common.{ℕ, List}
use Rattle.ports_http.specs.DecodedStream.{DecodedSoFar}
use Rattle.ports_http.proofs.DecodeLemmas.{left_of}
use Rattle.ports_http.proofs.stream.take_all.Given as goal

abbrev pub invariant-taking : goal.invariant-taking
invariant-taking l =
    (stream : List ℕ) → DecodedSoFar stream l.initial.conn l.initial.decoded.requests.items l.initial.decoded.end
    → DecodedSoFar stream l.conn l.decoded.requests.items l.decoded.end

abbrev pub decreases-taking : goal.decreases-taking
decreases-taking l = left_of l.conn
