-- A whole stream, decoded piece by piece.
use Rattle.std.specs.Prelude.{◌≡◌, ◌≢◌, ℕ, MatchBool, List, [], ◌∷◌, ◌++◌, if◌then◌else◌, Result, Ok, Err, Vec, IfOk}
use Rattle.std.specs.Prelude.{OnOk}
use Rattle.std.specs.Global.{Global}
use Rattle.std.specs.List.{flat_map}
use Rattle.ports_http.specs.declared.fault.HeadFault.{HeadFault}
use Rattle.ports_http.specs.declared.stream.StreamEnd.{StreamEnd}
use Rattle.ports_http.specs.declared.stream.StreamEnd.TheVariants as ends
use Rattle.ports_http.specs.Messages.{RequestMessage}
use Rattle.ports_http.specs.Streams.{End, waiting, refused, closed, Cuts, Begins, Waits}
use Rattle.ports_http.specs.UnreadBytes.{Incoming}
use Rattle.ports_http.specs.declared.stream.Decoded.{Decoded}

-- how a stream ends, if these bytes are left
abbrev pub end_of : StreamEnd → List ℕ → End
end_of ends.Waiting unread = waiting unread
end_of (ends.Refused fault) unread = refused fault
end_of ends.Closed unread = closed

-- the stream is these requests and this end, whatever bytes are left
abbrev pub Decodes : List ℕ → List RequestMessage → StreamEnd → Type 0
Decodes stream requests end = (unread : List ℕ) × Cuts stream requests (end_of end unread)

-- the requests with one more
abbrev pub with_found : List RequestMessage → Result RequestMessage HeadFault → List RequestMessage
with_found requests (Ok request) = requests ++ request ∷ []
with_found requests (Err fault) = requests

-- the end that a request or a head refusal makes
abbrev pub end_after : Result RequestMessage HeadFault → StreamEnd
end_after (Ok request) = if request.close then ends.Closed else ends.Waiting
end_after (Err fault) = ends.Refused fault

-- what is unread waits, or the stream is over
abbrev pub WaitsOrIsOver : Incoming → Type 0
WaitsOrIsOver incoming = MatchBool incoming.over (Unit {0}) (Waits incoming.unread)

-- what was decoded so far: the requests before what is unread, or the whole stream, which is over
abbrev pub DecodedSoFar : List ℕ → Incoming → List RequestMessage → StreamEnd → Type 0
DecodedSoFar stream incoming requests end =
    MatchBool incoming.over ((end ≢ ends.Waiting) × Cuts stream requests (end_of end []))
    ((end ≡ ends.Waiting) × Begins stream requests incoming.unread)

-- where a function succeeds, it decoded this stream
abbrev pub DecodesWhole : {F : Type 0} → Result Decoded F → List (Vec ℕ Global) → Type 0
DecodesWhole result pieces = IfOk result (λ d. Decodes (flat_map (λ piece. piece.items) pieces) d.requests.items d.end)

-- what was decoded of a stream up to a piece is, with what was decoded of the piece, what is decoded behind it
abbrev pub DecodesPiece : {R F : Type 0} → Result R F → List ℕ → Incoming → Incoming → Decoded → Decoded → Type 0
DecodesPiece result piece before after old new =
    OnOk result ((stream : List ℕ) → DecodedSoFar stream before old.requests.items old.end
    → DecodedSoFar (stream ++ piece) after new.requests.items new.end)

-- what was decoded of a stream is still, with what was taken since
abbrev pub DecodesAll : {R F : Type 0} → Result R F → Incoming → Incoming → Decoded → Decoded → Type 0
DecodesAll result before after old new =
    OnOk result ((stream : List ℕ) → DecodedSoFar stream before old.requests.items old.end
    → DecodedSoFar stream after new.requests.items new.end)

-- where a function succeeds, it added what was found, if it is a request
abbrev pub AddsFound : {R F : Type 0} → Result R F → Decoded → Decoded → Result RequestMessage HeadFault → Type 0
AddsFound result old new found = OnOk result (new.requests.items ≡ with_found old.requests.items found)
