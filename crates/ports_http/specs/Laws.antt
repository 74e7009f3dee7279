-- What holds of streams however they are cut: the laws that a service depends on.
use Rattle.std.specs.Prelude.{◌≡◌, ◌⊎◌, ℕ, ◌<◌, false, List, [], ◌∷◌, ◌++◌, length}
use Rattle.ports_http.specs.declared.fault.HeadFault.{HeadFault}
use Rattle.ports_http.specs.Limits.{unread_limit}
use Rattle.ports_http.specs.Messages.{RequestMessage}
use Rattle.ports_http.specs.Streams.{RequestAt, Refuses, Waits, End, Cuts, Begins, LeftOpen}

-- if a request comes first in some bytes, it still does if more bytes follow
abbrev pub RequestStays : Type 0
RequestStays = (stream : List ℕ) (request : RequestMessage) (rest more : List ℕ) → RequestAt stream request rest
    → RequestAt (stream ++ more) request (rest ++ more)

-- if a head refusal comes first in some bytes, it still does if more bytes follow
abbrev pub RefusalStays : Type 0
RefusalStays = (stream : List ℕ) (fault : HeadFault) (more : List ℕ) → Refuses stream fault
    → Refuses (stream ++ more) fault

-- what a connection holds while it waits is less than it may hold
abbrev pub WaitingHasRoom : Type 0
WaitingHasRoom = (stream : List ℕ) → Waits stream → length stream < unread_limit

-- two cuttings of a stream have the same requests, and the same end unless that is left open
abbrev pub OneCutting : Type 0
OneCutting = (stream : List ℕ) (requests others : List RequestMessage) (end other_end : End)
    → Cuts stream requests end → Cuts stream others other_end
    → (requests ≡ others)
    × ((end ≡ other_end) ⊎ ((rest : List ℕ) × Begins stream requests rest × LeftOpen rest))

-- if requests come first in some bytes, they still do if more bytes follow
abbrev pub RequestsStay : Type 0
RequestsStay = (stream : List ℕ) (requests : List RequestMessage) (rest more : List ℕ) → Begins stream requests rest
    → Begins (stream ++ more) requests (rest ++ more)

-- the next request comes after those that were taken
abbrev pub NextRequest : Type 0
NextRequest = (stream : List ℕ) (requests : List RequestMessage) (rest : List ℕ) (request : RequestMessage) (behind : List ℕ)
    → Begins stream requests rest → RequestAt rest request behind → request.close ≡ false
    → Begins stream (requests ++ request ∷ []) behind

-- the requests taken, and then a cutting of what is unread, cut the whole stream
abbrev pub CutsOn : Type 0
CutsOn = (stream : List ℕ) (requests : List RequestMessage) (rest : List ℕ) (later : List RequestMessage) (end : End)
    → Begins stream requests rest → Cuts rest later end → Cuts stream (requests ++ later) end

-- each cutting of the stream begins with the requests taken, and goes on with a cutting of what is unread
abbrev pub CutsFrom : Type 0
CutsFrom = (stream : List ℕ) (requests : List RequestMessage) (rest : List ℕ) (all : List RequestMessage) (end : End)
    → Begins stream requests rest → Cuts stream all end
    → (later : List RequestMessage) × (all ≡ requests ++ later) × Cuts rest later end
