-- A connection's unread bytes, and what is taken off them.
use Rattle.std.specs.Prelude.{◌≡◌, ℕ, ◌-◌, Bool, true, false, MatchBool, List, [], ◌++◌, length, drop, if◌then◌else◌}
use Rattle.std.specs.Prelude.{Option, Some, None, Result, Ok, Err}
use Rattle.ports_http.specs.declared.fault.HeadFault.{HeadFault}
use Rattle.ports_http.specs.declared.request.TakeError.{TakeError}
use Rattle.ports_http.specs.declared.request.TakeError.TheVariants.{Memory}
use Rattle.ports_http.specs.Limits.{unread_limit}
use Rattle.ports_http.specs.Messages.{RequestMessage}
use Rattle.ports_http.specs.Streams.{RequestAt, Refuses, Waits}

-- the bytes that came and aren't taken yet, and whether the stream is over: then no more is taken
pub record Incoming : Type 0 where
  pub unread : List ℕ
  pub over : Bool

-- a stream that has just begun
abbrev pub opening_stream : Incoming
opening_stream = record { unread = []; over = false }

-- a stream that is over; what was unread is dropped
abbrev pub ended : Incoming
ended = record { unread = []; over = true }

-- how many bytes may come
abbrev pub room_of : Incoming → ℕ
room_of incoming = if incoming.over then 0 else unread_limit - length incoming.unread

-- the stream with these bytes at its end
abbrev pub fed : Incoming → List ℕ → Incoming
fed incoming bytes = record incoming { unread = incoming.unread ++ bytes }

-- the stream without so many first bytes; it is over if their request closes
abbrev pub passed : Incoming → ℕ → Bool → Incoming
passed incoming size close = if close then ended else record incoming { unread = drop size incoming.unread }

-- the stream after a request: it is over if the request closes
abbrev pub behind : RequestMessage → List ℕ → Incoming
behind request rest = if request.close then ended else record { unread = rest; over = false }

-- the request that comes first is taken off
pub record Removes (old : Incoming) (request : RequestMessage) (new : Incoming) : Type 0 where
  pub begun : old.over ≡ false
  pub rest : List ℕ
  pub stands : RequestAt old.unread request rest
  pub after : new ≡ behind request rest

-- What is taken next: nothing, and nothing changes, if the stream is over or waits; the request that comes
-- first; or its head refusal, which ends the stream.
abbrev pub Takes : Incoming → Option (Result RequestMessage HeadFault) → Incoming → Type 0
Takes old None new = (new ≡ old) × MatchBool old.over (Unit {0}) (Waits old.unread)
Takes old (Some (Ok request)) new = Removes old request new
Takes old (Some (Err fault)) new = (old.over ≡ false) × Refuses old.unread fault × (new ≡ ended)

-- a request with this close is taken off, and lost
abbrev pub Loses : Incoming → Bool → Incoming → Type 0
Loses old close new = (request : RequestMessage) × Removes old request new × (request.close ≡ close)

-- what a call gives that takes the next request; with the error `Memory` the request is lost
abbrev pub TakesOrLoses : Incoming → Result (Option (Result RequestMessage HeadFault)) TakeError → Incoming → Type 0
TakesOrLoses old (Ok answer) new = Takes old answer new
TakesOrLoses old (Err (Memory close _)) new = Loses old close new
