-- Taking the next request off a connection.
use Rattle.std.specs.Prelude.{◌≡◌, ℕ, Bool, true, MatchBool, List, [], ◌∷◌, ◌++◌, ◌==◌, slice_get, option_map, Option}
use Rattle.std.specs.Prelude.{Some, None, Result, Ok, Err, if◌then◌else◌}
use Rattle.ports_http.specs.declared.fault.HeadFault.{HeadFault}
use Rattle.ports_http.specs.declared.request.TakeError.{TakeError}
use Rattle.ports_http.specs.declared.request.TakeError.TheVariants.{Memory}
use Rattle.ports_http.specs.Messages.{RequestMessage}
use Rattle.ports_http.specs.UnreadBytes.{Incoming, Takes, Loses}
use Rattle.ports_http.specs.Replies.{reply_text, fault_reply, unknown_key, store_failed}
use Rattle.ports_core.specs.declared.connection.Connection.{Connection}
use Rattle.ports_core.specs.declared.event.Tell.{Tell}
use Rattle.ports_core.specs.Keys.{tenant_of}
use Rattle.ports_core.specs.declared.queue.QueuedRequest.{QueuedRequest}
use Rattle.ports_core.specs.Slices.{Queue}
use Rattle.ports_core.specs.Connections.{is_ready, with_pending}
use Rattle.ports_core.specs.Tell.{at_once}

-- what an event takes off a connection: nothing, a request, a head refusal, or a request for whose own
-- bytes there is no memory, with whether it closes the connection
pub data Taken : Type 0 where
  Nothing : Taken
  Whole : RequestMessage → Taken
  Refusal : HeadFault → Taken
  Lost : Bool → Taken

-- what is taken, by what the stream hands out: a request is lost if there was no memory for
-- its own bytes, and only then
abbrev pub taken_of : Result (Option (Result RequestMessage HeadFault)) TakeError → Taken
taken_of (Ok None) = Nothing
taken_of (Ok (Some (Ok request))) = Whole request
taken_of (Ok (Some (Err fault))) = Refusal fault
taken_of (Err (Memory close _)) = Lost close

-- this comes first in the stream, and the new stream is what follows it
abbrev pub TakesOff : Incoming → Taken → Incoming → Type 0
TakesOff old Nothing new = Takes old None new
TakesOff old (Whole request) new = Takes old (Some (Ok request)) new
TakesOff old (Refusal fault) new = Takes old (Some (Err fault)) new
TakesOff old (Lost close) new = Loses old close new

-- what is taken off a connection; nothing is, if the connection isn't ready
abbrev pub IsTaken : Connection → Taken → Incoming → Type 0
IsTaken connection taken stream =
    MatchBool (is_ready connection) (TakesOff connection.stream taken stream) ((taken ≡ Nothing) × (stream ≡ connection.stream))

-- the reply that is told at once to a request of this tenant, or of none: only the latter is refused
abbrev pub told_of_tenant : ℕ → Option ℕ → Option Tell
told_of_tenant c None = Some (at_once c unknown_key)
told_of_tenant c (Some tenant) = None

-- the reply that is told at once to what is taken
abbrev pub refused_at_once : List (List ℕ) → ℕ → Taken → Option Tell
refused_at_once keys c Nothing = None
refused_at_once keys c (Whole request) = told_of_tenant c (tenant_of keys request.key)
refused_at_once keys c (Refusal fault) = Some (at_once c (fault_reply fault))
refused_at_once keys c (Lost close) = Some (at_once c store_failed)

-- the connection after a request of this tenant, or of none: the request waits, or
-- its refusal is to be written
abbrev pub connection_with : Option ℕ → Bool → Connection → Connection
connection_with None close connection = with_pending (reply_text unknown_key close) connection
connection_with (Some tenant) close connection = record connection { waits = Some tenant }

-- the connection after what was taken
abbrev pub connection_after : List (List ℕ) → Taken → Connection → Connection
connection_after keys Nothing connection = connection
connection_after keys (Whole request) connection = connection_with (tenant_of keys request.key) request.close connection
connection_after keys (Refusal fault) connection = with_pending (reply_text (fault_reply fault) true) connection
connection_after keys (Lost close) connection = with_pending (reply_text store_failed close) connection

-- a request, if its tenant is this one
abbrev pub entering_of : Option ℕ → ℕ → ℕ → RequestMessage → List QueuedRequest
entering_of None c t request = []
entering_of (Some tenant) c t request = if tenant == t then record { conn = c; request = request } ∷ [] else []

-- the request of a tenant that is among what was taken off a connection
abbrev pub entering : List (List ℕ) → ℕ → Taken → ℕ → List QueuedRequest
entering keys c Nothing t = []
entering keys c (Whole request) t = entering_of (tenant_of keys request.key) c t request
entering keys c (Refusal fault) t = []
entering keys c (Lost close) t = []

-- a request with a tenant's key that was taken off a connection waits after the others in that tenant's
-- queue, and no other queue changes
abbrev pub Joins : List (List ℕ) → ℕ → Taken → List Queue → List Queue → Type 0
Joins keys c taken old new =
    (t : ℕ) → slice_get new t ≡ option_map (λ (queue : Queue). queue ++ entering keys c taken t) (slice_get old t)

-- What comes first on a connection is taken off it: what is told of it at once,
-- and the connection after it.
pub record TakesNext (keys : List (List ℕ)) (c : ℕ) (taken : Taken) (told : Option Tell) (old new : Connection) : Type 0 where
  pub stream : Incoming
  pub stands : IsTaken old taken stream
  pub told_is : told ≡ refused_at_once keys c taken
  pub connection_is : new ≡ connection_after keys taken (record old { stream = stream })
