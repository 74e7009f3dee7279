-- Each tenant gets the replies that a plain service of its own would give it.
use Rattle.std.specs.Prelude.{◌≡◌, ℕ, Bool, false, List, [], ◌∷◌, ◌++◌, ◌==◌, length, Option, Some, None, if◌then◌else◌}
use Rattle.ports_http.specs.Messages.{ReplyMessage}
use Rattle.ports_core.specs.declared.event.Event.{Event}
use Rattle.ports_core.specs.declared.event.Tell.{Tell}
use Rattle.ports_core.specs.declared.queue.QueuedRequest.{QueuedRequest}
use Rattle.ports_core.specs.Effects.{Effect}
use Rattle.mk_paths.specs.World.{World, opening_world}
use Rattle.ports_core.specs.Answers.{plain_answer}
use Rattle.ports_core.specs.Tell.{is_failure}
use Rattle.ports_core.specs.Opened.{no_connections}
use Rattle.ports_core.specs.State.{State, waiting_at}
use Rattle.ports_core.specs.Books.{TakesIn}

-- whether a tenant is this one
abbrev pub is_this_tenant : ℕ → Option ℕ → Bool
is_this_tenant t None = false
is_this_tenant t (Some tenant) = tenant == t

-- a reply, if it was told to the tenant
abbrev pub told_if : ℕ → Option Tell → List Tell
told_if t None = []
told_if t (Some tell) = if is_this_tenant t tell.tenant then tell ∷ [] else []

-- the replies that were told to a tenant, in their order
abbrev pub told_to : ℕ → List Effect → List Tell
told_to t [] = []
told_to t (step ∷ steps) = told_if t step.told.reply ++ told_to t steps

-- the replies told other than 503, each with the connection that it goes to
abbrev pub answers_of : List Tell → List (ℕ × ReplyMessage)
answers_of [] = []
answers_of (tell ∷ tells) =
    if is_failure tell.reply.status then answers_of tells else (tell.conn, tell.reply) ∷ answers_of tells

-- A tenant's own list: the requests taken, less those answered 503. A queue is answered in its order, so the two lists
-- are paired by place: the k-th reply told to the tenant answers the k-th request taken.
abbrev pub own_of : List QueuedRequest → List Tell → List QueuedRequest
own_of [] tells = []
own_of (queued_request ∷ queued_requests) [] = queued_request ∷ queued_requests
own_of (queued_request ∷ queued_requests) (tell ∷ tells) =
    if is_failure tell.reply.status then own_of queued_requests tells else queued_request ∷ own_of queued_requests tells

-- the replies of the plain service to a list of requests, from some world, each with
-- the connection that asked
abbrev pub plain_run : World → List QueuedRequest → List (ℕ × ReplyMessage)
plain_run world [] = []
plain_run world (queued_request ∷ queued_requests) =
    (queued_request.conn, (plain_answer world queued_request.request).0)
    ∷ plain_run (plain_answer world queued_request.request).1 queued_requests

-- the world of the plain service after a list of requests
abbrev pub plain_world : World → List QueuedRequest → World
plain_world world [] = world
plain_world world (queued_request ∷ queued_requests) = plain_world (plain_answer world queued_request.request).1 queued_requests

-- one list begins the other
abbrev pub IsFrontOf : {X : Type 0} → List X → List X → Type 0
IsFrontOf {X} xs ys = (more : List X) × (xs ++ more ≡ ys)

-- The replies told to a tenant in a run, other than 503, are those that the plain service gives to the
-- tenant's own list from the opening world, in order. The last ones are left out, one for each request of
-- the tenant that still waits.
pub record IsToldPlainly (keys : List (List ℕ)) (t : ℕ) (events : List Event) (steps : List Effect) (service : State) : Type 0 where
  pub taken : List QueuedRequest
  pub takes : TakesIn keys t no_connections events steps taken
  pub later : List (ℕ × ReplyMessage)
  pub plainly : answers_of (told_to t steps) ++ later ≡ plain_run opening_world (own_of taken (told_to t steps))
  pub waiting : length later ≡ waiting_at t service
