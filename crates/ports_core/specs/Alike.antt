-- Two runs with the same requests of a tenant.
use Rattle.std.specs.Prelude.{◌≡◌, ◌⊎◌, ℕ, List, map}
use Rattle.ports_http.specs.Messages.{ReplyMessage}
use Rattle.plain_service.specs.Requests.{PlainRequest}
use Rattle.ports_core.specs.declared.event.Event.{Event}
use Rattle.ports_core.specs.declared.queue.QueuedRequest.{QueuedRequest}
use Rattle.ports_core.specs.Effects.{Effect}
use Rattle.ports_core.specs.Answers.{plain_request_of}
use Rattle.ports_core.specs.State.{State, waiting_at}
use Rattle.ports_core.specs.Plainly.{IsFrontOf, told_to, answers_of, own_of, IsToldPlainly}

-- what was asked of the plain service, whatever the connections and keys were
abbrev pub requests_of : List QueuedRequest → List PlainRequest
requests_of queued_requests = map (λ queued_request. plain_request_of queued_request.request) queued_requests

-- what was told to a tenant, other than 503, whichever connections it went to
abbrev pub replies_to : ℕ → List Effect → List ReplyMessage
replies_to t steps = map (λ answer. answer.1) (answers_of (told_to t steps))

-- two lists are equal as far as both go
abbrev pub AreAlike : {X : Type 0} → List X → List X → Type 0
AreAlike xs ys = IsFrontOf xs ys ⊎ IsFrontOf ys xs

-- a tenant's own requests in a run
abbrev pub own_requests : {keys : List (List ℕ)} {t : ℕ} {events : List Event} {steps : List Effect} {service : State}
    → IsToldPlainly keys t events steps service → List PlainRequest
own_requests {t = t} {steps = steps} told = requests_of (own_of told.taken (told_to t steps))

-- The replies to two tenants, each in a run of its own, are equal as far as both lists of replies go. Once
-- none of their requests waits, all their replies are equal.
pub record AreToldAlike (t : ℕ) (steps : List Effect) (service : State) (u : ℕ) (others : List Effect) (other : State) : Type 0 where
  pub alike : AreAlike (replies_to t steps) (replies_to u others)
  pub whole : waiting_at t service ≡ 0 → waiting_at u other ≡ 0 → replies_to t steps ≡ replies_to u others

-- If a tenant's own requests in one run are those of a tenant in another run, both are told alike.
abbrev pub EqualRequestsAreToldAlike : Type 0
EqualRequestsAreToldAlike =
    (keys other_keys : List (List ℕ)) (t u : ℕ) (events other_events : List Event)
    (steps others : List Effect) (service other : State)
    → (told : IsToldPlainly keys t events steps service)
    (told_there : IsToldPlainly other_keys u other_events others other)
    → own_requests told ≡ own_requests told_there
    → AreToldAlike t steps service u others other
