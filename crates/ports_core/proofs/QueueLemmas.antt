-- The requests of one connection among those that wait.
use Rattle.std.proofs.Common.{◌≡◌, ◌≢◌, ℕ, true, false, List, [], ◌∷◌, ◌++◌, refl, ap, ◌∙◌, append-nil, eq-eqb, Option, Some, None, filter}
use Rattle.std.specs.Prelude.{◌==◌, map, if◌then◌else◌}
use Rattle.std.proofs.lemmas.List.Elements.{filter-append}
use Rattle.ports_http.specs.Messages.{RequestMessage}
use Rattle.ports_core.specs.declared.queue.QueuedRequest.{QueuedRequest}
use Rattle.ports_core.specs.Keys.{tenant_of}
use Rattle.ports_core.specs.Slices.{Queue}
use Rattle.ports_core.specs.Intake.{Taken, Nothing, Whole, Refusal, Lost, entering_of, entering}
use Rattle.ports_core.proofs.Numbers.{other_number}

-- those of a connection
abbrev pub queued_requests_of : ℕ → Queue → List QueuedRequest
queued_requests_of c queue = filter (λ (w : QueuedRequest). w.conn == c) queue

-- a request of a connection
abbrev pub queued_request : ℕ → RequestMessage → QueuedRequest
queued_request c request = record { conn = c; request = request }

-- those that wait for a tenant, where the connection's request waits for that one
abbrev pub queued_requests_at : ℕ → ℕ → Option ℕ → List RequestMessage → List QueuedRequest
queued_requests_at c u None waiting = []
queued_requests_at c u (Some t) waiting = if t == u then map (queued_request c) waiting else []

-- another connection's request isn't among them
none_entered : (c d u : ℕ) (place : Option ℕ) (request : RequestMessage) → d ≢ c → queued_requests_of c (entering_of place d u request) ≡ []
none_entered c d u None request apart = refl
none_entered c d u (Some tenant) request apart =
    elim (tenant == u) as (λ b. queued_requests_of c (if b then queued_request d request ∷ [] else []) ≡ []) [
      | true ↦ ap (λ b. if b then queued_request d request ∷ [] else []) (other_number d c apart)
      | false ↦ refl
    ]

none_entering : (keys : List (List ℕ)) (c d u : ℕ) (taken : Taken) → d ≢ c → queued_requests_of c (entering keys d taken u) ≡ []
none_entering keys c d u Nothing apart = refl
none_entering keys c d u (Whole request) apart = none_entered c d u (tenant_of keys request.key) request apart
none_entering keys c d u (Refusal fault) apart = refl
none_entering keys c d u (Lost close) apart = refl

-- the requests of a connection after what another took
pub queued_requests_after : (keys : List (List ℕ)) (c d : ℕ) (taken : Taken) (u : ℕ) (queue : Queue) → d ≢ c
    → queued_requests_of c (queue ++ entering keys d taken u) ≡ queued_requests_of c queue
queued_requests_after keys c d taken u queue apart =
    filter-append (λ (w : QueuedRequest). w.conn == c) queue (entering keys d taken u)
    ∙ ap (λ ws. queued_requests_of c queue ++ ws) (none_entering keys c d u taken apart)
    ∙ append-nil (queued_requests_of c queue)

-- its own request waits where it should
pub queued_requests_join : (c tenant u : ℕ) (request : RequestMessage) (queue : Queue) → queued_requests_of c queue ≡ []
    → queued_requests_of c (queue ++ entering_of (Some tenant) c u request) ≡ queued_requests_at c u (Some tenant) (request ∷ [])
queued_requests_join c tenant u request queue none =
    filter-append (λ (w : QueuedRequest). w.conn == c) queue (entering_of (Some tenant) c u request)
    ∙ ap (λ ws. ws ++ queued_requests_of c (entering_of (Some tenant) c u request)) none
    ∙ elim (tenant == u) as (λ b. queued_requests_of c (if b then queued_request c request ∷ [] else []) ≡
    (if b then queued_request c request ∷ [] else [])) [
      | true ↦ ap (λ b. if b then queued_request c request ∷ [] else []) (eq-eqb c c refl)
      | false ↦ refl
    ]
