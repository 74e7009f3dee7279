-- Two runs with the same requests of a tenant.
use Rattle.std.proofs.Common.{◌≡◌, ℕ, List, [], ◌∷◌, ◌++◌, refl, sym, ap, ◌∙◌, inl, inr, append-nil}
use Rattle.std.specs.Prelude.{map}
use Rattle.std.proofs.lemmas.List.{nil_from_length}
use Rattle.ports_http.specs.Messages.{ReplyMessage}
use Rattle.plain_service.specs.Requests.{PlainRequest}
use Rattle.plain_service.specs.Plain.{plain}
use Rattle.ports_core.specs.declared.event.Event.{Event}
use Rattle.ports_core.specs.declared.queue.QueuedRequest.{QueuedRequest}
use Rattle.ports_core.specs.Effects.{Effect}
use Rattle.mk_paths.specs.World.{World, opening_world}
use Rattle.ports_core.specs.Answers.{plain_answer}
use Rattle.ports_core.specs.State.{State}
use Rattle.ports_core.specs.Plainly.{told_to, answers_of, own_of, plain_run, IsToldPlainly}
use Rattle.ports_core.specs.Alike.{requests_of, replies_to, AreAlike, own_requests, AreToldAlike}

-- the replies of the plain service to some requests
unfoldable pub replies_from : World → List PlainRequest → List ReplyMessage
replies_from world [] = []
replies_from world (request ∷ requests) = (plain world request).0 ∷ replies_from (plain world request).1 requests

pub replies-plain_run : (queued_requests : List QueuedRequest) (world : World) → map (λ (answer : ℕ × ReplyMessage). answer.1)
    (plain_run world queued_requests) ≡ replies_from world (requests_of queued_requests)
unfolding replies_from
replies-plain_run [] world = refl
replies-plain_run (queued_request ∷ queued_requests) world = ap (λ rs. (plain_answer world queued_request.request).0 ∷ rs)
    (replies-plain_run queued_requests (plain_answer world queued_request.request).1)

pub map-append : {X Y : Type 0} (f : X → Y) (xs ys : List X) → map f (xs ++ ys) ≡ map f xs ++ map f ys
map-append f [] ys = refl
map-append f (x ∷ xs) ys = ap (λ zs. f x ∷ zs) (map-append f xs ys)

-- of two fronts of one list, one begins the other
pub fronts : {X : Type 0} (xs ys ls bs : List X) → xs ++ ls ≡ ys ++ bs → AreAlike xs ys
fronts [] ys ls bs e = inl (ys, refl)
fronts (x ∷ xs) [] ls bs e = inr (x ∷ xs, refl)
fronts (x ∷ xs) (y ∷ ys) ls bs e =
    let first : x ≡ y = cc in
    let tails : xs ++ ls ≡ ys ++ bs = cc in
    elim (fronts xs ys ls bs tails) [
      | inl p ↦ inl (p.0, ap (λ zs. x ∷ zs) p.1 ∙ ap (λ z. z ∷ ys) first)
      | inr p ↦ inr (p.0, ap (λ zs. y ∷ zs) p.1 ∙ ap (λ z. z ∷ xs) (sym first))
    ]

-- the replies told, and those to come, are those of the plain service to the own requests
all_replies : (keys : List (List ℕ)) (t : ℕ) (events : List Event) (steps : List Effect) (service : State)
    (told : IsToldPlainly keys t events steps service)
    → replies_to t steps ++ map (λ (answer : ℕ × ReplyMessage). answer.1) told.later ≡ replies_from opening_world (own_requests told)
all_replies keys t events steps service told =
    sym (map-append (λ (answer : ℕ × ReplyMessage). answer.1) (answers_of (told_to t steps)) told.later)
    ∙ ap (map (λ (answer : ℕ × ReplyMessage). answer.1)) told.plainly
    ∙ replies-plain_run (own_of told.taken (told_to t steps)) opening_world

pub told_alike : (keys other_keys : List (List ℕ)) (t u : ℕ) (events other_events : List Event)
    (steps others : List Effect) (service other : State)
    → (told : IsToldPlainly keys t events steps service) (told_there : IsToldPlainly other_keys u other_events others other)
    → own_requests told ≡ own_requests told_there → AreToldAlike t steps service u others other
told_alike keys other_keys t u events other_events steps others service other told told_there same =
    let all : replies_to t steps ++ map (λ (answer : ℕ × ReplyMessage). answer.1) told.later ≡ replies_to u others ++ map
    (λ (answer : ℕ × ReplyMessage). answer.1) told_there.later =
    all_replies keys t events steps service told ∙ ap (replies_from opening_world) same
    ∙ sym (all_replies other_keys u other_events others other told_there) in
    record {
      alike = fronts (replies_to t steps) (replies_to u others) _ _ all;
      whole = λ none none_there.
          let no_later : told.later ≡ [] = nil_from_length told.later (told.waiting ∙ none) in
          let no_later_there : told_there.later ≡ [] = nil_from_length told_there.later (told_there.waiting ∙ none_there) in
          sym (append-nil (replies_to t steps))
          ∙ ap (λ (ls : List (ℕ × ReplyMessage)). replies_to t steps ++ map (λ (answer : ℕ × ReplyMessage). answer.1) ls) (sym no_later)
          ∙ all
          ∙ ap (λ (ls : List (ℕ × ReplyMessage)). replies_to u others ++ map (λ (answer : ℕ × ReplyMessage). answer.1) ls) no_later_there
          ∙ append-nil (replies_to u others);
    }
