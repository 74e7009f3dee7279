-- Two services with equal slices.
use Rattle.std.proofs.Common.{◌≡◌, ℕ, false, List, [], ◌∷◌, ◌++◌, length, Option, All, refl, sym, ap, ◌∙◌, append-nil}
use Rattle.std.specs.Prelude.{map, if◌then◌else◌, option_map, unwrap_or}
use Rattle.std.proofs.lemmas.List.Elements.{All-head, All-tail}
use Rattle.std.proofs.lemmas.List.{nil_from_length}
use Rattle.ports_http.specs.Messages.{ReplyMessage}
use Rattle.plain_service.specs.Requests.{PlainRequest}
use Rattle.plain_service.specs.Plain.{plain}
use Rattle.ports_core.specs.declared.event.Event.{Event}
use Rattle.ports_core.specs.declared.event.Tell.{Tell}
use Rattle.ports_core.specs.declared.queue.QueuedRequest.{QueuedRequest}
use Rattle.ports_core.specs.Effects.{Effect}
use Rattle.mk_paths.specs.World.{World}
use Rattle.ports_core.specs.Answers.{plain_request_of, plain_answer}
use Rattle.ports_core.specs.Slices.{Slice, Queue}
use Rattle.ports_core.specs.State.{State, world_at, queue_at, waiting_at}
use Rattle.ports_core.specs.Tell.{is_failure}
use Rattle.ports_core.specs.Plainly.{told_to, own_of, plain_world}
use Rattle.ports_core.specs.Alike.{requests_of, replies_to}
use Rattle.ports_core.specs.Isolation.{IsServedPlainly, NoneFails, EqualSlicesAreToldAlike}
use Rattle.ports_core.proofs.ChangeLemmas.{slice_parts}
use Rattle.ports_core.proofs.AlikeLemmas.{replies_from, replies-plain_run, map-append, fronts}

-- the world after a list of requests, whichever connections asked
unfoldable pub world_from : World → List PlainRequest → World
world_from world [] = world
world_from world (request ∷ requests) = world_from (plain world request).1 requests

world-plain_world : (queued_requests : List QueuedRequest) (world : World) → plain_world world queued_requests ≡ world_from world
    (requests_of queued_requests)
unfolding world_from
world-plain_world [] world = refl
world-plain_world (queued_request ∷ queued_requests) world = world-plain_world queued_requests (plain_answer world queued_request.request).1

-- where nothing fails, the own list has all that was taken
own-all : (queued_requests : List QueuedRequest) (tells : List Tell) → All (λ (tell : Tell). is_failure tell.reply.status ≡ false) tells
    → own_of queued_requests tells ≡ queued_requests
own-all [] tells fine = refl
own-all (queued_request ∷ queued_requests) [] fine = refl
own-all (queued_request ∷ queued_requests) (tell ∷ tells) fine =
    ap (λ b. if b then own_of queued_requests tells else queued_request ∷ own_of queued_requests tells)
    (All-head (λ (t : Tell). is_failure t.reply.status ≡ false) tell tells fine)
    ∙ ap (λ ws. queued_request ∷ ws)
    (own-all queued_requests tells (All-tail (λ (t : Tell). is_failure t.reply.status ≡ false) tell tells fine))

-- replies to requests, one after the other
replies-append : (world : World) (first rest : List PlainRequest)
    → replies_from world (first ++ rest) ≡ replies_from world first ++ replies_from (world_from world first) rest
unfolding replies_from world_from
replies-append world [] rest = refl
replies-append world (request ∷ first) rest = ap (λ rs. (plain world request).0 ∷ rs) (replies-append (plain world request).1 first rest)

-- one tenant in one run: all that is and will be told
module _ (t : ℕ) (slice : Slice) (events : List Event) (steps : List Effect) (old new : State)
    (served : IsServedPlainly t slice events steps old new) where
  pub replies_are : replies_to t steps ≡ replies_from slice.0 (requests_of served.answered)
  replies_are = ap (map (λ (answer : ℕ × ReplyMessage). answer.1)) served.replies ∙ replies-plain_run served.answered slice.0

  pub world_is : served.last.0 ≡ world_from slice.0 (requests_of served.answered)
  world_is = served.world ∙ world-plain_world served.answered slice.0

  pub requests_are : NoneFails t steps → requests_of slice.1 ++ requests_of served.taken ≡ requests_of served.answered ++
      requests_of served.last.1
  requests_are fine =
      sym (map-append (λ (w : QueuedRequest). plain_request_of w.request) slice.1 served.taken)
      ∙ ap requests_of (sym (own-all (slice.1 ++ served.taken) (told_to t steps) fine) ∙ served.own)
      ∙ map-append (λ (w : QueuedRequest). plain_request_of w.request) served.answered served.last.1

  pub none_waits : waiting_at t new ≡ 0 → served.last.1 ≡ []
  none_waits none = nil_from_length served.last.1
      (sym (ap (λ (o : Option Queue). unwrap_or (option_map length o) 0) (slice_parts (world_at t new) (queue_at t new) served.last
      served.last_is).1) ∙ none)

pub equal_slices_alike : EqualSlicesAreToldAlike
equal_slices_alike t u slice other_slice events other_events steps others old new other_old other_new served there
    equal same fine fine_there =
    let mine = requests_are t slice events steps old new served fine in
    let theirs = requests_are u other_slice other_events others other_old other_new there fine_there in
    let requests : requests_of served.answered ++ requests_of served.last.1 ≡ requests_of there.answered ++ requests_of there.last.1 =
    sym mine ∙ ap (λ rs. rs ++ requests_of served.taken) equal.waiting ∙ ap (λ rs. requests_of other_slice.1 ++ rs) same ∙ theirs in
    let told = replies_are t slice events steps old new served in
    let told_there = replies_are u other_slice other_events others other_old other_new there in
    let all : replies_to t steps ++ replies_from (world_from slice.0 (requests_of served.answered)) (requests_of served.last.1)
    ≡ replies_to u others ++ replies_from (world_from other_slice.0 (requests_of there.answered)) (requests_of there.last.1) =
    ap (λ rs. rs ++ replies_from (world_from slice.0 (requests_of served.answered)) (requests_of served.last.1)) told
    ∙ sym (replies-append slice.0 (requests_of served.answered) (requests_of served.last.1))
    ∙ ap (replies_from slice.0) requests
    ∙ ap (λ f. replies_from f (requests_of there.answered ++ requests_of there.last.1)) equal.worlds
    ∙ replies-append other_slice.0 (requests_of there.answered) (requests_of there.last.1)
    ∙ ap (λ rs. rs ++ replies_from (world_from other_slice.0 (requests_of there.answered)) (requests_of there.last.1)) (sym told_there) in
    let done : waiting_at t new ≡ 0 → waiting_at u other_new ≡ 0 → requests_of served.answered ≡ requests_of there.answered =
    λ none none_there.
    sym (append-nil (requests_of served.answered))
    ∙ ap (λ (ws : List QueuedRequest). requests_of served.answered ++ requests_of ws)
    (sym (none_waits t slice events steps old new served none))
    ∙ requests
    ∙ ap (λ (ws : List QueuedRequest). requests_of there.answered ++ requests_of ws) (none_waits u other_slice other_events others other_old
    other_new there none_there)
    ∙ append-nil (requests_of there.answered) in
    record {
      alike = fronts (replies_to t steps) (replies_to u others) _ _ all;
      replies = λ none none_there. told ∙ ap (replies_from slice.0) (done none none_there)
          ∙ ap (λ f. replies_from f (requests_of there.answered)) equal.worlds ∙ sym told_there;
      slices = λ none none_there. record {
        worlds = world_is t slice events steps old new served
            ∙ ap (world_from slice.0) (done none none_there)
            ∙ ap (λ f. world_from f (requests_of there.answered)) equal.worlds
            ∙ sym (world_is u other_slice other_events others other_old other_new there);
        waiting = ap requests_of (none_waits t slice events steps old new served none)
            ∙ sym (ap requests_of (none_waits u other_slice other_events others other_old other_new there none_there));
      };
    }
