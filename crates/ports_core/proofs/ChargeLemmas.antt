-- What is told as spent in a turn.
use Rattle.std.proofs.Common.{◌≡◌, ◌<◌, ◌∙◌, ℕ, List, [], ◌∷◌, length, get_or, Option, Some, None, sym, ap, subst, arith}
use Rattle.std.specs.Prelude.{MatchOption, slice_get}
use Rattle.std.proofs.lemmas.Option.{slice_get-get_or}
use Rattle.mk_paths.specs.World.{World, opening_world}
use Rattle.turn_amounts.specs.declared.spent.Spent.{Spent}
use Rattle.ports_http.specs.Messages.{ReplyMessage}
use Rattle.ports_core.specs.declared.event.Tell.{Tell}
use Rattle.ports_core.specs.declared.event.Told.{Told}
use Rattle.ports_core.specs.declared.queue.QueuedRequest.{QueuedRequest}
use Rattle.ports_core.specs.Charges.{MayHaveHad, Charges, ChargesFor, FitsTurn, LeavesUnanswered, TurnSpends}
use Rattle.ports_core.specs.Jobs.{TenantJob, had_by, spent_on, one_turn_more}
use Rattle.ports_core.specs.Slices.{Slice, Queue, sliced}
use Rattle.ports_core.specs.Tell.{in_turn, spent_as_told, CountsNone}

-- what is told fits a turn if it is what was spent in one, or nothing
pub short_told : (told : Told) (spent : Spent) → spent_as_told told ≡ spent → FitsTurn spent → FitsTurn (spent_as_told told)
short_told told spent is short = subst FitsTurn (sym is) short

pub short_none : (told : Told) → CountsNone told → FitsTurn (spent_as_told told)
short_none told none = omega (arith, none.0, none.1)

-- a tenant with a world has a slice whose first request is the one that waits first
slice_there : (t : ℕ) (worlds : List World) (queues : List Queue) (queue rest : Queue) (first : QueuedRequest) (world : World)
    → slice_get worlds t ≡ Some world → slice_get queues t ≡ Some queue → queue ≡ first ∷ rest
    → sliced (slice_get worlds t) (slice_get queues t) ≡ Some (world, first ∷ rest)
slice_there t worlds queues queue rest first world there was waited = ap (λ w. sliced w (slice_get queues t)) there
    ∙ ap (sliced (Some world)) (was ∙ ap Some waited)

module _ (t : ℕ) (told : Told) (worlds : List World) (queues : List Queue) (job : Option TenantJob) (queue rest : Queue)
    (first : QueuedRequest) (reply : ReplyMessage) (spent : Spent) (world : World)
    (there : slice_get worlds t ≡ Some world) (was : slice_get queues t ≡ Some queue) (waited : queue ≡ first ∷ rest)
    (charges : ChargesFor t first.request reply (spent_on job) spent worlds)
    (tells : told.reply ≡ Some (in_turn t first.conn reply)) (tells_spent : spent_as_told told ≡ spent) where
  charged : Charges world first.request reply (spent_on job) (spent_as_told told)
  charged = subst (λ (s : Spent). Charges world first.request reply (spent_on job) s) (sym tells_spent) (charges world there)

  -- the first request is answered
  pub turn_spends : TurnSpends (sliced (slice_get worlds t) (slice_get queues t)) job told
  turn_spends =
      subst (λ (s : Option Slice). TurnSpends s job told) (sym (slice_there t worlds queues queue rest first world there was waited))
      (subst (λ (r : Option Tell). MatchOption r (MayHaveHad world first.request (one_turn_more (had_by job) (spent_as_told told)))
      (λ (tell : Tell). Charges world first.request tell.reply (spent_on job) (spent_as_told told))) (sym tells) charged)

-- nothing waits
pub idle_spends : (t : ℕ) (told : Told) (worlds : List World) (queues : List Queue) (job : Option TenantJob) (queue : Queue)
    → slice_get queues t ≡ Some queue → queue ≡ [] → CountsNone told
    → TurnSpends (sliced (slice_get worlds t) (slice_get queues t)) job told
idle_spends t told worlds queues job queue was empty none =
    subst (λ (q : Option Queue). TurnSpends (sliced (slice_get worlds t) q) job told) (sym (was ∙ ap Some empty))
    (in_world (slice_get worlds t))
  where
    in_world : (world : Option World) → TurnSpends (sliced world (Some [])) job told
    in_world None = none
    in_world (Some world) = none

-- the first request isn't answered yet
pub pending_spends : (t : ℕ) (told : Told) (worlds worlds_after : List World) (queues : List Queue) (job : Option TenantJob)
    (queue rest : Queue) (first : QueuedRequest) (spent : Spent)
    → t < length worlds → slice_get queues t ≡ Some queue → queue ≡ first ∷ rest → LeavesUnanswered t first.request (had_by job)
    spent worlds worlds_after
    → told.reply ≡ None → spent_as_told told ≡ spent → TurnSpends (sliced (slice_get worlds t) (slice_get queues t)) job told
pending_spends t told worlds worlds_after queues job queue rest first spent within was waited goes_on silent tells_spent =
    let world : World = get_or worlds t opening_world in
    let there : slice_get worlds t ≡ Some world = slice_get-get_or worlds t opening_world within in
    let spends : MayHaveHad world first.request (one_turn_more (had_by job) (spent_as_told told)) =
    subst (λ (s : Spent). MayHaveHad world first.request (one_turn_more (had_by job) s)) (sym tells_spent) (goes_on.within world there) in
    subst (λ (s : Option Slice). TurnSpends s job told) (sym (slice_there t worlds queues queue rest first world there was waited))
    (subst (λ (r : Option Tell). MatchOption r (MayHaveHad world first.request (one_turn_more (had_by job) (spent_as_told told)))
    (λ (tell : Tell). Charges world first.request tell.reply (spent_on job) (spent_as_told told))) (sym silent) spends)
