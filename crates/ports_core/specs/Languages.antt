-- A tenant that asks for no other profile keeps its own.
use Rattle.std.specs.Prelude.{◌≡◌, ℕ, false, List, [], ◌∷◌, All}
use Rattle.mk_text.specs.declared.profile.Profile.{Profile}
use Rattle.mk_paths.specs.World.{World, profile_of}
use Rattle.plain_service.specs.Languages.{asks_profile}
use Rattle.ports_core.specs.declared.event.Event.{Event}
use Rattle.ports_core.specs.declared.queue.QueuedRequest.{QueuedRequest}
use Rattle.ports_core.specs.Answers.{plain_request_of, plain_answer}
use Rattle.ports_core.specs.Effects.{Effect}
use Rattle.ports_core.specs.Slices.{Slice, world_of}
use Rattle.ports_core.specs.State.{State}
use Rattle.ports_core.specs.Isolation.{IsServedPlainly}

-- a request goes to another route than that of the profile
abbrev pub AsksNoProfile : QueuedRequest → Type 0
AsksNoProfile queued = asks_profile (plain_request_of queued.request) ≡ false

-- each of the worlds over which the plain service answers these requests, and the one after them, has this profile
abbrev pub StaysIn : Profile → World → List QueuedRequest → Type 0
StaysIn profile world [] = profile_of world ≡ profile
StaysIn profile world (queued ∷ requests) = (profile_of world ≡ profile) × StaysIn profile (plain_answer world queued.request).1 requests

-- In every run, from any state, a tenant is served plainly. If none of the requests that are answered asks for a profile,
-- all of them are answered in the profile that the tenant had.
abbrev pub EachStaysInItsProfile : Type 0
EachStaysInItsProfile =
    (t : ℕ) (slice : Slice) (events : List Event) (steps : List Effect) (old new : State)
    → (served : IsServedPlainly t slice events steps old new) → All AsksNoProfile served.answered
    → StaysIn (profile_of (world_of slice)) (world_of slice) served.answered
