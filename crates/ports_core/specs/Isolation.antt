-- What a run from any state does for a tenant, and when two such runs, of two services, must give
-- two tenants equal replies.
use Rattle.std.specs.Prelude.{◌≡◌, ◌<◌, ℕ, false, List, ◌++◌, length, All, Some}
use Rattle.ports_core.specs.declared.event.Event.{Event}
use Rattle.ports_core.specs.declared.event.Tell.{Tell}
use Rattle.ports_core.specs.declared.queue.QueuedRequest.{QueuedRequest}
use Rattle.ports_core.specs.Effects.{Effect}
use Rattle.ports_core.specs.Slices.{Slice, world_of, waiting_of}
use Rattle.ports_core.specs.Sharing.{Sizes}
use Rattle.ports_core.specs.State.{State, keys_of, new_state, slice_of, book_of, waiting_at}
use Rattle.ports_core.specs.Runs.{Run}
use Rattle.ports_core.specs.Books.{TakesIn}
use Rattle.ports_core.specs.Tell.{is_failure}
use Rattle.ports_core.specs.Plainly.{IsToldPlainly, told_to, answers_of, own_of, plain_run, plain_world}
use Rattle.ports_core.specs.Alike.{requests_of, replies_to, AreAlike}

-- A run from any state, to a tenant with this slice. Take the requests that waited and those that came,
-- less those answered 503. The first of them are answered, and the others wait. The replies, and the world,
-- are those of the plain service over the world that the tenant had.
pub record IsServedPlainly (t : ℕ) (slice : Slice) (events : List Event) (steps : List Effect) (old new : State) : Type 0 where
  pub taken : List QueuedRequest
  pub takes : TakesIn (keys_of old) t (book_of old) events steps taken
  pub last : Slice
  pub last_is : slice_of t new ≡ Some last
  pub answered : List QueuedRequest
  pub own : own_of (waiting_of slice ++ taken) (told_to t steps) ≡ answered ++ waiting_of last
  pub replies : answers_of (told_to t steps) ≡ plain_run (world_of slice) answered
  pub world : world_of last ≡ plain_world (world_of slice) answered

-- the worlds are the same, and so are the requests that wait, whatever their connections and keys
pub record AreEqualSlices (slice other : Slice) : Type 0 where
  pub worlds : world_of slice ≡ world_of other
  pub waiting : requests_of (waiting_of slice) ≡ requests_of (waiting_of other)

-- the tenant gets no 503
abbrev pub NoneFails : ℕ → List Effect → Type 0
NoneFails t steps = All (λ (tell : Tell). is_failure tell.reply.status ≡ false) (told_to t steps)

-- The replies to two tenants are equal as far as both lists of replies go. If none of their requests waits
-- at the end, all their replies are equal, and so are their slices.
pub record EndAlike (t : ℕ) (steps : List Effect) (service : State) (last : Slice)
    (u : ℕ) (others : List Effect) (other : State) (other_last : Slice) : Type 0 where
  pub alike : AreAlike (replies_to t steps) (replies_to u others)
  pub replies : waiting_at t service ≡ 0 → waiting_at u other ≡ 0 → replies_to t steps ≡ replies_to u others
  pub slices : waiting_at t service ≡ 0 → waiting_at u other ≡ 0 → AreEqualSlices last other_last

-- Isolation of services in any state. Two tenants begin with equal slices, the same requests come for them,
-- and neither gets 503. Then they end alike, whatever else the two services hold and whatever else happens.
abbrev pub EqualSlicesAreToldAlike : Type 0
EqualSlicesAreToldAlike =
    (t u : ℕ) (slice other_slice : Slice) (events other_events : List Event) (steps others : List Effect)
    (old new other_old other_new : State)
    → (served : IsServedPlainly t slice events steps old new)
    (served_there : IsServedPlainly u other_slice other_events others other_old other_new)
    → AreEqualSlices slice other_slice → requests_of served.taken ≡ requests_of served_there.taken
    → NoneFails t steps → NoneFails u others
    → EndAlike t steps new served.last u others other_new served_there.last

-- in every run, from any state, each tenant is served plainly
abbrev pub EachRunServesPlainly : Type 0
EachRunServesPlainly = (t : ℕ) (slice : Slice) (events : List Event) (steps : List Effect) (old new : State)
    → slice_of t old ≡ Some slice → Run old events steps new → IsServedPlainly t slice events steps old new

-- in every run of a service from its beginning, each tenant is told plainly
abbrev pub EachTenantIsToldPlainly : Type 0
EachTenantIsToldPlainly = (keys : List (List ℕ)) (sizes : Sizes) (events : List Event) (steps : List Effect)
    (service : State) (t : ℕ)
    → t < length keys → Run (new_state keys sizes) events steps service
    → IsToldPlainly keys t events steps service
