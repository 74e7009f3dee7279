-- What each event does to the tenants' slices, and to no other part of them.
use Rattle.std.specs.Prelude.{◌≡◌, ◌≢◌, ◌⊎◌, ℕ, List, ◌∷◌, MatchOption, Some, None, option_map}
use Rattle.ports_core.specs.declared.event.Event.{Event}
use Rattle.ports_core.specs.declared.event.Event.TheVariants.{Open, Piece, End, Fault, Wrote, Turn}
use Rattle.ports_core.specs.declared.event.Told.{Told}
use Rattle.ports_core.specs.declared.event.Tell.{Tell}
use Rattle.ports_core.specs.declared.queue.QueuedRequest.{QueuedRequest}
use Rattle.mk_paths.specs.World.{World}
use Rattle.ports_core.specs.Answers.{AnswersRequest}
use Rattle.ports_core.specs.Slices.{Slice, with_requests, world_of, waiting_of}
use Rattle.ports_core.specs.Intake.{Taken, Nothing, entering}
use Rattle.ports_core.specs.State.{State, keys_of, slice_of, book_of, IsAllowed}
use Rattle.ports_core.specs.Books.{BookStep}
use Rattle.ports_core.specs.Steps.{Does}

-- no slice changes but that of this tenant
abbrev pub KeepsOtherSlices : ℕ → State → State → Type 0
KeepsOtherSlices t old new = (u : ℕ) → u ≢ t → slice_of u new ≡ slice_of u old

-- nothing is taken or told, and no slice changes
pub record KeepsSlices (told : Told) (taken : Taken) (old new : State) : Type 0 where
  pub nothing : taken ≡ Nothing
  pub silent : told.reply ≡ None
  pub slices : (t : ℕ) → slice_of t new ≡ slice_of t old

-- At most one request is added at the end of one tenant's queue: the one that is taken off the connection,
-- if it has the tenant's key. A reply that is told goes to no tenant.
pub record Enters (c : ℕ) (told : Told) (taken : Taken) (old new : State) : Type 0 where
  pub to_none : MatchOption told.reply (Unit {0}) (λ (tell : Tell). tell.tenant ≡ None)
  pub slices : (t : ℕ) → slice_of t new ≡ option_map (with_requests (entering (keys_of old) c taken t)) (slice_of t old)

-- A tenant's first request leaves its queue, and its reply is told. The world becomes that of the plain
-- service, or stays as it was at a reply of 503.
pub record FirstLeaves (t : ℕ) (told : Told) (taken : Taken) (old new : State) : Type 0 where
  pub nothing : taken ≡ Nothing
  pub slice : Slice
  pub was : slice_of t old ≡ Some slice
  pub first : QueuedRequest
  pub rest : List QueuedRequest
  pub waited : waiting_of slice ≡ first ∷ rest
  pub tell : Tell
  pub told_is : told.reply ≡ Some tell
  pub of_tenant : tell.tenant ≡ Some t
  pub to_asker : tell.conn ≡ first.conn
  pub world : World
  pub answers : AnswersRequest (world_of slice) first.request tell.reply world
  pub slice_is : slice_of t new ≡ Some (world, rest)
  pub others : KeepsOtherSlices t old new

-- what an event does to the slices
abbrev pub ChangesSlices : Event → Told → Taken → State → State → Type 0
ChangesSlices (Open c) told taken old new = KeepsSlices told taken old new
ChangesSlices (Piece c bytes) told taken old new = Enters c told taken old new
ChangesSlices (End c) told taken old new = Enters c told taken old new
ChangesSlices (Fault c) told taken old new = KeepsSlices told taken old new
ChangesSlices (Wrote c count) told taken old new = Enters c told taken old new
ChangesSlices (Turn t) told taken old new = KeepsSlices told taken old new ⊎ FirstLeaves t told taken old new

-- What an event does to the slices. If it may happen, what it adds to a queue is what comes first on its
-- connection.
abbrev pub EachEventChangesSoMuch : Type 0
EachEventChangesSoMuch = (event : Event) (told : Told) (old new : State) → Does event told old new
    → (taken : Taken) × ChangesSlices event told taken old new
    × (IsAllowed event old → BookStep (keys_of old) event told taken (book_of old) (book_of new))
