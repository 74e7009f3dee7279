-- What each event does to the slices and to the connections: all that proofs about runs see of it.
use Rattle.std.proofs.Common.{◌≡◌, ◌<◌, ◌≤◌, ℕ, Bool, false, List, ◌∷◌, ◌++◌, Option, Some, None, refl, sym, ap, subst, ◌∙◌, inl, inr}
use Rattle.std.proofs.Common.{arith}
use Rattle.std.specs.Prelude.{◌⊎◌, ◌&&◌, MatchBool, MatchOption, is_none, option_map}
use Rattle.std.proofs.Math.Bool.{and-false}
use Rattle.ports_core.specs.declared.event.Event.{Event}
use Rattle.ports_core.specs.declared.event.Event.TheVariants.{Open, Piece, End, Fault, Wrote, Turn}
use Rattle.ports_core.specs.declared.event.Told.{Told}
use Rattle.ports_core.specs.declared.event.Tell.{Tell}
use Rattle.ports_core.specs.declared.event.Refused.{Refused}
use Rattle.ports_core.specs.declared.connection.Connection.{Connection}
use Rattle.ports_core.specs.declared.queue.QueuedRequest.{QueuedRequest}
use Rattle.ports_core.specs.Keys.{tenant_of}
use Rattle.mk_paths.specs.World.{World}
use Rattle.ports_core.specs.Slices.{Slice, Queue, with_requests, sliced}
use Rattle.ports_core.specs.Connections.{new_connection, hears, is_empty}
use Rattle.ports_core.specs.Intake.{Taken, Nothing, Whole, Refusal, Lost, TakesOff, told_of_tenant, refused_at_once, entering}
use Rattle.ports_core.specs.Tell.{in_turn}
use Rattle.ports_core.specs.Opened.{KeepsConnections, KeepsOthers}
use Rattle.ports_core.specs.Books.{TellsOn, BookOpens, BookTurns, BookStep}
use Rattle.ports_core.specs.State.{State, keys_of, next_of, world_at, queue_at, slice_of, book_of, connection_of, IsAllowed}
use Rattle.ports_core.specs.Steps.{Does, Hears, Turns, Opens, keys_stay}
use Rattle.ports_core.specs.Changes.{KeepsSlices, Enters, FirstLeaves, ChangesSlices, EachEventChangesSoMuch}
use Rattle.ports_core.proofs.Lists.{none_some, some_same}
use Rattle.ports_core.proofs.TakingLemmas.{nothing_after}

-- a world and a queue after which requests wait
sliced-joined : (queued_requests : List QueuedRequest) (world : Option World) (queue : Option Queue)
    → sliced world (option_map (λ (q : Queue). q ++ queued_requests) queue) ≡ option_map
    (with_requests queued_requests) (sliced world queue)
sliced-joined queued_requests None queue = refl
sliced-joined queued_requests (Some world) None = refl
sliced-joined queued_requests (Some world) (Some queue) = refl

-- what a slice is made of
pub slice_parts : (world : Option World) (queue : Option Queue) (slice : Slice) → sliced world queue ≡ Some slice → (world ≡ Some slice.0)
    × (queue ≡ Some slice.1)
slice_parts None queue slice e = absurd (none_some e)
slice_parts (Some world) None slice e = absurd (none_some e)
slice_parts (Some world) (Some queue) slice e = (ap (λ (s : Slice). Some s.0) (some_same e), ap (λ (s : Slice). Some s.1) (some_same e))

-- no slice changes where no world and no queue does
pub same_slice : (t : ℕ) (old new : State) → world_at t new ≡ world_at t old → queue_at t new ≡ queue_at t old
    → slice_of t new ≡ slice_of t old
same_slice t old new world queue = ap (λ w. sliced w (queue_at t new)) world ∙ ap (sliced (world_at t old)) queue

-- what is told at once is told to no tenant
abbrev ToNone : Option Tell → Type 0
ToNone reply = MatchOption reply (Unit {0}) (λ (tell : Tell). tell.tenant ≡ None)

of_tenant : (c : ℕ) (place : Option ℕ) → ToNone (told_of_tenant c place)
of_tenant c None = refl
of_tenant c (Some tenant) = tt

at_once_to_none : (keys : List (List ℕ)) (c : ℕ) (taken : Taken) → ToNone (refused_at_once keys c taken)
at_once_to_none keys c Nothing = tt
at_once_to_none keys c (Whole request) = of_tenant c (tenant_of keys request.key)
at_once_to_none keys c (Refusal fault) = refl
at_once_to_none keys c (Lost close) = refl

enters : (event : Event) (c : ℕ) (told : Told) (old new : State) (h : Hears event c told old new) → Enters c told h.taken old new
enters event c told old new h = record {
  to_none = subst ToNone (sym h.hears.takes.told_is) (at_once_to_none (keys_of old) c h.taken);
  slices = λ t. ap (λ w. sliced w (queue_at t new)) (h.worlds t) ∙ ap (sliced (world_at t old)) (h.queues t)
      ∙ sliced-joined (entering (keys_of old) c h.taken t) (world_at t old) (queue_at t old);
}

-- nothing is taken off a connection that is lost
lost_and_stays : (c : ℕ) (told : Told) (old new : State) (h : Hears (Fault c) c told old new) → KeepsSlices told h.taken old new
lost_and_stays c told old new h =
    let connection : Connection = hears (Fault c) h.hears.connection in
    let P : Bool → Type 0 = λ b. MatchBool b (TakesOff connection.stream h.taken h.hears.takes.stream) ((h.taken ≡ Nothing)
    × (h.hears.takes.stream ≡ connection.stream)) in
    let busy : P false = subst P (and-false (is_none connection.waits && is_empty connection.pending)) h.hears.takes.stands in
    record {
      nothing = busy.0;
      silent = h.hears.takes.told_is ∙ ap (refused_at_once (keys_of old) c) busy.0;
      slices = λ t. same_slice t old new (h.worlds t)
          (h.queues t ∙ ap (λ k. option_map (λ (q : Queue). q ++ entering (keys_of old) c k t) (queue_at t old)) busy.0
          ∙ sym (nothing_after (queue_at t old)));
    }

opens_and_stays : (told : Told) (old new : State) → Opens told old new → KeepsSlices told Nothing old new
opens_and_stays told old new (inl h) = record {
  nothing = refl;
  silent = h.reply;
  slices = λ t. same_slice t old new
      (h.worlds t) (h.queues t);
}
opens_and_stays told old new (inr h) = record {
  nothing = refl;
  silent = h.reply;
  slices = λ t. same_slice t old new
      (h.same.worlds t) (h.same.queues t);
}

turns_change : (t : ℕ) (told : Told) (old new : State) → Turns t told old new → KeepsSlices told Nothing old new
    ⊎ FirstLeaves t told Nothing old new
turns_change t told old new (inl h) =
    inl (record { nothing = refl; silent = h.reply; slices = λ u. same_slice u old new (h.same.worlds u) (h.same.queues u) })
turns_change t told old new (inr (inl h)) =
    inl (record { nothing = refl; silent = h.reply; slices = λ u. same_slice u old new (h.same.worlds u) (h.same.queues u) })
turns_change t told old new (inr (inr h)) = inr (record {
  nothing = refl;
  slice = (h.answers.world, h.first ∷ h.rest);
  was = ap (λ w. sliced w (queue_at t old)) h.answers.was ∙ ap (sliced (Some h.answers.world)) h.waited;
  first = h.first;
  rest = h.rest;
  waited = refl;
  tell = in_turn t h.first.conn h.replied;
  told_is = h.reply;
  of_tenant = refl;
  to_asker = refl;
  world = h.answers.after;
  answers = h.answers.answers;
  slice_is = ap (λ w. sliced w (queue_at t new)) h.answers.becomes ∙ ap (sliced (Some h.answers.after)) h.leaves;
  others = λ u ne. same_slice u old new (h.answers.others u ne) (h.queues u ne);
})

-- what an event takes
taken_by : (event : Event) (told : Told) (old new : State) → Does event told old new → Taken
taken_by (Open c) told old new does = Nothing
taken_by (Piece c bytes) told old new does = does.taken
taken_by (End c) told old new does = does.taken
taken_by (Fault c) told old new does = does.taken
taken_by (Wrote c count) told old new does = does.taken
taken_by (Turn t) told old new does = Nothing

-- the table of changes
changes : (event : Event) (told : Told) (old new : State) (does : Does event told old new)
    → ChangesSlices event told (taken_by event told old new does) old new
unfolding taken_by
changes (Open c) told old new does = opens_and_stays told old new does
changes (Piece c bytes) told old new does = enters (Piece c bytes) c told old new does
changes (End c) told old new does = enters (End c) c told old new does
changes (Fault c) told old new does = lost_and_stays c told old new does
changes (Wrote c count) told old new does = enters (Wrote c count) c told old new does
changes (Turn t) told old new does = turns_change t told old new does

opens_book : (c : ℕ) (told : Told) (old new : State) → c ≡ next_of old → Opens told old new → BookOpens c told (book_of old) (book_of new)
opens_book c told old new number (inl h) =
    let P : Option Refused → Type 0 = λ refused. MatchOption refused ((connection_of c new ≡ Some new_connection)
    × KeepsOthers c (book_of old) (book_of new)) (λ why. KeepsConnections (book_of old) (book_of new)) in
    subst P (sym h.refused) (subst (λ n. (connection_of n new ≡ Some new_connection) × KeepsOthers n (book_of old) (book_of new))
    (sym number) (h.connection, h.connections))
opens_book c told old new number (inr h) =
    let P : Option Refused → Type 0 = λ refused. MatchOption refused ((connection_of c new ≡ Some new_connection)
    × KeepsOthers c (book_of old) (book_of new)) (λ why. KeepsConnections (book_of old) (book_of new)) in
    subst P (sym h.refused) h.same.connections

turns_book : (t : ℕ) (told : Told) (old new : State) → Turns t told old new → BookTurns told (book_of old) (book_of new)
turns_book t told old new (inl h) =
    let P : Option Tell → Type 0 = λ reply. MatchOption reply (KeepsConnections (book_of old) (book_of new))
    (λ tell. TellsOn tell (book_of old) (book_of new)) in
    subst P (sym h.reply) h.same.connections
turns_book t told old new (inr (inl h)) =
    let P : Option Tell → Type 0 = λ reply. MatchOption reply (KeepsConnections (book_of old) (book_of new))
    (λ tell. TellsOn tell (book_of old) (book_of new)) in
    subst P (sym h.reply) h.same.connections
turns_book t told old new (inr (inr h)) =
    let P : Option Tell → Type 0 = λ reply. MatchOption reply (KeepsConnections (book_of old) (book_of new))
    (λ tell. TellsOn tell (book_of old) (book_of new)) in
    subst P (sym h.reply) h.tells

-- the book-keeping
books : (event : Event) (told : Told) (old new : State) → IsAllowed event old → (does : Does event told old new)
    → BookStep (keys_of old) event told (taken_by event told old new does) (book_of old) (book_of new)
unfolding taken_by
books (Open c) told old new allowed does = (refl, opens_book c told old new allowed does)
books (Piece c bytes) told old new allowed does = does.hears
books (End c) told old new allowed does = does.hears
books (Fault c) told old new allowed does = does.hears
books (Wrote c count) told old new allowed does = does.hears
books (Turn t) told old new allowed does = (refl, turns_book t told old new does)

pub does_change : EachEventChangesSoMuch
does_change event told old new does = (
  taken_by event told old new does,
  changes event told old new does,
  λ allowed. books event told old new allowed does,
)

-- numbers are given in order
next_grows : (event : Event) (told : Told) (old new : State) → Does event told old new → next_of old ≤ next_of new
next_grows (Open c) told old new (inl h) = omega (arith, h.next)
next_grows (Open c) told old new (inr h) = omega (arith, h.same.keeps.next)
next_grows (Piece c bytes) told old new h = omega (arith, h.keeps.next)
next_grows (End c) told old new h = omega (arith, h.keeps.next)
next_grows (Fault c) told old new h = omega (arith, h.keeps.next)
next_grows (Wrote c count) told old new h = omega (arith, h.keeps.next)
next_grows (Turn t) told old new (inl h) = omega (arith, h.same.keeps.next)
next_grows (Turn t) told old new (inr (inl h)) = omega (arith, h.same.keeps.next)
next_grows (Turn t) told old new (inr (inr h)) = omega (arith, h.keeps.next)

-- a connection that opens has the next number, which no other has then
abbrev pub IsNumbered : Event → Told → State → State → Type 0
IsNumbered (Open c) told old new = (c ≡ next_of old) × (told.refused ≡ None → c < next_of new)
IsNumbered (Piece c bytes) told old new = Unit {0}
IsNumbered (End c) told old new = Unit {0}
IsNumbered (Fault c) told old new = Unit {0}
IsNumbered (Wrote c count) told old new = Unit {0}
IsNumbered (Turn t) told old new = Unit {0}

numbered : (event : Event) (told : Told) (old new : State) → IsAllowed event old → Does event told old new → IsNumbered event told old new
numbered (Open c) told old new allowed (inl h) = (allowed, λ none. omega (arith, h.next, allowed))
numbered (Open c) told old new allowed (inr h) = (allowed, λ none. absurd (none_some (sym none ∙ h.refused)))
numbered (Piece c bytes) told old new allowed h = tt
numbered (End c) told old new allowed h = tt
numbered (Fault c) told old new allowed h = tt
numbered (Wrote c count) told old new allowed h = tt
numbered (Turn t) told old new allowed h = tt

-- what proofs about runs see of an event
pub record IsSeen (event : Event) (told : Told) (old new : State) : Type 0 where
  pub taken : Taken
  pub changes : ChangesSlices event told taken old new
  pub books : BookStep (keys_of old) event told taken (book_of old) (book_of new)
  pub keys : keys_of new ≡ keys_of old
  pub next : next_of old ≤ next_of new
  pub numbers : IsNumbered event told old new

pub seen : (event : Event) (told : Told) (old new : State) → IsAllowed event old → Does event told old new → IsSeen event told old new
seen event told old new allowed does = record {
  taken = taken_by event told old new does;
  changes = changes event told old new does;
  books = books event told old new allowed does;
  keys = keys_stay event told old new does;
  next = next_grows event told old new does;
  numbers = numbered event told old new allowed does;
}
