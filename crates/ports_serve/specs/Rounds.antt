-- Serving, round by round: what a wire is asked, and what its answers make happen to a service.
use Rattle.std.specs.Prelude.{◌≡◌, ◌≢◌, ◌⊎◌, ℕ, zero, suc, ◌<◌, ◌==◌, min, Bool, true, false, not, ◌||◌}
use Rattle.std.specs.Prelude.{List, [], ◌∷◌, ◌++◌, map, length, Option, Some, None, is_some, Vec}
use Rattle.std.specs.declared.alloc.Global.{Global}
use Rattle.std.specs.List.{list_any}
use Rattle.std.specs.Option.{option_to_list}
use Rattle.ports_core.specs.declared.event.Event.{Event}
use Rattle.ports_core.specs.declared.event.Event.TheVariants as events
use Rattle.ports_core.specs.declared.event.Told.{Told}
use Rattle.ports_core.specs.declared.event.Refused.{Refused}
use Rattle.ports_core.specs.Effects.{Effect}
use Rattle.ports_core.specs.State.{State, keys_of, next_of, connections_of, room_at, pending_at, waiting_at}
use Rattle.ports_core.specs.Runs.{Happens, Run}
use Rattle.ports_serve.specs.declared.wire.Outcome.{Outcome}
use Rattle.ports_serve.specs.declared.wire.Outcome.TheVariants.{Nothing, Got, End, Fault}
use Rattle.ports_serve.specs.Calls.{Call, Accept, Read, Write, Shut, Leads}

-- what happened: the calls of the wire, and the events with their effects
pub record Course : Type 0 where
  pub calls : List Call
  pub events : List Event
  pub steps : List Effect

-- nothing happened
abbrev pub quiet : Course
quiet = record { calls = []; events = []; steps = [] }

-- one after the other
abbrev pub joined_courses : Course → Course → Course
joined_courses first rest =
    record { calls = first.calls ++ rest.calls; events = first.events ++ rest.events; steps = first.steps ++ rest.steps }

-- a call of the wire, and no event
abbrev pub called : Call → Course
called call = record { calls = call ∷ []; events = []; steps = [] }

-- the connection that was to open and isn't
abbrev pub unopened : Event → Option Refused → List ℕ
unopened (events.Open c) (Some why) = c ∷ []
unopened event refused = []

-- the connections that are dropped after an event: one that isn't opened, and one that closes
abbrev pub shuts : Event → Told → List Call
shuts event told = map Shut (unopened event told.refused) ++ map Shut (option_to_list told.closed)

-- an event that may happen happens, and what it refuses or closes is shut
pub record HappensOn (event : Event) (old : State) (course : Course) (new : State) : Type 0 where
  pub step : Effect
  pub happens : Happens event step old new
  pub course_is : course ≡ record { calls = shuts event step.told; events = event ∷ []; steps = step ∷ [] }

-- no call and no event
abbrev pub ChangesNothing : State → Course → State → Type 0
ChangesNothing old course new = (course ≡ quiet) × (new ≡ old)

-- a call, and what its answer makes happen, if anything
abbrev pub Follows : Call → Option Event → State → Course → State → Type 0
Follows call None old course new = (course ≡ called call) × (new ≡ old)
Follows call (Some event) old course new =
    (behind : Course) × HappensOn event old behind new × (course ≡ joined_courses (called call) behind)

-- a client that comes opens the next connection
abbrev pub opening : ℕ → Outcome (Unit {0}) → Option Event
opening c (Got client) = Some (events.Open c)
opening c outcome = None

-- a client is asked for, for the next number, by a caller that is idle or isn't
abbrev pub Accepts : Bool → State → Course → State → Type 0
Accepts idle old course new =
    (outcome : Outcome (Unit {0}))
    × Follows (Accept (next_of old) idle outcome) (opening (next_of old) outcome) old course new

-- these bytes are a piece of a connection's stream
abbrev pub HearsPiece : ℕ → List ℕ → State → Course → State → Type 0
HearsPiece c bytes old course new = (piece : Vec ℕ Global) × (piece.items ≡ bytes) × HappensOn (events.Piece c piece) old course new

-- what a read brings: bytes are a piece of the stream
abbrev pub Brings : ℕ → ℕ → Outcome (List ℕ) → State → Course → State → Type 0
Brings c size (Got bytes) old course new =
    (behind : Course) × HearsPiece c bytes old behind new
    × (course ≡ joined_courses (called (Read c size (Got bytes))) behind)
Brings c size End old course new = Follows (Read c size End) (Some (events.End c)) old course new
Brings c size Fault old course new = Follows (Read c size Fault) (Some (events.Fault c)) old course new
Brings c size Nothing old course new = Follows (Read c size Nothing) None old course new

-- the most bytes that are read of a connection at once
abbrev pub most_at_once : ℕ
most_at_once = 16384

-- A connection is read once. As many bytes are asked for as it has room for, up to the most that are read
-- at once. If it has no room, it isn't read.
abbrev pub ReadsOnce : ℕ → State → Course → State → Type 0
ReadsOnce c old course new =
    ((room_at c old ≡ 0) × ChangesNothing old course new)
    ⊎ ((0 < room_at c old) × (outcome : Outcome (List ℕ)) × Brings c (min (room_at c old) most_at_once) outcome old course new)

-- what a write makes happen
abbrev pub writing : ℕ → Outcome ℕ → Option Event
writing c (Got count) = Some (events.Wrote c (Some count))
writing c Fault = Some (events.Fault c)
writing c outcome = None

-- a connection's pending bytes are written once, if there are some
abbrev pub Writes : ℕ → State → Course → State → Type 0
Writes c old course new =
    ((pending_at c old ≡ []) × ChangesNothing old course new)
    ⊎ ((pending_at c old ≢ []) × (outcome : Outcome ℕ) × Follows (Write c (pending_at c old) outcome) (writing c outcome) old course new)

-- a tenant has its turn
abbrev pub TakesTurn : ℕ → State → Course → State → Type 0
TakesTurn t old course new = HappensOn (events.Turn t) old course new

-- the same for each of a list, one after another
abbrev pub Each : (ℕ → State → Course → State → Type 0) → List ℕ → State → Course → State → Type 0
Each P [] old course new = ChangesNothing old course new
Each P (x ∷ xs) old course new =
    (first : Course) × (mid : State) × (rest : Course) × P x old first mid × Each P xs mid rest new × (course ≡ joined_courses first rest)

-- so many numbers, from this one on
abbrev pub numbers_from : ℕ → ℕ → List ℕ
numbers_from first zero = []
numbers_from first (suc count) = first ∷ numbers_from (suc first) count

-- A round, whose caller is idle or isn't. At most one client is accepted. Each connection that is open then
-- is read, each that is open after that is written to, and each tenant has a turn.
pub record IsRound (idle : Bool) (old : State) (course : Course) (new : State) : Type 0 where
  pub opened : State
  pub accepting : Course
  pub accepts : Accepts idle old accepting opened
  pub heard : State
  pub reading : Course
  pub reads : Each ReadsOnce (connections_of opened) opened reading heard
  pub written : State
  pub answering : Course
  pub writes : Each Writes (connections_of heard) heard answering written
  pub working : Course
  pub turns : Each TakesTurn (numbers_from 0 (length (keys_of written))) written working new
  pub course_is : course ≡ joined_courses accepting (joined_courses reading (joined_courses answering working))

-- an event comes from a client: it isn't a turn
abbrev pub comes : Event → Bool
comes (events.Turn t) = false
comes event = true

-- a reply is told at a step
abbrev pub replies : Effect → Bool
replies step = is_some step.told.reply

-- something comes from a client in a course, or a reply is told
abbrev pub brings : Course → Bool
brings course = list_any comes course.events || list_any replies course.steps

-- a request waits for a turn of some tenant
abbrev pub waits : State → Bool
waits state = list_any (λ t. not (waiting_at t state == 0)) (numbers_from 0 (length (keys_of state)))

-- after a course that leaves this state the caller is idle: the course brought nothing, and no request waits
abbrev pub is_idle : Course → State → Bool
is_idle course state = not (brings course || waits state)

-- So many rounds, of which the first has a caller that is idle or isn't. In each later one, the caller is idle
-- exactly if it is after the round before.
abbrev pub Rounds : ℕ → Bool → State → Course → State → Type 0
Rounds zero idle old course new = ChangesNothing old course new
Rounds (suc count) idle old course new =
    (first : Course) × (mid : State) × (rest : Course) × IsRound idle old first mid
    × Rounds count (is_idle first mid) mid rest new × (course ≡ joined_courses first rest)

-- A wire and a service go through a course of some kind, call by call, and the events of the course
-- are a run of the service.
pub record Goes {W : Type 0} (After : W → Call → W → Type 0) (P : State → Course → State → Type 0)
    (old_wire : W) (old : State) (new_wire : W) (new : State) : Type 0 where
  pub course : Course
  pub goes : P old course new
  pub wire : Leads After old_wire course.calls new_wire
  pub run : Run old course.events course.steps new

-- A service is served so many rounds: each event is what the wire's answers make happen, or a turn. In the
-- first round the caller isn't idle.
abbrev pub IsServed : {W : Type 0} → (W → Call → W → Type 0) → ℕ → W → State → W → State → Type 0
IsServed After rounds old_wire old new_wire new = Goes After (Rounds rounds false) old_wire old new_wire new
