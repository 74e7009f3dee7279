-- The calls of a wire.
use Rattle.std.specs.Prelude.{◌≡◌, ℕ, ◌≤◌, Bool, List, [], ◌∷◌, length, take}
use Rattle.ports_serve.specs.declared.wire.Outcome.{Outcome}
use Rattle.ports_serve.specs.declared.wire.Outcome.TheVariants.{Nothing, Got, End, Fault}

-- A call of a wire, and what it brought. `Accept`: a client for this number, by a caller that is idle or
-- isn't. `Read`: bytes of a connection, if so many were asked for. `Write`: how many of these bytes were
-- written to a connection. `Shut`: a connection was dropped.
pub data Call : Type 0 where
  Accept : ℕ → Bool → Outcome (Unit {0}) → Call
  Read : ℕ → ℕ → Outcome (List ℕ) → Call
  Write : ℕ → List ℕ → Outcome ℕ → Call
  Shut : ℕ → Call

-- no more came, or was written, than there was room for
abbrev pub GotWithin : ℕ → Outcome ℕ → Type 0
GotWithin most Nothing = Unit {0}
GotWithin most (Got count) = count ≤ most
GotWithin most End = Unit {0}
GotWithin most Fault = Unit {0}

-- the bytes that a read brought, in the front of its buffer
abbrev pub read_outcome : List ℕ → Outcome ℕ → Outcome (List ℕ)
read_outcome buffer Nothing = Nothing
read_outcome buffer (Got count) = Got (take count buffer)
read_outcome buffer End = End
read_outcome buffer Fault = Fault

-- what a wire is after a list of calls, each of which leads on from what it was before
abbrev pub Leads : {W : Type 0} → (W → Call → W → Type 0) → W → List Call → W → Type 0
Leads After old [] new = new ≡ old
Leads {W} After old (call ∷ calls) new = (mid : W) × After old call mid × Leads After mid calls new

-- a wire was asked for bytes of a connection, as many as a buffer has, and this is in that buffer after it
abbrev pub FillsFront : {W : Type 0} → (W → Call → W → Type 0) → ℕ → (before buffer : List ℕ) → Outcome ℕ → W → W → Type 0
FillsFront After c before buffer outcome old new = After old (Read c (length before) (read_outcome buffer outcome)) new

-- a wire was asked for bytes of a connection, at most so many, and this is in its buffer after it
abbrev pub ReadsInto : {W : Type 0} → (W → Call → W → Type 0) → ℕ → ℕ → List ℕ → Outcome ℕ → W → W → Type 0
ReadsInto After c size buffer outcome old new = After old (Read c size (read_outcome buffer outcome)) new
