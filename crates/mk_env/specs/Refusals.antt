-- Why a part of an expansion stopped. If memory ran out, nothing is said.
use Rattle.std.specs.Prelude.{◌≡◌, ◌≢◌, ◌<◌, ℕ, List, [], length, Option, None, Result, IfErr}
use Rattle.mk_base.specs.declared.stops.PureStop.{PureStop}
use Rattle.mk_base.specs.declared.stops.PureStop.TheVariants as pure
use Rattle.mk_base.specs.declared.faults.FaultKind.{FaultKind}
use Rattle.mk_base.specs.declared.faults.FaultKind.TheVariants as kinds
use Rattle.mk_text.specs.declared.limits.TheConstants.{TEXT_LIMIT}
use Rattle.mk_ref.specs.Atoms.{left_of}

-- it stopped at a fault of this kind, and this holds, or it was out of memory
abbrev pub StopsBy : FaultKind → Type 0 → PureStop FaultKind → Type 0
StopsBy kind reason (pure.Fault found) = (found ≡ kind) × reason
StopsBy kind reason (pure.Memory _) = Unit {0}

-- why a text wasn't cut: a reference in it doesn't end
abbrev pub IsUncut : List ℕ → PureStop FaultKind → Type 0
IsUncut text stop = StopsBy kinds.Reference (left_of text ≢ []) stop

-- why a text wasn't joined on: the whole is too long
abbrev pub IsTooLong : List ℕ → PureStop FaultKind → Type 0
IsTooLong whole stop = StopsBy kinds.Length (TEXT_LIMIT < length whole) stop

-- why modifiers weren't read: they can't be
abbrev pub IsUnread : {X : Type 0} → Option X → PureStop FaultKind → Type 0
IsUnread read stop = StopsBy kinds.Modifier (read ≡ None) stop

-- why a value wasn't made: there is none within the limit
abbrev pub IsUnmade : {X : Type 0} → Option X → PureStop FaultKind → Type 0
IsUnmade made stop = StopsBy kinds.Length (made ≡ None) stop

-- if it stopped, there is no value within the limit
abbrev pub StopsUnmade : {R X : Type 0} → Result R (PureStop FaultKind) → Option X → Type 0
StopsUnmade result made = IfErr result (IsUnmade made)
