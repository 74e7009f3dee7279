use Rattle.std.specs.Prelude.{string_bytes, Result, List, ℕ}
use Rattle.mk_loop.specs.declared.joined_text.Joined.{Joined}
use Rattle.mk_loop.specs.BodyLine.{SoFar, with_loop_word}
use Rattle.mk_base.specs.declared.stops.PureStop.{PureStop}
use Rattle.mk_base.specs.declared.faults.FaultKind.{FaultKind}
use Rattle.mk_base.specs.Meter.{Meter}
use Rattle.mk_base.specs.Stops.{GivesPurely}

-- what is joined so far
abbrev pub so_far : Joined → SoFar
so_far joined = record { text = string_bytes joined.text; replaced = joined.replaced }

-- a function joins this word to what was made so far, whatever the meter has counted
abbrev pub JoinsWord : Result Joined (PureStop FaultKind) → Joined → List ℕ → Type 0
JoinsWord result joined word = (m : Meter) → GivesPurely so_far result m (with_loop_word (so_far joined) word m)
