-- What an event tells.
use Rattle.std.specs.Prelude.{◌≡◌, ℕ, Bool, ◌==◌, Some, None}
use Rattle.ports_http.specs.Messages.{ReplyMessage}
use Rattle.turn_amounts.specs.declared.spent.Spent.{Spent}
use Rattle.ports_core.specs.declared.event.Told.{Told}
use Rattle.ports_core.specs.declared.event.Tell.{Tell}

-- a reply to a request that entered no queue
abbrev pub at_once : ℕ → ReplyMessage → Tell
at_once conn reply = record { tenant = None; conn = conn; reply = reply }

-- a reply to a tenant's request, in a turn of the tenant
abbrev pub in_turn : ℕ → ℕ → ReplyMessage → Tell
in_turn tenant conn reply = record { tenant = Some tenant; conn = conn; reply = reply }

-- 503, which is answered if the service failed: it changed nothing
abbrev pub is_failure : ℕ → Bool
is_failure status = status == 503

-- what an event tells as spent
abbrev pub spent_as_told : Told → Spent
spent_as_told told = record { units = told.units; checks = told.checks }

-- no unit of work and no checked answer is counted
abbrev pub CountsNone : Told → Type 0
CountsNone told = (told.units ≡ 0) × (told.checks ≡ 0)
