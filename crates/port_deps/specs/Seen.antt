-- How the definitions see the types and the texts of the code.
use Rattle.std.specs.Prelude.{◌≢◌, ℕ, List, ◌∷◌}
use Rattle.std.specs.Option.{option_copied}
use Rattle.port_deps.specs.ItemText.{PartsValue}
use Rattle.general_facts.specs.Ascii.{colon}
use Rattle.port_deps.specs.Statuses.{FoundValue}
use Rattle.port_deps.specs.Statuses as found
use Rattle.port_deps.specs.declared.item_text.Parts.{Parts}
use Rattle.port_deps.specs.declared.statuses.Found.{Found}
use Rattle.port_deps.specs.declared.statuses.Found.TheVariants.{NotThere, Faulted, NotPort, Port}

-- the parts of an item
abbrev pub parts_seen : Parts → PartsValue
parts_seen parts = record { spec = option_copied parts.spec; path = parts.path.now }

-- what was found
abbrev pub found_seen : Found → FoundValue
found_seen NotThere = found.NotThere
found_seen (Faulted kind) = found.Faulted kind
found_seen NotPort = found.NotPort
found_seen (Port port) = found.Port port.now

-- a text doesn't begin with a colon
abbrev pub BeginsWithNoColon : List ℕ → Type 0
BeginsWithNoColon text = (rest : List ℕ) → text ≢ colon ∷ rest
