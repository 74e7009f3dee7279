-- The paths on which an index depends.
use Rattle.std.specs.Prelude.{◌≡◌, ℕ, List, ◌++◌, map, Option, Result, IfOk, String, string_bytes, Vec}
use Rattle.std.specs.Global.{Global}
use Rattle.text_parts.specs.Order.{in_order}
use Rattle.port_index.specs.Index.{needed_among}
use Rattle.port_index.specs.PathOutcomes.{PathOutcome}
use Rattle.port_index.specs.Seen.{known_in}

-- each once: the listed paths, and those beside them
abbrev pub needed_with : List (List ℕ) → List (List ℕ) → List (List ℕ)
needed_with listed beside = in_order (listed ++ beside)

-- where a function succeeds, it gives paths that make all needed ones together with the listed ones, by these rows
abbrev pub GivesBeside : {E : Type 0} → Result (Vec (String Global) Global) E → List (List ℕ)
    → (List ℕ → Option PathOutcome) → Type 0
GivesBeside result listed entries =
    IfOk result (λ beside. needed_with listed (map string_bytes beside.items) ≡ needed_among (known_in entries) listed)
