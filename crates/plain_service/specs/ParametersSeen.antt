-- How often a parameter was found, in the terms of the definitions.
use Rattle.std.specs.Prelude.{◌≡◌, ℕ, List, Option, option_map, Result, IfOk}
use Rattle.std.specs.Cow.{cow_str_bytes}
use Rattle.std.specs.declared.borrow.CowStr.{CowStr}
use Rattle.plain_service.specs.Parameters.{Times, values_under}
use Rattle.plain_service.specs.Parameters as times
use Rattle.plain_service.specs.declared.parameters.Found.{Found}
use Rattle.plain_service.specs.declared.parameters.Found.TheVariants.{Never, Once, Often}

abbrev pub times_found : Found → Times
times_found Never = times.Never
times_found (Once value) = times.Once (cow_str_bytes value)
times_found Often = times.Often

-- where a function succeeds, it gives this value of a parameter, decoded, or none
abbrev pub GivesParameter : {Z E : Type 0} → Result (Option (CowStr Z)) E → Option (List ℕ) → Type 0
GivesParameter result value = IfOk result (λ found. option_map cow_str_bytes found ≡ value)

-- where a function succeeds, it says how often a query has a parameter of this name, with its value
abbrev pub SaysTimes : {E : Type 0} → Result Found E → List ℕ → List ℕ → Type 0
SaysTimes result name query = IfOk result (λ found. times_found found ≡ times.times (values_under name query))
