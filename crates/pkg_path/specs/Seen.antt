-- How the definitions see the types of the code.
use Rattle.std.specs.Prelude.{ℕ, List, map, Option, Some, None, string_bytes, Result, Vec, String, IfOk, ◌≡◌, filter}
use Rattle.std.specs.Prelude.{option_map, find, IsErrOf, Err, Bool, IsTrue, ◌↔◌}
use Rattle.std.specs.Global.{Global}
use Rattle.std.specs.Borrow.{Bor}
use Rattle.std.specs.declared.fmt.Error.{Error}
use Rattle.std.specs.declared.fmt.Formatter.{Formatter}
use Rattle.std.specs.Fmt.{DisplaysOnOk}
use Rattle.pkg_path.specs.declared.flavors.Flavors.{Flavors}
use Rattle.pkg_path.specs.declared.flavors.Flavors.TheVariants.{Default, Explicit}
use Rattle.pkg_path.specs.Paths.{is_flavor, is_subpackage, choices_text, flavor_choices, path_of}
use Rattle.text_parts.specs.Cuts.{now_all}
use Rattle.pkg_path.specs.declared.faults.PkgPathFault.{PkgPathFault}

-- the flavors, if some are chosen
abbrev pub flavors_seen : Flavors → Option (List (List ℕ))
flavors_seen Default = None
flavors_seen (Explicit flavors) = Some (map string_bytes flavors.items)

-- where a function succeeds, it gives those of these choices that are flavors
abbrev pub FindsFlavors : {F : Type 0} → Result (Vec (String Global) Global) F → List (Bor (List ℕ)) → Type 0
FindsFlavors result choices = IfOk result (λ flavors. map string_bytes flavors.items ≡ filter is_flavor (now_all choices))

-- where a function succeeds, it gives the first of these choices that is a subpackage, if one is
abbrev pub GivesSubpackage : {F : Type 0} → Result (Option (String Global)) F → List (Bor (List ℕ)) → Type 0
GivesSubpackage result choices = IfOk result (λ name. option_map string_bytes name ≡ find is_subpackage (now_all choices))

-- these choices are displayed
abbrev pub WritesChoices : {W : Type 0} → (W → List ℕ → W → Type 0)
    → Result (Unit {0}) Error → Formatter W → Formatter W → List (List ℕ) → Type 0
WritesChoices took result old new choices = DisplaysOnOk took old result (Some (choices_text choices)) new

-- the choices of these flavors are displayed
abbrev pub WritesFlavors : {W : Type 0} → (W → List ℕ → W → Type 0)
    → Result (Unit {0}) Error → Formatter W → Formatter W → Flavors → Type 0
WritesFlavors took result old new flavors = WritesChoices took result old new (flavor_choices (flavors_seen flavors))

-- if a function fails with this fault, so does reading this text as a path
abbrev pub FailsReading : {R : Type 0} → Result R PkgPathFault → PkgPathFault → List ℕ → Type 0
FailsReading result fault text = IsErrOf result fault → path_of text ≡ Err fault

-- where a function succeeds, it copied this name, if there is one
abbrev pub CopiesName : {F : Type 0} → Result (Option (String Global)) F → Option (String Global) → Type 0
CopiesName result name = IfOk result (λ copied. option_map string_bytes copied ≡ option_map string_bytes name)

-- a function tells whether these names are the same text, or neither is there
abbrev pub TellsSameName : Bool → Option (String Global) → Option (String Global) → Type 0
TellsSameName result one other = IsTrue result ↔ (option_map string_bytes one ≡ option_map string_bytes other)
