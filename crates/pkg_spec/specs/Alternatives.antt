-- Specs of packages (packages-specs(7)): alternatives, each a stem, the versions that it takes and maybe
-- flavors, as in `foo->=1.0,<2-gtk-!debug|bar-*`. What is refused, and the order of the refusals, is this
-- project's choice.
use Rattle.std.specs.Prelude.{ℕ, ◌==◌, ◌&&◌, ◌||◌, if◌then◌else◌, Bool, true, false, not, List, [], ◌∷◌, length, drop}
use Rattle.std.specs.Prelude.{map, filter, slice_index, nat_eq, Option, Some, None, Result, Ok, Err, codes}
use Rattle.std.specs.List.{slice_split, list_all, list_any, starts_with, filter_map}
use Rattle.std.specs.Char.{is_ascii_digit}
use Rattle.std.specs.Result.{result_ok}
use Rattle.std.specs.Str.{bytes_eq}
use Rattle.general_facts.specs.Ascii.{bang, star, comma, less_sign, equals_sign, greater_sign, bar}
use Rattle.text_parts.specs.Cuts.{Cut, cut_where}
use Rattle.pkg_name.specs.Version.{is_version}
use Rattle.general_facts.specs.Ascii.{dash}
use Rattle.pkg_spec.specs.declared.comparisons.ComparisonSign.{ComparisonSign}
use Rattle.pkg_spec.specs.declared.comparisons.ComparisonSign.TheVariants.{Below, AtMost, Equals, AtLeast, Above}
use Rattle.pkg_spec.specs.declared.faults.SpecFault.{SpecFault}
use Rattle.pkg_spec.specs.declared.faults.SpecFault.TheVariants.{NoStem, BadVersion, EmptyAlternative, Memory}

-- a comparison: a version is compared with this one
pub record ComparisonValue : Type 0 where
  pub sign : ComparisonSign
  pub version : List ℕ

-- an alternative: a stem, comparisons that all hold, flavors that must be there, and flavors that must not
pub record AlternativeValue : Type 0 where
  pub stem : List ℕ
  pub comparisons : List ComparisonValue
  pub wanted : List (List ℕ)
  pub forbidden : List (List ℕ)

-- the sign that a comparison begins with, the longer one if two fit, and the version after it; without a
-- sign it is `=`
abbrev pub signed : List ℕ → ComparisonValue
signed text =
    if starts_with nat_eq text (codes "<=") then record { sign = AtMost; version = drop 2 text }
    else if starts_with nat_eq text (codes ">=") then record { sign = AtLeast; version = drop 2 text }
    else if starts_with nat_eq text (codes "<") then record { sign = Below; version = drop 1 text }
    else if starts_with nat_eq text (codes ">") then record { sign = Above; version = drop 1 text }
    else if starts_with nat_eq text (codes "=") then record { sign = Equals; version = drop 1 text }
    else record { sign = Equals; version = text }

-- a comparison has a version after its sign
abbrev pub is_comparison : List ℕ → Bool
is_comparison text = is_version (signed text).version

-- the comparison that a text is, if it is one
abbrev pub comparison_of : List ℕ → Option ComparisonValue
comparison_of text = if is_comparison text then Some (signed text) else None

-- the comparisons that texts are, if all of them are comparisons
abbrev pub comparisons_in : List (List ℕ) → Option (List ComparisonValue)
comparisons_in texts = if list_all is_comparison texts then Some (map signed texts) else None

-- the comparisons between the commas of a text
abbrev pub comparison_texts : List ℕ → List (List ℕ)
comparison_texts versions = slice_split (λ byte. byte == comma) versions

-- the versions of an alternative: `*`, which is no comparison, or comparisons
abbrev pub is_any : List ℕ → Bool
is_any versions = bytes_eq versions (codes "*")

abbrev pub are_versions : List ℕ → Bool
are_versions versions = is_any versions || list_all is_comparison (comparison_texts versions)

abbrev pub comparisons_of : List ℕ → List ComparisonValue
comparisons_of versions = if is_any versions then [] else map signed (comparison_texts versions)

-- the comparisons of the versions that a text is, if it is versions
abbrev pub versions_of : List ℕ → Option (List ComparisonValue)
versions_of text = if are_versions text then Some (comparisons_of text) else None

-- a flavor after `!` is forbidden, and any other is wanted
abbrev pub forbids : List ℕ → Bool
forbids [] = false
forbids (first ∷ name) = first == bang

-- the wanted ones of flavors
abbrev pub wanted_among : List (List ℕ) → List (List ℕ)
wanted_among flavors = filter (λ flavor. not (forbids flavor)) flavors

-- the names of the forbidden ones, without their `!`
abbrev pub forbidden_among : List (List ℕ) → List (List ℕ)
forbidden_among flavors = map (drop 1) (filter forbids flavors)

-- a flavor has a name
abbrev pub has_name : List ℕ → Bool
has_name flavor = not (bytes_eq flavor []) && not (bytes_eq flavor (codes "!"))

-- versions begin with a digit, `*`, or a sign
abbrev pub begins_versions : List ℕ → Bool
begins_versions text =
    let byte = slice_index text 0 in
    is_ascii_digit byte || byte == star || byte == less_sign || byte == equals_sign || byte == greater_sign

-- what is before the first dash that versions follow, and what follows that dash
abbrev pub at_versions : List ℕ → Option Cut
at_versions text = cut_where dash begins_versions text

-- the alternative of a stem and the words after it: the versions, and then the flavors
abbrev pub alternative_of_words : List ℕ → List (List ℕ) → Result AlternativeValue SpecFault
alternative_of_words stem [] = Err NoStem
alternative_of_words stem (versions ∷ flavors) =
    if are_versions versions && list_all has_name flavors
    then Ok (record {
      stem = stem;
      comparisons = comparisons_of versions;
      wanted = wanted_among flavors;
      forbidden = forbidden_among flavors;
    })
    else Err BadVersion

-- the alternative of a text that is cut before its versions: there must be a stem
abbrev pub alternative_of_cut : Option Cut → Result AlternativeValue SpecFault
alternative_of_cut None = Err NoStem
alternative_of_cut (Some cut) =
    if length cut.before == 0 then Err NoStem else alternative_of_words cut.before (slice_split (λ byte. byte == dash) cut.behind)

-- the alternative that a text is, or its refusal
unfoldable pub alternative_of : List ℕ → Result AlternativeValue SpecFault
alternative_of text = if length text == 0 then Err EmptyAlternative else alternative_of_cut (at_versions text)

-- the number of a refusal; running out of memory has none
abbrev pub refusal_number : SpecFault → Option ℕ
refusal_number NoStem = Some 1
refusal_number BadVersion = Some 2
refusal_number EmptyAlternative = Some 3
refusal_number (Memory _) = None

-- a reading had this refusal
abbrev pub is_refused : SpecFault → Result AlternativeValue SpecFault → Bool
is_refused NoStem (Err NoStem) = true
is_refused BadVersion (Err BadVersion) = true
is_refused EmptyAlternative (Err EmptyAlternative) = true
is_refused fault reading = false

-- the alternatives that were read, or the first refusal that one of them has
abbrev pub unless_refused : List (Result AlternativeValue SpecFault) → Result (List AlternativeValue) SpecFault
unless_refused readings =
    if list_any (is_refused NoStem) readings then Err NoStem
    else if list_any (is_refused BadVersion) readings then Err BadVersion
    else if list_any (is_refused EmptyAlternative) readings then Err EmptyAlternative
    else Ok (filter_map result_ok readings)

-- how the alternatives between the bars of a text are read
abbrev pub readings_of : List ℕ → List (Result AlternativeValue SpecFault)
readings_of text = map alternative_of (slice_split (λ byte. byte == bar) text)

-- the alternatives of a spec, or its refusal
unfoldable pub spec_of : List ℕ → Result (List AlternativeValue) SpecFault
spec_of text = unless_refused (readings_of text)
