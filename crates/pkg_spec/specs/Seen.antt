-- How the definitions see the types of the code.
use Rattle.std.specs.Prelude.{◌≡◌, ℕ, Bool, false, ◌&&◌, List, map, String, string_bytes}
use Rattle.std.specs.List.{list_all, list_any, filter_map}
use Rattle.std.specs.Result.{result_ok}
use Rattle.std.specs.declared.alloc.Global.{Global}
use Rattle.pkg_name.specs.Name.{NameParts}
use Rattle.pkg_spec.specs.NameSet.{meeting, having, lacking_flavor, set_of_alternative}
use Rattle.pkg_spec.specs.Alternatives.{ComparisonValue, AlternativeValue, alternative_of, is_refused}
use Rattle.pkg_spec.specs.declared.comparisons.Comparison.{Comparison}
use Rattle.pkg_spec.specs.declared.alternatives.Alternative.{Alternative}
use Rattle.pkg_spec.specs.declared.spec.Reading.{Reading}
use Rattle.pkg_spec.specs.declared.faults.SpecFault.{SpecFault}
use Rattle.pkg_spec.specs.declared.faults.SpecFault.TheVariants.{NoStem, BadVersion, EmptyAlternative, Memory}

-- a comparison, its version as bytes
abbrev pub comparison_seen : Comparison → ComparisonValue
comparison_seen comparison = record { sign = comparison.sign; version = comparison.version }

-- an alternative, its texts as bytes
abbrev pub alternative_seen : Alternative → AlternativeValue
alternative_seen alternative = record {
  stem = string_bytes alternative.stem;
  comparisons = map comparison_seen alternative.comparisons.items;
  wanted = map string_bytes alternative.wanted.items;
  forbidden = map string_bytes alternative.forbidden.items;
}

-- a name's version meets each of these comparisons
abbrev pub meets_comparisons : List Comparison → NameParts → Bool
meets_comparisons comparisons name = list_all (λ comparison. meeting (comparison_seen comparison) name) comparisons

-- a name has each of these flavors
abbrev pub has_all : List (String Global) → NameParts → Bool
has_all wanted name = list_all (λ flavor. having (string_bytes flavor) name) wanted

-- a name has none of these flavors
abbrev pub has_none : List (String Global) → NameParts → Bool
has_none forbidden name = list_all (λ flavor. lacking_flavor (string_bytes flavor) name) forbidden

-- a name has the flavors that an alternative wants, and none that it forbids
abbrev pub admits_flavors : Alternative → NameParts → Bool
admits_flavors alternative name = has_all alternative.wanted.items name && has_none alternative.forbidden.items name

-- an alternative admits a name, if their stems fit
abbrev pub admits_after_stem : Alternative → NameParts → Bool
admits_after_stem alternative name = meets_comparisons alternative.comparisons.items name && admits_flavors alternative name

-- one of these alternatives admits a name
abbrev pub one_admits : List Alternative → NameParts → Bool
one_admits alternatives name = list_any (λ alternative. set_of_alternative (alternative_seen alternative) name) alternatives

-- what was read of parts: the alternatives that were kept, and for each refusal whether one of
-- the parts had it
pub record ReadsParts (parts : List (List ℕ)) (reading : Reading) : Type 0 where
  pub kept : map alternative_seen reading.alternatives.items ≡ filter_map result_ok (map alternative_of parts)
  pub no_stem : reading.no_stem ≡ list_any (is_refused NoStem) (map alternative_of parts)
  pub bad_version : reading.bad_version ≡ list_any (is_refused BadVersion) (map alternative_of parts)
  pub empty : reading.empty ≡ list_any (is_refused EmptyAlternative) (map alternative_of parts)

-- whether a refusal is noted in a reading
abbrev pub has_noted : SpecFault → Reading → Bool
has_noted NoStem reading = reading.no_stem
has_noted BadVersion reading = reading.bad_version
has_noted EmptyAlternative reading = reading.empty
has_noted (Memory _) reading = false
