-- A spec as the set of the packages' names that it admits: a union over alternatives of intersections over
-- comparisons and flavors (packages-specs(7)). A set of names is its test.
use Rattle.std.specs.Prelude.{ℕ, ◌||◌, Bool, not, List, [], ◌∷◌, ◌++◌, map, codes, Result, Ok, Err, ◌≡◌}
use Rattle.std.specs.List.{list_all, list_any}
use Rattle.std.specs.Ordering.{is_lt, is_le, is_eq, is_ge, is_gt}
use Rattle.std.specs.Str.{bytes_eq}
use Rattle.std.specs.declared.cmp.Ordering.{Ordering}
use Rattle.pkg_name.specs.Name.{NameParts}
use Rattle.pkg_name.specs.Order.{version_cmp}
use Rattle.pkg_spec.specs.Alternatives.{ComparisonValue, AlternativeValue, spec_of}
use Rattle.pkg_spec.specs.declared.comparisons.ComparisonSign.{ComparisonSign}
use Rattle.pkg_spec.specs.declared.comparisons.ComparisonSign.TheVariants.{Below, AtMost, Equals, AtLeast, Above}
use Rattle.pkg_spec.specs.declared.faults.SpecFault.{SpecFault}

abbrev pub NameSet : Type 0
NameSet = NameParts → Bool

abbrev pub union : List NameSet → NameSet
union sets = λ name. list_any (λ set. set name) sets

abbrev pub intersection : List NameSet → NameSet
intersection sets = λ name. list_all (λ set. set name) sets

-- whether a version that compares like this meets a sign
abbrev pub allows_ordering : ComparisonSign → Ordering → Bool
allows_ordering Below = is_lt
allows_ordering AtMost = is_le
allows_ordering Equals = is_eq
allows_ordering AtLeast = is_ge
allows_ordering Above = is_gt

-- the names with this stem; `STEM` means every stem
abbrev pub with_stem : List ℕ → NameSet
with_stem stem = λ name. bytes_eq stem (codes "STEM") || bytes_eq stem name.stem

-- the names whose version meets a comparison
abbrev pub meeting : ComparisonValue → NameSet
meeting comparison = λ name. allows_ordering comparison.sign (version_cmp name.version comparison.version)

-- the names that have a flavor, and those that don't
abbrev pub having : List ℕ → NameSet
having flavor = λ name. list_any (bytes_eq flavor) name.flavors

abbrev pub lacking_flavor : List ℕ → NameSet
lacking_flavor flavor = λ name. not (having flavor name)

-- what an alternative admits
abbrev pub set_of_alternative : AlternativeValue → NameSet
set_of_alternative alternative =
    intersection (with_stem alternative.stem ∷ map meeting alternative.comparisons ++ map having alternative.wanted
    ++ map lacking_flavor alternative.forbidden)

-- what alternatives admit
abbrev pub set_of : List AlternativeValue → NameSet
set_of alternatives = union (map set_of_alternative alternatives)

-- the text of a spec, with its alternatives
pub record IsSpec (text : List ℕ) (alternatives : List AlternativeValue) : Type 0 where
  pub read : spec_of text ≡ Ok alternatives

-- what the spec of a text admits; a text that is no spec admits nothing
abbrev pub set_of_reading : Result (List AlternativeValue) SpecFault → NameSet
set_of_reading (Ok alternatives) = set_of alternatives
set_of_reading (Err fault) = union []

abbrev pub admitted_by : List ℕ → NameSet
admitted_by text = set_of_reading (spec_of text)
