-- The laws of the order of versions and of names' texts, in the words of a packager.
use Rattle.std.specs.Prelude.{◌≡◌, ◌⊎◌, ◌↔◌, ℕ, List, Some}
use Rattle.std.specs.Ordering.{ordering_reverse}
use Rattle.std.specs.declared.cmp.Ordering.TheVariants.{Less, Equal}
use Rattle.pkg_name.specs.Order.{version_cmp}
use Rattle.pkg_name.specs.Name.{NameParts, split_name, name_text}

-- the first version is lower than the second
abbrev pub IsLower : List ℕ → List ℕ → Type 0
IsLower version other = version_cmp version other ≡ Less

-- of two versions, the first is lower, or the second is, or they are the same text
abbrev pub AnyTwoCompare : Type 0
AnyTwoCompare = (version other : List ℕ) → IsLower version other ⊎ (version ≡ other) ⊎ IsLower other version

-- if a version is lower than another, the other isn't lower than it; so no version is lower than itself
abbrev pub NeverBothLower : Type 0
NeverBothLower = (version other : List ℕ) → IsLower version other → ¬ (IsLower other version)

-- if a version is lower than a second one, and that is lower than a third, the first is lower than the third
abbrev pub LowerThanLower : Type 0
LowerThanLower = (first second third : List ℕ) → IsLower first second → IsLower second third → IsLower first third

-- two versions are equal exactly if their texts are the same
abbrev pub EqualAsTexts : Type 0
EqualAsTexts = (version other : List ℕ) → (version_cmp version other ≡ Equal) ↔ (version ≡ other)

-- comparing two versions the other way round gives the opposite result
abbrev pub OtherWayRound : Type 0
OtherWayRound = (version other : List ℕ) → version_cmp version other ≡ ordering_reverse (version_cmp other version)

-- the text of a name that was split is the text that was split
abbrev pub NameIsItsText : Type 0
NameIsItsText = (text : List ℕ) (parts : NameParts) → split_name text ≡ Some parts → name_text parts ≡ text
