-- What a port is, by its variables (bsd.port.mk(5)).
use Rattle.std.specs.Prelude.{◌≡◌, ℕ, Bool, List, map, codes, Result, IfOk, String, Vec, string_bytes}
use Rattle.std.specs.Global.{Global}
use Rattle.std.specs.List.{list_any}
use Rattle.std.specs.Str.{bytes_eq}
use Rattle.mk_base.specs.declared.faults.FaultKind.{FaultKind}
use Rattle.mk_base.specs.Meter.{Meter}
use Rattle.mk_base.specs.Outcome.{Work, give, ◌>>=◌}
use Rattle.mk_env.specs.Texts.{Variables}
use Rattle.port_rules.specs.Values.{asked_text, asked_words}
use Rattle.port_rules.specs.Flavors.{FlavorsValue, flavors_read, flavor_marks}
use Rattle.port_rules.specs.Packages.{PackageValue, subpackages_of, packages_of}
use Rattle.port_rules.specs.Depends.{DependValue, depends_of}

-- a port: its flavors, who maintains it, its categories, its packages, and what it depends on
pub record PortValue : Type 0 where
  pub flavors : FlavorsValue
  pub maintainer : List ℕ
  pub categories : List (List ℕ)
  pub packages : List PackageValue
  pub depends : List DependValue

-- the port of these parts
abbrev pub make_port : FlavorsValue → List ℕ → List (List ℕ) → List PackageValue → List DependValue → PortValue
make_port flavors maintainer categories packages depends =
    record { flavors = flavors; maintainer = maintainer; categories = categories; packages = packages; depends = depends }

-- where it succeeds, the answer is the port of these parts
abbrev pub MakesPort : {E : Type 0} → Result PortValue E → FlavorsValue → String Global
    → Vec (String Global) Global → Vec PackageValue Global → Vec DependValue Global → Type 0
MakesPort result flavors maintainer categories packages depends =
    IfOk result (λ made. made
    ≡ make_port flavors (string_bytes maintainer) (map string_bytes categories.items) packages.items depends.items)

-- one of a port's packages has this name
abbrev pub has_package : PortValue → List ℕ → Bool
has_package port subpackage = list_any (λ (found : PackageValue). bytes_eq found.subpackage subpackage) port.packages

-- The port that these variables make. The variables are asked in this order. First come FLAVOR, FLAVORS,
-- PSEUDO_FLAVORS, MULTI_PACKAGES, MAINTAINER and CATEGORIES. Then come, for each package, those of its name,
-- and COMMENT. Then comes BUILD_DEPENDS, then for each package LIB_DEPENDS and RUN_DEPENDS, and then
-- TEST_DEPENDS.
unfoldable pub port_of : Variables → Work Meter FaultKind PortValue
port_of variables m =
    (flavors_read variables >>= λ flavors. subpackages_of variables >>= λ subpackages. asked_text variables (codes "MAINTAINER")
    >>= λ maintainer. asked_words variables (codes "CATEGORIES") >>= λ categories. packages_of variables (flavor_marks flavors) subpackages
    >>= λ packages. depends_of variables subpackages
    >>= λ depends. give (make_port flavors maintainer categories packages depends)) m
