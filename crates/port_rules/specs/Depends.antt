-- What a port depends on (bsd.port.mk(5), BUILD_DEPENDS, LIB_DEPENDS, RUN_DEPENDS, TEST_DEPENDS): the port
-- as a whole to be built and tested, each of its packages to be linked and run.
use Rattle.std.specs.Prelude.{◌≡◌, ℕ, List, [], ◌++◌, map, codes, Result, OnOk, String, Vec, string_bytes}
use Rattle.std.specs.Global.{Global}
use Rattle.mk_base.specs.declared.faults.FaultKind.{FaultKind}
use Rattle.mk_base.specs.Meter.{Meter}
use Rattle.mk_base.specs.Outcome.{Work, give, each, ◌>>=◌}
use Rattle.mk_base.specs.Stops.{GivesPurely}
use Rattle.mk_base.specs.declared.stops.PureStop.{PureStop}
use Rattle.mk_env.specs.Texts.{Variables}
use Rattle.port_rules.specs.declared.depends.DependKind.{DependKind}
use Rattle.port_rules.specs.declared.depends.DependKind.TheVariants.{Build, Lib, Run, Test}
use Rattle.port_rules.specs.Values.{asked_words, package_words}

-- a dependency as it is written, its kind, and the package that depends; if the port as a whole depends, the
-- package is empty
pub record DependValue : Type 0 where
  pub kind : DependKind
  pub subpackage : List ℕ
  pub item : List ℕ

-- the dependency of this kind, package and text
abbrev pub make_depend : DependKind → List ℕ → List ℕ → DependValue
make_depend kind subpackage item = record { kind = kind; subpackage = subpackage; item = item }

-- the word that names a kind
abbrev pub word_of_kind : DependKind → List ℕ
word_of_kind Build = codes "build"
word_of_kind Lib = codes "lib"
word_of_kind Run = codes "run"
word_of_kind Test = codes "test"

-- dependencies of one kind
abbrev pub depends : DependKind → List ℕ → List (List ℕ) → List DependValue
depends kind subpackage items = map (make_depend kind subpackage) items

-- dependencies with those of a package after them
unfoldable pub add_depends : Variables → List DependValue → List ℕ → Work Meter FaultKind (List DependValue)
add_depends variables found subpackage m =
    (package_words variables (codes "LIB_DEPENDS") subpackage >>= λ lib. package_words variables (codes "RUN_DEPENDS") subpackage
    >>= λ run. give (found ++ depends Lib subpackage lib ++ depends Run subpackage run)) m

-- the dependencies of a port with these packages
unfoldable pub depends_of : Variables → List (List ℕ) → Work Meter FaultKind (List DependValue)
depends_of variables subpackages m =
    (asked_words variables (codes "BUILD_DEPENDS") >>= λ build. each (add_depends variables) (depends Build [] build) subpackages
    >>= λ found. asked_words variables (codes "TEST_DEPENDS") >>= λ test. give (found ++ depends Test [] test)) m

-- an answer is dependencies that this work gives; the meter goes from one to the other
abbrev pub GivesDepends : Result (Vec DependValue Global) (PureStop FaultKind)
    → Work Meter FaultKind (List DependValue) → Meter → Meter → Type 0
GivesDepends result work before after = GivesPurely (λ found. found.items) result after (work before)

-- an answer is the dependencies of a port with these packages
abbrev pub GivesAllDepends : Result (Vec DependValue Global) (PureStop FaultKind) → Variables
    → List (String Global) → Meter → Meter → Type 0
GivesAllDepends result variables subpackages = GivesDepends result (depends_of variables (map string_bytes subpackages))

-- an answer is dependencies with those of a package after them
abbrev pub GivesNextDepends : Result (Vec DependValue Global) (PureStop FaultKind) → Variables
    → List DependValue → List ℕ → Meter → Meter → Type 0
GivesNextDepends result variables found subpackage = GivesDepends result (add_depends variables found subpackage)

-- an answer is dependencies with those of each of these packages after them
abbrev pub GivesMoreDepends : Result (Vec DependValue Global) (PureStop FaultKind) → Variables
    → List DependValue → List (String Global) → Meter → Meter → Type 0
GivesMoreDepends result variables found subpackages =
    GivesDepends result (each (add_depends variables) found (map string_bytes subpackages))

-- where it succeeds, dependencies of one kind are added
abbrev pub AddsDepends : {A E : Type 0} → Result A E → List DependValue → DependKind → List ℕ
    → List (String Global) → List DependValue → Type 0
AddsDepends result old kind subpackage items new =
    OnOk result (new ≡ old ++ depends kind subpackage (map string_bytes items))
