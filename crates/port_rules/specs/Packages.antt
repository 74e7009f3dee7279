-- The packages of a port and their names (bsd.port.mk(5), "FLAVORS AND MULTI_PACKAGES", and DISTNAME, EPOCH,
-- FULLPKGNAME, MULTI_PACKAGES, PKGNAME, REVISION). The faults and their order, and what an ending is added
-- to, are this project's choice.
use Rattle.std.specs.Prelude.{◌≡◌, ℕ, ◌||◌, ◌&&◌, not, if◌then◌else◌, Bool, false, List, [], ◌∷◌, ◌++◌, map, Option, Some, None}
use Rattle.std.specs.Prelude.{option_map, codes, Result, IfOk, OnOk, String, Vec, string_bytes}
use Rattle.std.specs.Borrow.{Bor}
use Rattle.std.specs.Global.{Global}
use Rattle.std.specs.List.{list_all}
use Rattle.std.specs.Str.{bytes_eq}
use Rattle.general_facts.specs.Ascii.{small_p, small_v}
use Rattle.mk_base.specs.declared.faults.FaultKind.{FaultKind}
use Rattle.mk_base.specs.declared.faults.FaultKind.TheVariants as kinds
use Rattle.mk_base.specs.Meter.{Meter}
use Rattle.mk_base.specs.Outcome.{Work, give, fail, each, ◌>>=◌}
use Rattle.mk_base.specs.Stops.{GivesOnly, GivesPurely}
use Rattle.mk_base.specs.declared.stops.PureStop.{PureStop}
use Rattle.mk_env.specs.Texts.{Variables}
use Rattle.mk_env.specs.Expansion.{is_among}
use Rattle.text_parts.specs.Cuts.{now_all}
use Rattle.pkg_path.specs.Paths.{is_subpackage, is_bare_dash}
use Rattle.pkg_name.specs.Name.{NameParts, split_name, name_text}
use Rattle.port_rules.specs.Flavors.{FlavorsValue, flavor_marks}
use Rattle.port_rules.specs.Values.{value, or_else, value_or, ending, package_value, asked_words, package_text}

-- a package of a port: its name among the port's packages, with its dash, its full name, and its comment
pub record PackageValue : Type 0 where
  pub subpackage : List ℕ
  pub name : NameParts
  pub comment : List ℕ

-- the package of this name, full name and comment
abbrev pub make_package : List ℕ → NameParts → List ℕ → PackageValue
make_package subpackage name comment = record { subpackage = subpackage; name = name; comment = comment }

-- the package of this name, full name and comment, of which two are texts
abbrev pub package_in : String Global → NameParts → String Global → PackageValue
package_in subpackage name comment = make_package (string_bytes subpackage) name (string_bytes comment)

-- some text is among these twice
abbrev pub has_double : List (List ℕ) → Bool
has_double [] = false
has_double (text ∷ texts) = is_among text texts || has_double texts

-- a dash and a name
abbrev pub is_named_subpackage : List ℕ → Bool
is_named_subpackage word = is_subpackage word && not (is_bare_dash word)

-- these can name the packages of a port: each is a dash and a name, and none is there twice
abbrev pub are_subpackages : List (List ℕ) → Bool
are_subpackages words = list_all is_named_subpackage words && not (has_double words)

-- a port that names no packages has one, `-`
abbrev pub or_one : List (List ℕ) → List (List ℕ)
or_one [] = codes "-" ∷ []
or_one (name ∷ names) = name ∷ names

-- the packages of a port: the words of MULTI_PACKAGES
unfoldable pub subpackages_of : Variables → Work Meter FaultKind (List (List ℕ))
subpackages_of variables m =
    (asked_words variables (codes "MULTI_PACKAGES")
    >>= λ names. if are_subpackages names then give (or_one names) else fail kinds.BadName) m

-- a text that must be there and not be empty
abbrev pub present : Option (List ℕ) → Work Meter FaultKind (List ℕ)
present None = fail kinds.NoName
present (Some []) = fail kinds.NoName
present (Some (byte ∷ text)) = give (byte ∷ text)

-- a name that was read; if it couldn't be read, that is a fault
abbrev pub readable : Option NameParts → Work Meter FaultKind NameParts
readable None = fail kinds.BadName
readable (Some name) = give name

-- what is added to the port's PKGNAME for a package without a PKGNAME of its own: the package's name, but
-- nothing for `-main`
abbrev pub added_ending : List ℕ → List ℕ
added_ending subpackage = if bytes_eq subpackage (codes "-main") then [] else ending subpackage

-- PKGNAME of a package. If it isn't defined, it is the port's PKGNAME with the package's ending. If that
-- isn't defined either, it is the port's DISTNAME with that ending.
unfoldable pub package_base : Variables → List ℕ → Work Meter FaultKind (Option (List ℕ))
package_base variables subpackage m =
    (value variables (codes "PKGNAME" ++ ending subpackage)
    >>= λ own. or_else own
    (value_or variables (codes "PKGNAME") (codes "DISTNAME")
    >>= λ found. give (option_map (λ name. name ++ added_ending subpackage) found))) m

-- a letter and a value after it, if the value is defined
abbrev pub lettered : ℕ → Option (List ℕ) → List ℕ
lettered letter None = []
lettered letter (Some text) = letter ∷ text

-- the text of a name, with `p` and the revision and `v` and the epoch right after its version,
-- and with marks at its end
abbrev pub extended : NameParts → Option (List ℕ) → Option (List ℕ) → List (List ℕ) → List ℕ
extended name revision epoch marks =
    name_text
    (record name { version = name.version ++ lettered small_p revision ++ lettered small_v epoch; flavors = name.flavors ++ marks })

-- a name's text, read as a name, and then that name with revision, epoch and marks, read as one too
abbrev pub marked_name : List ℕ → Option (List ℕ) → Option (List ℕ) → List (List ℕ) → Work Meter FaultKind NameParts
marked_name base revision epoch marks =
    readable (split_name base) >>= λ name. readable (split_name (extended name revision epoch marks))

-- the full name of a package whose PKGNAME is this, with these marks of flavors
abbrev pub made_name : Variables → List (List ℕ) → List ℕ → List ℕ → Work Meter FaultKind NameParts
made_name variables marks subpackage base =
    package_value variables (codes "REVISION") subpackage >>= λ revision. package_value variables (codes "EPOCH") subpackage
    >>= λ epoch. marked_name base revision epoch marks

-- FULLPKGNAME is the full name as it is
abbrev pub whole_name : List ℕ → Work Meter FaultKind NameParts
whole_name text = present (Some text) >>= λ name. readable (split_name name)

-- without FULLPKGNAME the full name is made from PKGNAME
unfoldable pub default_name : Variables → List (List ℕ) → List ℕ → Work Meter FaultKind NameParts
default_name variables marks subpackage m =
    (package_base variables subpackage >>= λ base. present base >>= λ name. made_name variables marks subpackage name) m

-- the full name of a package whose FULLPKGNAME is this, or isn't defined
abbrev pub name_from : Variables → List (List ℕ) → List ℕ → Option (List ℕ) → Work Meter FaultKind NameParts
name_from variables marks subpackage None = default_name variables marks subpackage
name_from variables marks subpackage (Some text) = whole_name text

unfoldable pub full_name : Variables → List (List ℕ) → List ℕ → Work Meter FaultKind NameParts
full_name variables marks subpackage m =
    (value variables (codes "FULLPKGNAME" ++ ending subpackage) >>= name_from variables marks subpackage) m

-- a package: its name comes before its comment
unfoldable pub package_of : Variables → List (List ℕ) → List ℕ → Work Meter FaultKind PackageValue
package_of variables marks subpackage m =
    (full_name variables marks subpackage >>= λ name. package_text variables (codes "COMMENT") subpackage
    >>= λ comment. give (make_package subpackage name comment)) m

-- packages with one more
abbrev pub add_package : Variables → List (List ℕ) → List PackageValue → List ℕ → Work Meter FaultKind (List PackageValue)
add_package variables marks packages subpackage = package_of variables marks subpackage >>= λ found. give (packages ++ found ∷ [])

abbrev pub packages_of : Variables → List (List ℕ) → List (List ℕ) → Work Meter FaultKind (List PackageValue)
packages_of variables marks subpackages = each (add_package variables marks) [] subpackages

-- an answer is a name that this work gives; the meter goes from one to the other
abbrev pub GivesName : Result NameParts (PureStop FaultKind) → Work Meter FaultKind NameParts → Meter → Meter → Type 0
GivesName result work before after = GivesPurely (λ name. name) result after (work before)

-- an answer is a name that this work gives, which costs nothing
abbrev pub GivesNameFreely : Result NameParts (PureStop FaultKind) → Work Meter FaultKind NameParts → Type 0
GivesNameFreely result work = (m : Meter) → GivesName result work m m

-- an answer is the full name of a package
abbrev pub GivesFullName : Result NameParts (PureStop FaultKind) → Variables → List (Bor (List ℕ)) → List ℕ
    → Meter → Meter → Type 0
GivesFullName result variables marks subpackage = GivesName result (full_name variables (now_all marks) subpackage)

-- an answer is the full name of a package without FULLPKGNAME
abbrev pub GivesDefaultName : Result NameParts (PureStop FaultKind) → Variables → List (Bor (List ℕ)) → List ℕ
    → Meter → Meter → Type 0
GivesDefaultName result variables marks subpackage = GivesName result (default_name variables (now_all marks) subpackage)

-- an answer is a name with its revision, epoch and marks
abbrev pub GivesMarkedName : Result NameParts (PureStop FaultKind) → List ℕ → Option (String Global)
    → Option (String Global) → List (Bor (List ℕ)) → Type 0
GivesMarkedName result base revision epoch marks =
    GivesNameFreely result (marked_name base (option_map string_bytes revision) (option_map string_bytes epoch) (now_all marks))

-- an answer is a text that must be there and not be empty
abbrev pub GivesPresent : Result (String Global) FaultKind → Option (String Global) → Type 0
GivesPresent result found = (m : Meter) → GivesOnly string_bytes result m (present (option_map string_bytes found) m)

-- where it succeeds, the answer is a name's text with revision, epoch and marks
abbrev pub Extends : {E : Type 0} → Result (String Global) E → NameParts → Option (String Global)
    → Option (String Global) → List (Bor (List ℕ)) → Type 0
Extends result name revision epoch marks =
    IfOk result (λ text. string_bytes text
    ≡ extended name (option_map string_bytes revision) (option_map string_bytes epoch) (now_all marks))

-- where it succeeds, a letter and a value are added, if there is a value
abbrev pub AddsLettered : {A E : Type 0} → Result A E → String Global → ℕ → Option (String Global)
    → String Global → Type 0
AddsLettered result old letter value new =
    OnOk result (string_bytes new ≡ string_bytes old ++ lettered letter (option_map string_bytes value))

-- an answer is a package
abbrev pub GivesPackage : Result PackageValue (PureStop FaultKind) → Variables → List (Bor (List ℕ)) → List ℕ
    → Meter → Meter → Type 0
GivesPackage result variables marks subpackage before after =
    GivesPurely (λ found. found) result after (package_of variables (now_all marks) subpackage before)

-- an answer is the packages of these names, with these marks of flavors
abbrev pub GivesEach : Result (Vec PackageValue Global) (PureStop FaultKind) → Variables → List (Bor (List ℕ))
    → List (String Global) → Meter → Meter → Type 0
GivesEach result variables marks subpackages before after =
    GivesPurely (λ found. found.items) result after (packages_of variables (now_all marks) (map string_bytes subpackages) before)

-- an answer is the packages of these names, with the marks of these flavors
abbrev pub GivesPackages : Result (Vec PackageValue Global) (PureStop FaultKind) → Variables → FlavorsValue
    → List (String Global) → Meter → Meter → Type 0
GivesPackages result variables flavors subpackages before after =
    GivesPurely (λ found. found.items) result after (packages_of variables (flavor_marks flavors) (map string_bytes subpackages) before)
