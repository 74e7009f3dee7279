-- The flavors of a port (bsd.port.mk(5), "FLAVORS AND MULTI_PACKAGES"): FLAVORS and PSEUDO_FLAVORS are those
-- that it has, and FLAVOR those that are chosen. That they are lowered, and the order in which they are
-- asked, is this project's choice.
use Rattle.std.specs.Prelude.{ℕ, ◌||◌, if◌then◌else◌, Bool, List, filter, map, codes, String, string_bytes}
use Rattle.std.specs.Global.{Global}
use Rattle.std.specs.List.{list_all}
use Rattle.mk_base.specs.declared.faults.FaultKind.{FaultKind}
use Rattle.mk_base.specs.declared.faults.FaultKind.TheVariants as kinds
use Rattle.mk_base.specs.Meter.{Meter}
use Rattle.mk_base.specs.Outcome.{Work, give, fail, ◌>>=◌}
use Rattle.mk_env.specs.Texts.{Variables}
use Rattle.mk_env.specs.Expansion.{is_among}
use Rattle.port_rules.specs.Values.{lowercase_words}

-- the flavors that are chosen, and those that a port has: the flavors proper, and those that leave no mark
-- in a package's name
pub record FlavorsValue : Type 0 where
  pub chosen : List (List ℕ)
  pub proper : List (List ℕ)
  pub pseudo : List (List ℕ)

-- flavors of these three kinds
abbrev pub make_flavors : List (List ℕ) → List (List ℕ) → List (List ℕ) → FlavorsValue
make_flavors chosen proper pseudo = record { chosen = chosen; proper = proper; pseudo = pseudo }

-- the flavors in these lists
abbrev pub flavors_with : List (String Global) → List (String Global) → List (String Global) → FlavorsValue
flavors_with chosen proper pseudo = make_flavors (map string_bytes chosen) (map string_bytes proper) (map string_bytes pseudo)

-- each chosen flavor is one that the port has
abbrev pub has_chosen : FlavorsValue → Bool
has_chosen flavors = list_all (λ flavor. is_among flavor flavors.proper || is_among flavor flavors.pseudo) flavors.chosen

-- the same flavors if that is so; otherwise it is a fault
abbrev pub checked_flavors : FlavorsValue → Work Meter FaultKind FlavorsValue
checked_flavors flavors = if has_chosen flavors then give flavors else fail kinds.Flavor

unfoldable pub flavors_read : Variables → Work Meter FaultKind FlavorsValue
flavors_read variables m =
    (lowercase_words variables (codes "FLAVOR") >>= λ chosen. lowercase_words variables (codes "FLAVORS")
    >>= λ proper. lowercase_words variables (codes "PSEUDO_FLAVORS")
    >>= λ pseudo. checked_flavors (make_flavors chosen proper pseudo)) m

-- the marks of flavors in a package's name: those of the port's proper flavors that are chosen, in the
-- order of FLAVORS
abbrev pub flavor_marks : FlavorsValue → List (List ℕ)
flavor_marks flavors = filter (λ flavor. is_among flavor flavors.chosen) flavors.proper
