-- Ports of which no package is admitted list nothing.
use Rattle.std.proofs.Common.{◌≡◌, ◌∙◌, ap, sym, refl, ℕ, Bool, true, false, cond, ◌||◌, List, [], ◌∷◌, ◌++◌, filter, map, Result, Ok, Err}
use Rattle.std.proofs.lemmas.Bool.{false≢true}
use Rattle.std.specs.List.{list_any}
use Rattle.pkg_spec.specs.NameSet.{admitted_by}
use Rattle.mk_base.specs.FaultAt.{FaultAt}
use Rattle.port_rules.specs.Packages.{PackageValue}
use Rattle.port_rules.specs.Ports.{PortValue}
use Rattle.port_deps.specs.Roots.{RootValue}
use Rattle.port_index.specs.Dependencies.{is_port_that, passes_state}
use Rattle.ports_query.specs.ListedPackages.{ListedValue, spec_test, admits_one, admitted_of, listed_at, packages_passing}

none_by : {X : Type 0} (p : X → Bool) (x : X) (xs : List X) (is : Bool) → p x ≡ is → (is || list_any p xs) ≡ false
    → (list_any p xs ≡ false → filter p xs ≡ []) → cond is (x ∷ filter p xs) (filter p xs) ≡ []
none_by p x xs true is none rest = absurd (false≢true (sym none))
none_by p x xs false is none rest = rest none

-- if none passes, none is left
none : {X : Type 0} (p : X → Bool) (xs : List X) → list_any p xs ≡ false → filter p xs ≡ []
none p [] e = refl
none p (x ∷ xs) e = none_by p x xs (p x) refl e (none p xs)

module _ (spec : List ℕ) where
  abbrev taken : RootValue → Bool
  taken = is_port_that (admits_one spec)

  abbrev listed : RootValue → List ListedValue
  listed root = packages_passing (spec_test spec) root.path root.state

  lists_none : (root : RootValue) → taken root ≡ false → listed root ≡ []
  lists_none root e = by root.state e
    where
      by : (state : Result PortValue FaultAt) → passes_state (admits_one spec) state ≡ false
          → packages_passing (spec_test spec) root.path state ≡ []
      by (Ok port) none_is = ap (map (listed_at root.path))
          (none (λ (found : PackageValue). admitted_by spec found.name) port.packages none_is)
      by (Err fault) none_is = refl

  one_by : (root : RootValue) (roots : List RootValue) (is : Bool) → taken root ≡ is
      → admitted_of spec (filter taken roots) ≡ admitted_of spec roots
      → admitted_of spec (cond is (root ∷ filter taken roots) (filter taken roots)) ≡ admitted_of spec (root ∷ roots)
  one_by root roots true is rest = ap (λ others. listed root ++ others) rest
  one_by root roots false is rest = rest ∙ ap (λ here. here ++ admitted_of spec roots) (sym (lists_none root is))

  -- what is admitted of the ports that the spec admits is what is admitted of all roots
  pub admitted-ports : (roots : List RootValue) → admitted_of spec (filter taken roots) ≡ admitted_of spec roots
  admitted-ports [] = refl
  admitted-ports (root ∷ roots) = one_by root roots (taken root) refl (admitted-ports roots)
