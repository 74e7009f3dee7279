-- Those of the paths that items name that have a comma.
use Rattle.std.proofs.Common.{◌≡◌, ap, refl, ℕ, Bool, true, false, if◌then◌else◌, List, [], ◌∷◌, Option, Some, None, IfSome}
use Rattle.std.specs.List.{cons_option, filter, filter_map}
use Rattle.pkg_path.specs.Paths.{port_path}
use Rattle.port_deps.specs.ItemText.{NamesPlainPath, WantedValue, has_comma, wanted_of}
use Rattle.port_rules.specs.Depends.{DependValue}
use Rattle.port_index.specs.Dependencies.{target_in}
use Rattle.port_index.specs.Flavored.{flavored_target, if_flavored}

-- they are what each item names, if that has a comma
pub filter-targets : {X : Type 0} (target : X → Option (List ℕ)) (items : List X) → filter_map (λ item. if_flavored (target item)) items ≡
    filter has_comma (filter_map target items)
filter-targets target [] = refl
filter-targets target (item ∷ items) = by (target item) (filter-targets target items)
  where
    kept : (path : List ℕ) (comma : Bool) {more others : List (List ℕ)} → more ≡ others
        → cons_option (if comma then Some path else None) more ≡ (if comma then path ∷ others else others)
    kept path true same = ap (λ paths. path ∷ paths) same
    kept path false same = same

    by : (path : Option (List ℕ)) → filter_map (λ item. if_flavored (target item)) items ≡ filter has_comma (filter_map target items)
        → cons_option (if_flavored path) (filter_map (λ item. if_flavored (target item)) items) ≡ filter has_comma
        (cons_option path (filter_map target items))
    by None same = same
    by (Some path) same = kept path (has_comma path) same

-- an item without a comma names none of them
none_by : (wanted : Option WantedValue) → IfSome wanted (λ wanted. has_comma (port_path wanted.path) ≡ false)
    → if_flavored (target_in wanted) ≡ None
none_by None plain = refl
none_by (Some wanted) plain = ap (λ (b : Bool). if b then Some (port_path wanted.path) else None) plain

pub none-plain : (depend : DependValue) → NamesPlainPath depend.item → flavored_target depend ≡ None
none-plain depend plain = none_by (wanted_of depend.item) plain
