-- The root at one path, and the dependencies of the port there.
use Rattle.std.proofs.Common.{◌≡◌, ◌∙◌, ap, sym, refl, subst, ℕ, Bool, true, false, ◌||◌, List, [], ◌∷◌, ◌++◌, append-nil, if◌then◌else◌}
use Rattle.std.proofs.Common.{filter, map, Option, Some, None, Result}
use Rattle.std.proofs.lemmas.Cmp.{tied_itself, nat_list_cmp_total}
use Rattle.std.proofs.lemmas.List.{map-append}
use Rattle.std.proofs.lemmas.Slice.Eq.{bytes_eq-Decides}
use Rattle.std.specs.List.{AllByRecursion, cons_option}
use Rattle.std.specs.List.Sorted.{IsStrictlySortedBy}
use Rattle.std.specs.Prelude.{find}
use Rattle.std.specs.Str.{bytes_eq}
use Rattle.std.specs.declared.cmp.Ordering.TheVariants.{Less, Equal}
use Rattle.text_parts.specs.Ordered.{by_bytes, in_order-sorted}
use Rattle.mk_base.specs.FaultAt.{FaultAt}
use Rattle.port_rules.specs.Ports.{PortValue}
use Rattle.port_deps.specs.Items.{ItemValue, item_of}
use Rattle.port_deps.specs.Roots.{RootValue, RootEdgeValue}
use Rattle.port_index.specs.Dependencies.{edge_at, edges_among, edges_from, item_at, items_at, items_among, items_in, root_among, root_at}
use Rattle.port_index.specs.Dependencies.{root_with, roots_among, root_state}
use Rattle.port_index.specs.FilledRows.{is_one_of}
use Rattle.port_index.specs.TreePaths.{AreInOrder}
use Rattle.port_index.specs.PathOutcomes.{PathOutcome, Absent, Faulty, Port, BadPort, Lists, BadList, FlavoredList, Other}

module _ (outcomes : List ℕ → PathOutcome) (path : List ℕ) where
  abbrev is_at : RootValue → Bool
  is_at root = bytes_eq root.path path

  -- ---- the root

  either : (b : Bool) → (if b then None else None) ≡ (let none : Option RootValue = None in none)
  either true = refl
  either false = refl

  -- (by the state of the root at the first path)
  root_by : (one : List ℕ) (paths : List (List ℕ)) (outcome : PathOutcome) (same : Bool) → outcomes one ≡ outcome → bytes_eq one path ≡ same
      → find is_at (roots_among outcomes paths) ≡ (if is_one_of path paths then root_at outcomes path else None)
      → find is_at (cons_option (root_with one (root_state outcome)) (roots_among outcomes paths)) ≡
      (if (same || is_one_of path paths) then root_at outcomes path else None)
  root_by one paths outcome same is e rest = by (root_state outcome) refl same e
    where
      at_path : bytes_eq one path ≡ true → root_at outcomes path ≡ root_with one (root_state outcome)
      at_path same = ap (root_at outcomes) (sym ((bytes_eq-Decides one path).0 same)) ∙ ap (λ found. root_with one (root_state found)) is

      by : (state : Option (Result PortValue FaultAt)) → root_state outcome ≡ state → (same : Bool) → bytes_eq one path ≡ same
          → find is_at (cons_option (root_with one state) (roots_among outcomes paths)) ≡
          (if (same || is_one_of path paths) then root_at outcomes path else None)
      by None none true e =
          let absent : root_at outcomes path ≡ None = at_path e ∙ ap (root_with one) none in
          rest ∙ ap (λ root. if is_one_of path paths then root else None) absent ∙ either (is_one_of path paths) ∙ sym absent
      by None none false e = rest
      by (Some state) some true e =
          ap (λ (b : Bool). if b then root_with one (Some state) else find is_at (roots_among outcomes paths)) e
          ∙ sym (at_path e ∙ ap (root_with one) some)
      by (Some state) some false e =
          ap (λ (b : Bool). if b then root_with one (Some state) else find is_at (roots_among outcomes paths)) e ∙ rest

  -- it is that of the path itself, if this is one of these paths
  pub root-one : (paths : List (List ℕ)) → root_among outcomes paths path ≡ (if is_one_of path paths then root_at outcomes path else None)
  root-one [] = refl
  root-one (one ∷ paths) = root_by one paths (outcomes one) (bytes_eq one path) refl refl (root-one paths)

  -- ---- the dependencies

  abbrev is_from : RootEdgeValue → Bool
  is_from edge = bytes_eq edge.root path

  edges_of_item : (one : List ℕ) (same : Bool) → bytes_eq one path ≡ same → (items : List ItemValue) (more : List RootEdgeValue)
      → filter is_from (map (edge_at outcomes) (map (item_at one) items) ++ more)
      ≡ (if same then map (edge_at outcomes) (map (item_at one) items) else []) ++ filter is_from more
  edges_of_item one true e [] more = refl
  edges_of_item one false e [] more = refl
  edges_of_item one true e (item ∷ items) more =
      let rest = filter is_from (map (edge_at outcomes) (map (item_at one) items) ++ more) in
      ap (λ (b : Bool). if b then edge_at outcomes (item_at one item) ∷ rest else rest) e
      ∙ ap (λ all. edge_at outcomes (item_at one item) ∷ all) (edges_of_item one true e items more)
  edges_of_item one false e (item ∷ items) more =
      let rest = filter is_from (map (edge_at outcomes) (map (item_at one) items) ++ more) in
      ap (λ (b : Bool). if b then edge_at outcomes (item_at one item) ∷ rest else rest) e ∙ edges_of_item one false e items more

  nothing : (same : Bool) (more : List RootEdgeValue) → more ≡ (if same then [] else []) ++ more
  nothing true more = refl
  nothing false more = refl

  edges_of_row : (one : List ℕ) (same : Bool) → bytes_eq one path ≡ same → (outcome : PathOutcome) (more : List RootEdgeValue)
      → filter is_from (map (edge_at outcomes) (items_in one outcome) ++ more)
      ≡ (if same then map (edge_at outcomes) (items_in one outcome) else []) ++ filter is_from more
  edges_of_row one same e (Port port) more = edges_of_item one same e (map item_of port.depends) more
  edges_of_row one same e Absent more = nothing same (filter is_from more)
  edges_of_row one same e (Faulty fault) more = nothing same (filter is_from more)
  edges_of_row one same e (BadPort fault) more = nothing same (filter is_from more)
  edges_of_row one same e (Lists words) more = nothing same (filter is_from more)
  edges_of_row one same e (BadList fault) more = nothing same (filter is_from more)
  edges_of_row one same e FlavoredList more = nothing same (filter is_from more)
  edges_of_row one same e Other more = nothing same (filter is_from more)

  edges_then : (one : List ℕ) (paths : List (List ℕ)) (same : Bool) → bytes_eq one path ≡ same
      → edges_from outcomes (one ∷ paths) path ≡ (if same then map (edge_at outcomes) (items_at outcomes one) else []) ++
      edges_from outcomes paths path
  edges_then one paths same e =
      ap (filter is_from) (map-append (edge_at outcomes) (items_at outcomes one) (items_among outcomes paths))
      ∙ edges_of_row one same e (outcomes one) (edges_among outcomes paths)

  later_by : (one : List ℕ) (same : Bool) → bytes_eq one path ≡ same → by_bytes path one ≡ Less → same ≡ false
  later_by one false e less = refl
  later_by one true e less =
      let tied : by_bytes path one ≡ Equal = ap (by_bytes path) ((bytes_eq-Decides one path).0 e) ∙ tied_itself nat_list_cmp_total path in
      absurd cc

  none_later : (paths : List (List ℕ)) → AllByRecursion (λ other. by_bytes path other ≡ Less) paths → edges_from outcomes paths path ≡ []
  none_later [] above = refl
  none_later (one ∷ paths) above =
      edges_then one paths (bytes_eq one path) refl
      ∙ ap (λ (b : Bool). (if b then map (edge_at outcomes) (items_at outcomes one) else []) ++ edges_from outcomes paths path)
      (later_by one (bytes_eq one path) refl above.0)
      ∙ none_later paths above.1

  abbrev own_edges : List RootEdgeValue
  own_edges = map (edge_at outcomes) (items_at outcomes path)

  edges_by : (one : List ℕ) (paths : List (List ℕ)) (same : Bool) → bytes_eq one path ≡ same
      → AllByRecursion (λ other. by_bytes one other ≡ Less) paths
      → edges_from outcomes paths path ≡ (if is_one_of path paths then own_edges else [])
      → edges_from outcomes (one ∷ paths) path ≡ (if (same || is_one_of path paths) then own_edges else [])
  edges_by one paths true e above rest =
      let is = (bytes_eq-Decides one path).0 e in
      edges_then one paths true e
      ∙ ap (λ at. map (edge_at outcomes) (items_at outcomes at) ++ edges_from outcomes paths path) is
      ∙ ap (λ more. own_edges ++ more) (none_later paths (subst (λ at. AllByRecursion (λ other. by_bytes at other ≡ Less) paths) is above))
      ∙ append-nil own_edges
  edges_by one paths false e above rest = edges_then one paths false e ∙ rest

  sorted_edges : (paths : List (List ℕ)) → IsStrictlySortedBy by_bytes paths
      → edges_from outcomes paths path ≡ (if is_one_of path paths then own_edges else [])
  unfolding IsStrictlySortedBy
  sorted_edges [] sorted = refl
  sorted_edges (one ∷ paths) sorted = edges_by one paths (bytes_eq one path) refl sorted.0 (sorted_edges paths sorted.1)

  -- they are those of the path itself, if this is one of these paths, which are in order
  pub edges-one : (paths : List (List ℕ)) → AreInOrder paths
      → edges_from outcomes paths path ≡ (if is_one_of path paths then own_edges else [])
  edges-one paths ordered = sorted_edges paths (subst (IsStrictlySortedBy by_bytes) ordered (in_order-sorted paths))
