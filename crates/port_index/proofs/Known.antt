-- Where it is known what paths lead to, what follows from rows is what the world says.
use Rattle.std.proofs.Common.{◌≡◌, ◌∙◌, ap, refl, ℕ, List, [], ◌∷◌, ◌++◌, map, Option, Some, None}
use Rattle.std.specs.List.{filter_map, flat_map, cons_option}
use Rattle.text_parts.specs.Order.{in_order}
use Rattle.mk_paths.specs.World.{World}
use Rattle.port_deps.specs.Edges.{edge_of}
use Rattle.port_index.specs.PathOutcomes.{PathOutcome, outcome_at}
use Rattle.port_index.specs.TreePaths.{named_in, named_at, listed_from}
use Rattle.port_index.specs.Dependencies.{RootItemValue, root_state, root_with, root_at, roots_among, items_in, items_at, items_among}
use Rattle.port_index.specs.Dependencies.{target_of, found_of, found_at, edge_at}
use Rattle.port_index.proofs.Filled.{AreKnown}
use Rattle.port_index.specs.Seen.{known_in}

module _ (world : World) (entries : List ℕ → Option PathOutcome) where
  named-known : (paths : List (List ℕ)) → AreKnown world entries paths → flat_map (named_at (known_in entries)) paths ≡ flat_map
      (named_at (outcome_at world)) paths
  named-known [] known = refl
  named-known (path ∷ paths) known =
      ap (λ outcome. named_in path outcome ++ flat_map (named_at (known_in entries)) paths) known.0
      ∙ ap (λ more. named_at (outcome_at world) path ++ more) (named-known paths known.1)

  pub listed-known : (paths : List (List ℕ)) → AreKnown world entries paths → listed_from (known_in entries) paths ≡ listed_from
      (outcome_at world) paths
  listed-known paths known = ap (λ named. in_order (named ++ paths)) (named-known paths known)

  pub items-known : (paths : List (List ℕ)) → AreKnown world entries paths → items_among (known_in entries) paths ≡ items_among
      (outcome_at world) paths
  items-known [] known = refl
  items-known (path ∷ paths) known =
      ap (λ outcome. items_in path outcome ++ items_among (known_in entries) paths) known.0
      ∙ ap (λ more. items_at (outcome_at world) path ++ more) (items-known paths known.1)

  pub roots-known : (paths : List (List ℕ)) → AreKnown world entries paths → roots_among (known_in entries) paths ≡ roots_among
      (outcome_at world) paths
  roots-known [] known = refl
  roots-known (path ∷ paths) known =
      ap (λ outcome. cons_option (root_with path (root_state outcome)) (roots_among (known_in entries) paths)) known.0
      ∙ ap (λ more. cons_option (root_at (outcome_at world) path) more) (roots-known paths known.1)

  found-known : (target : Option (List ℕ)) (more : List (List ℕ)) → AreKnown world entries (cons_option target more)
      → (found_at (known_in entries) target ≡ found_at (outcome_at world) target) × AreKnown world entries more
  found-known None more known = (refl, known)
  found-known (Some path) more known = (ap found_of known.0, known.1)

  pub edges-known : (items : List RootItemValue) → AreKnown world entries (filter_map target_of items)
      → map (edge_at (known_in entries)) items ≡ map (edge_at (outcome_at world)) items
  edges-known [] known = refl
  edges-known (rooted ∷ items) known =
      let found = found-known (target_of rooted) (filter_map target_of items) known in
      ap (λ found. record { root = rooted.root; edge = edge_of rooted.item found } ∷ map (edge_at (known_in entries)) items) found.0
      ∙ ap (λ more. edge_at (outcome_at world) rooted ∷ more) (edges-known items found.1)
