-- What follows from the rows of paths, and what one row more saves.
use Rattle.std.proofs.Common.{◌≡◌, ◌∙◌, sym, ap, subst, refl, ℕ, ◌+◌, Bool, true, false, ◌||◌, if◌then◌else◌, List, [], ◌∷◌, ◌++◌, map}
use Rattle.std.proofs.Common.{Option, is_none, arith}
use Rattle.std.proofs.lemmas.Bool.{or_right}
use Rattle.std.proofs.lemmas.Slice.Eq.{bytes_eq-Decides}
use Rattle.std.specs.List.{filter_map, sum_by}
use Rattle.std.specs.Str.{bytes_eq}
use Rattle.text_parts.specs.Order.{in_order}
use Rattle.mk_paths.specs.World.{World, files_in}
use Rattle.port_index.specs.PathOutcomes.{PathOutcome, outcome_at}
use Rattle.port_index.specs.TreePaths.{directories}
use Rattle.port_index.specs.Dependencies.{items_among, target_of, edge_at, roots_among, edges_among}
use Rattle.port_index.specs.Efforts.{lacking}
use Rattle.port_index.specs.FilledRows.{is_one_of}
use Rattle.port_index.specs.Index.{listed_paths, needed_paths, roots, edges}
use Rattle.port_index.specs.RowLaws.{SayAll, KnownRowsAreEnough, OneRowMoreLeavesLess}
use Rattle.port_index.specs.Seen.{known_in}
use Rattle.port_index.proofs.EffortLemmas.{sum-on, lacking-same, in_order-same}
use Rattle.port_index.proofs.Filled.{AreKnown, known-of, one_of-in_order}
use Rattle.port_index.proofs.Known.{listed-known, items-known, roots-known, edges-known}

module _ (world : World) (entries : List ℕ → Option PathOutcome) (have : SayAll world entries (needed_paths world)) where
  listed_have : AreKnown world entries (listed_paths world)
  listed_have = known-of world (listed_paths world) entries (λ path is. have path
      (one_of-in_order path (listed_paths world) (filter_map target_of (items_among (outcome_at world) (listed_paths world)))
      ∙ ap (λ b. b || is_one_of path (filter_map target_of (items_among (outcome_at world) (listed_paths world)))) is))

  targets_have : AreKnown world entries (filter_map target_of (items_among (outcome_at world) (listed_paths world)))
  targets_have = known-of world (filter_map target_of (items_among (outcome_at world) (listed_paths world))) entries (λ path is. have path
      (one_of-in_order path (listed_paths world) (filter_map target_of (items_among (outcome_at world) (listed_paths world)))
      ∙ or_right (is_one_of path (listed_paths world))
      (is_one_of path (filter_map target_of (items_among (outcome_at world) (listed_paths world)))) is))

  roots_are : roots_among (known_in entries) (listed_paths world) ≡ roots world
  roots_are = roots-known world entries (listed_paths world) listed_have

  edges_are : edges_among (known_in entries) (listed_paths world) ≡ edges world
  edges_are =
      ap (map (edge_at (known_in entries))) (items-known world entries (listed_paths world) listed_have)
      ∙ edges-known world entries (items_among (outcome_at world) (listed_paths world)) targets_have

pub known_rows : KnownRowsAreEnough
known_rows = record {
  listed = λ world entries have. listed-known world entries (directories (files_in world))
      (known-of world (directories (files_in world)) entries have);
  needed = λ world entries have.
      ap (λ items. in_order (listed_paths world ++ filter_map target_of items))
      (items-known world entries (listed_paths world) (known-of world (listed_paths world) entries have));
  roots = roots_are;
  edges = edges_are;
}

alone : (n : ℕ) → 0 + n ≡ n
alone n = omega arith

one_of_these : (path : List ℕ) (paths : List (List ℕ)) → is_one_of path paths ≡ true → (other : List ℕ) (same : Bool)
    → bytes_eq path other ≡ same
    → (same || is_one_of other paths) ≡ is_one_of other paths
one_of_these path paths is other true same = sym (subst (λ at. is_one_of at paths ≡ true) ((bytes_eq-Decides path other).0 same) is)
one_of_these path paths is other false same = refl

pub one_row_more : OneRowMoreLeavesLess
one_row_more world weight paths path old new is none fills =
    ap (λ n. n + sum_by weight (lacking new paths))
    (sym (ap (sum_by weight) (ap (λ row. if is_none row then path ∷ [] else []) none) ∙ alone (weight path)))
    ∙ sum-on world weight (path ∷ []) paths old new fills
    ∙ ap (sum_by weight) (lacking-same old (path ∷ paths) paths
    (in_order-same (path ∷ paths) paths (λ other. one_of_these path paths is other (bytes_eq path other) refl)))
