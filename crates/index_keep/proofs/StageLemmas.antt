-- The paths with which a stage begins.
use Rattle.std.proofs.Common.{◌≡◌, ◌∙◌, ap, sym, refl, ℕ, Bool, true, false, ◌&&◌, List, ◌++◌, Option, Some, None, is_none, is_some}
use Rattle.std.proofs.lemmas.Bool.{false≢true, and_parts}
use Rattle.std.specs.FinMap.{keys}
use Rattle.std.specs.List.{filter_map, flat_map}
use Rattle.text_parts.specs.Ordered.{in_order-again}
use Rattle.mk_paths.specs.World.{FileMap, World}
use Rattle.port_index.specs.Efforts.{decided, has_makefile}
use Rattle.port_index.specs.FilledRows.{is_one_of}
use Rattle.port_index.specs.TreePaths.{AreInOrder, directories, listable_directory, listed_from, named_at}
use Rattle.port_index.specs.PathOutcomes.{PathOutcome}
use Rattle.index_keep.specs.Shown.{ShownRows}
use Rattle.index_keep.proofs.WalkLemmas.{decided-absent, decided-known}

pub listed-order : (outcomes : List ℕ → PathOutcome) (directories : List (List ℕ)) → AreInOrder (listed_from outcomes directories)
listed-order outcomes directories = in_order-again (flat_map (named_at outcomes) directories ++ directories)

pub directories-order : (files : FileMap) → AreInOrder (directories files)
directories-order files = in_order-again (filter_map listable_directory (keys files))

module _ (world : World) (entries : List ℕ → Option PathOutcome) (all paths : List (List ℕ)) where
  -- a stage of those that have no row
  module _ (lacks : (path : List ℕ) → is_one_of path paths ≡ (is_one_of path all && is_none (entries path))) where
    pub lacking-among : (path : List ℕ) → is_one_of path paths ≡ true → is_one_of path all ≡ true
    lacking-among path one = (and_parts (is_one_of path all) (is_none (entries path)) (sym (lacks path) ∙ one)).0

    known_at : (path : List ℕ) (row : Option PathOutcome) → entries path ≡ row → is_none row ≡ false
        → is_some (decided world entries path) ≡ true
    known_at path None e out = absurd (false≢true (sym out))
    known_at path (Some row) e out = decided-known world entries path (ap is_some e)

    pub lacking-others : (path : List ℕ) → is_one_of path all ≡ true → is_one_of path paths ≡ false
        → is_some (decided world entries path) ≡ true
    lacking-others path one apart = known_at path (entries path) refl (ap (λ b. b && is_none (entries path)) (sym one)
        ∙ sym (lacks path) ∙ apart)

  -- a stage of those that are outdated
  module _ (rows : ShownRows) (asked : List (List ℕ)) (found : (path : List ℕ)
      → is_one_of path paths ≡ (is_one_of path asked && is_one_of path all))
      (missing : (path : List ℕ) → is_one_of path all ≡ true → is_some (rows path) ≡ false → has_makefile world path ≡ false)
      (fresh : (path : List ℕ) → is_some (rows path) ≡ true → is_one_of path asked ≡ false → is_some (entries path) ≡ true) where
    pub outdated-among : (path : List ℕ) → is_one_of path paths ≡ true → is_one_of path all ≡ true
    outdated-among path one = (and_parts (is_one_of path asked) (is_one_of path all) (sym (found path) ∙ one)).1

    not_asked : (asks is : Bool) → is ≡ true → (asks && is) ≡ false → asks ≡ false
    not_asked true is one none = absurd (false≢true (sym none ∙ one))
    not_asked false is one none = refl

    other_at : (path : List ℕ) → is_one_of path all ≡ true → is_one_of path asked ≡ false → (some : Bool) → is_some (rows path) ≡ some
        → is_some (decided world entries path) ≡ true
    other_at path one apart true e = decided-known world entries path (fresh path e apart)
    other_at path one apart false e = decided-absent world entries path (missing path one e)

    pub outdated-others : (path : List ℕ) → is_one_of path all ≡ true → is_one_of path paths ≡ false
        → is_some (decided world entries path) ≡ true
    outdated-others path one apart =
        other_at path one (not_asked (is_one_of path asked) (is_one_of path all) one (sym (found path) ∙ apart)) (is_some (rows path)) refl
