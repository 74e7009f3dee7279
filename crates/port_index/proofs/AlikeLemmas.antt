-- Rows that name the same paths make the same lists.
use Rattle.std.proofs.Common.{◌≡◌, ◌∙◌, ap, sym, refl, ℕ, true, ◌||◌, List, [], ◌∷◌, ◌++◌}
use Rattle.std.proofs.lemmas.Bool.{or_right}
use Rattle.std.proofs.lemmas.Slice.Eq.{bytes_eq-Decides}
use Rattle.std.specs.List.{cons_option, filter_map, flat_map}
use Rattle.std.specs.Str.{bytes_eq}
use Rattle.text_parts.specs.Order.{in_order}
use Rattle.port_index.specs.PathOutcomes.{PathOutcome}
use Rattle.port_index.specs.TreePaths.{named_at}
use Rattle.port_rules.specs.Depends.{DependValue}
use Rattle.port_deps.specs.Items.{wanted_of}
use Rattle.port_index.specs.Dependencies.{target_by, target_in, targets_in}
use Rattle.port_index.specs.FilledRows.{is_one_of}
use Rattle.port_index.specs.Alike.{AreAlikeAt, AlikeRowsListTheSame, dependency_items}
use Rattle.port_index.proofs.TargetLemmas.{targets-among}

module _ (old new : List ℕ → PathOutcome) where
  first : (path : List ℕ) (paths : List (List ℕ)) → is_one_of path (path ∷ paths) ≡ true
  first path paths = ap (λ b. b || is_one_of path paths) ((bytes_eq-Decides path path).1 refl)

  others : (path : List ℕ) (paths : List (List ℕ)) → AreAlikeAt old new (path ∷ paths) → AreAlikeAt old new paths
  others path paths alike other is = alike other (or_right (bytes_eq path other) (is_one_of other paths) is)

  named-alike : (paths : List (List ℕ)) → AreAlikeAt old new paths → flat_map (named_at new) paths ≡ flat_map (named_at old) paths
  named-alike [] alike = refl
  named-alike (path ∷ paths) alike =
      ap (λ named. named ++ flat_map (named_at new) paths) (alike path (first path paths)).words
      ∙ ap (λ more. named_at old path ++ more) (named-alike paths (others path paths alike))

  targets-alike : (paths : List (List ℕ)) → AreAlikeAt old new paths
      → flat_map (λ path. targets_in (new path)) paths ≡ flat_map (λ path. targets_in (old path)) paths
  targets-alike [] alike = refl
  targets-alike (path ∷ paths) alike =
      ap (λ targets. targets ++ flat_map (λ other. targets_in (new other)) paths) (alike path (first path paths)).items
      ∙ ap (λ more. targets_in (old path) ++ more) (targets-alike paths (others path paths alike))

-- what items name depends on their texts alone
pub targets-by_items : (new old : List DependValue) → dependency_items new ≡ dependency_items old
    → filter_map target_by new ≡ filter_map target_by old
targets-by_items new old same =
    sym (by_texts new) ∙ ap (filter_map (λ item. target_in (wanted_of item))) same ∙ by_texts old
  where
    by_texts : (depends : List DependValue) → filter_map (λ item. target_in (wanted_of item)) (dependency_items depends) ≡
        filter_map target_by depends
    by_texts [] = refl
    by_texts (depend ∷ depends) = ap (cons_option (target_by depend)) (by_texts depends)

pub alike_rows : AlikeRowsListTheSame
alike_rows = record {
  listed = λ old new paths alike. ap (λ named. in_order (named ++ paths)) (named-alike old new paths alike);
  needed = λ old new paths alike.
      ap (λ targets. in_order (paths ++ targets))
      (sym (targets-among new paths) ∙ targets-alike old new paths alike ∙ targets-among old paths);
}
