-- Paths in order are looked through by the rows that there are.
use Rattle.std.proofs.Common.{◌≡◌, ◌∙◌, ap, sym, refl, ℕ, Bool, true, false, cond, ◌&&◌, List, [], ◌∷◌, Option, Some, None, is_some}
use Rattle.std.proofs.lemmas.List.Kept.{IsStrictlySortedBy-filter}
use Rattle.std.proofs.lemmas.Map.Text.{is_eq-slice_cmp}
use Rattle.std.proofs.lemmas.Slice.Eq.{bytes_eq-Decides}
use Rattle.std.proofs.lemmas.Map.Views.{any-filter_same}
use Rattle.std.specs.List.{cons_option, filter, filter_map}
use Rattle.std.specs.List.Sorted.{IsStrictlySortedBy}
use Rattle.std.specs.Ordering.{eq_by_cmp}
use Rattle.text_parts.specs.Ordered.{among, by_bytes, same_in_order}

module _ {R : Type 0} (root : List ℕ → Option R) where
  shown : List ℕ → Bool
  shown path = is_some (root path)

  -- paths without a root may be left out
  kept_by : (path : List ℕ) (paths : List (List ℕ)) (one : Option R) → root path ≡ one
      → filter_map root paths ≡ filter_map root (filter shown paths)
      → filter_map root (path ∷ paths) ≡ filter_map root (filter shown (path ∷ paths))
  unfolding shown
  kept_by path paths None is rest =
      ap (λ o. cons_option o (filter_map root paths)) is ∙ rest
      ∙ sym (ap (λ (o : Option R). filter_map root (cond (is_some o) (path ∷ filter shown paths) (filter shown paths))) is)
  kept_by path paths (Some one) is rest =
      ap (λ o. cons_option o (filter_map root paths)) is ∙ ap (λ roots. one ∷ roots) rest
      ∙ sym (ap (λ (o : Option R). filter_map root (cond (is_some o) (path ∷ filter shown paths) (filter shown paths))) is
      ∙ ap (λ o. cons_option o (filter_map root (filter shown paths))) is)

  kept : (paths : List (List ℕ)) → filter_map root paths ≡ filter_map root (filter shown paths)
  kept [] = refl
  kept (path ∷ paths) = kept_by path paths (root path) refl (kept paths)

  module _ (listed : List (List ℕ)) where
    abbrev pub listed_root : List ℕ → Option R
    listed_root path = cond (among path listed) (root path) None

    both : List ℕ → Bool
    both path = among path listed && shown path

    met_by : (path : List ℕ) (paths : List (List ℕ)) (is : Bool) (one : Option R) → among path listed ≡ is → root path ≡ one
        → filter_map listed_root paths ≡ filter_map root (filter both paths)
        → filter_map listed_root (path ∷ paths) ≡ filter_map root (filter both (path ∷ paths))
    unfolding shown both
    met_by path paths false one is at rest =
        ap (λ b. cons_option (cond b (root path) None) (filter_map listed_root paths)) is ∙ rest
        ∙ sym (ap (λ b. filter_map root (cond (b && is_some (root path)) (path ∷ filter both paths) (filter both paths))) is)
    met_by path paths true None is at rest =
        ap (λ b. cons_option (cond b (root path) None) (filter_map listed_root paths)) is
        ∙ ap (λ o. cons_option o (filter_map listed_root paths)) at ∙ rest
        ∙ sym (ap (λ b. filter_map root (cond (b && is_some (root path)) (path ∷ filter both paths) (filter both paths))) is
        ∙ ap (λ (o : Option R). filter_map root (cond (true && is_some o) (path ∷ filter both paths) (filter both paths))) at)
    met_by path paths true (Some one) is at rest =
        ap (λ b. cons_option (cond b (root path) None) (filter_map listed_root paths)) is
        ∙ ap (λ o. cons_option o (filter_map listed_root paths)) at ∙ ap (λ roots. one ∷ roots) rest
        ∙ sym (ap (λ b. filter_map root (cond (b && is_some (root path)) (path ∷ filter both paths) (filter both paths))) is
        ∙ ap (λ (o : Option R). filter_map root (cond (true && is_some o) (path ∷ filter both paths) (filter both paths))) at
        ∙ ap (λ o. cons_option o (filter_map root (filter both paths))) at)

    met : (paths : List (List ℕ)) → filter_map listed_root paths ≡ filter_map root (filter both paths)
    met [] = refl
    met (path ∷ paths) = met_by path paths (among path listed) (root path) refl refl (met paths)

    module _ (keys : List (List ℕ)) (there : (path : List ℕ) → is_some (root path) ≡ true → among path keys ≡ true) where
      same_test : (test : List ℕ → Bool) (one other : List ℕ) → eq_by_cmp by_bytes one other ≡ true → test other ≡ test one
      same_test test one other same = ap test (sym ((bytes_eq-Decides one other).0 (sym (is_eq-slice_cmp one other) ∙ same)))

      members : (path : List ℕ) → among path (filter both keys) ≡ among path (filter shown listed)
      unfolding shown both
      members path =
          any-filter_same (eq_by_cmp by_bytes path) both (both path) (λ other same. same_test both path other same) keys
          ∙ by (is_some (root path)) (among path listed) refl
          ∙ sym (any-filter_same (eq_by_cmp by_bytes path) shown (shown path) (λ other same. same_test shown path other same) listed)
        where
          by : (some is : Bool) → is_some (root path) ≡ some → ((is && some) && among path keys) ≡ (some && is)
          by true true e = there path e
          by true false e = refl
          by false true e = refl
          by false false e = refl

      -- the roots of listed paths are those of the keys that are listed
      pub by_keys : IsStrictlySortedBy by_bytes listed → IsStrictlySortedBy by_bytes keys
          → filter_map listed_root keys ≡ filter_map root listed
      by_keys ordered sorted =
          met keys
          ∙ ap (filter_map root) (same_in_order (filter both keys) (filter shown listed)
          (IsStrictlySortedBy-filter by_bytes both keys sorted)
          (IsStrictlySortedBy-filter by_bytes shown listed ordered) members)
          ∙ sym (kept listed)
