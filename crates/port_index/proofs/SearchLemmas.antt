-- What a search by the order of the bytes finds among paths that are in that order.
use Rattle.std.proofs.Common.{arith, ◌<◌, ◌+◌, ◌≡◌, ◌∙◌, ap, ap₂, subst, sym, ℕ, List, map, length, get_or, true, false, ⊎_elim, String}
use Rattle.std.proofs.Common.{Global, string_bytes}
use Rattle.std.proofs.lemmas.Bool.{cases_lt}
use Rattle.std.proofs.lemmas.Cmp.{nat_list_cmp_total}
use Rattle.std.proofs.lemmas.List.{get_or-map, length-map}
use Rattle.std.proofs.lemmas.List.Folds.{list_any_at, list_any_none}
use Rattle.std.proofs.lemmas.List.Sorted.{searchable_from_sorted}
use Rattle.std.proofs.lemmas.Map.Keys.{Less-from_sorted}
use Rattle.std.proofs.lemmas.Map.Text.{is_eq-slice_cmp}
use Rattle.std.specs.List.Sorted.{IsNonDecreasingBy, IsPartitionPoint, IsStrictlySortedBy}
use Rattle.std.specs.Ordering.{is_lt, is_eq, ordering_index, ordering_reverse}
use Rattle.std.specs.Str.{bytes_eq}
use Rattle.std.specs.declared.cmp.Ordering.TheVariants.{Less, Equal, Greater}
use Rattle.general_facts.specs.Lists.{list_any-map}
use Rattle.text_parts.specs.Ordered.{by_bytes, in_order-sorted}
use Rattle.port_index.specs.FilledRows.{is_one_of}
use Rattle.port_index.specs.TreePaths.{AreInOrder}

-- a path at a place among these is one of them
pub one_of-place : (paths : List (String Global)) (place : ℕ) (one : String Global) (path : List ℕ) → place < length paths
    → one ≡ get_or paths place one → bytes_eq (string_bytes one) path ≡ true
    → is_one_of path (map string_bytes paths) ≡ true
one_of-place paths place one path inside at same =
    list_any-map (λ other. bytes_eq other path) string_bytes paths
    ∙ list_any_at (λ other. bytes_eq (string_bytes other) path) paths place one inside
    (ap (λ other. bytes_eq (string_bytes other) path) (sym at) ∙ same)

module _ (paths : List (String Global)) (path : List ℕ) where
  -- what each path compares to rises along them
  rises : AreInOrder (map string_bytes paths) → IsNonDecreasingBy (λ one. ordering_index (by_bytes (string_bytes one) path)) paths
  rises ordered = searchable_from_sorted nat_list_cmp_total string_bytes paths path (λ k d low high.
      let sorted = subst (IsStrictlySortedBy by_bytes) ordered (in_order-sorted (map string_bytes paths)) in
      let long = length-map paths string_bytes in
      let below = Less-from_sorted by_bytes (map string_bytes paths) k (k + 1) (string_bytes d) sorted (omega arith)
      (omega (arith, long)) in
      let here = get_or-map string_bytes paths k d (string_bytes d) (omega arith) in
      let next = get_or-map string_bytes paths (k + 1) d (string_bytes d) high in
      let one = string_bytes (get_or paths k d) in
      let other = string_bytes (get_or paths (k + 1) d) in
      ap is_lt (nat_list_cmp_total.antisymm other one ∙ ap ordering_reverse (sym (ap₂ by_bytes here next) ∙ below)))

  -- a path that has a place between them is none of them
  pub one_of-missed : (place : ℕ) → AreInOrder (map string_bytes paths)
      → (IsNonDecreasingBy (λ one. ordering_index (by_bytes (string_bytes one) path)) paths
      → IsPartitionPoint (λ one. by_bytes (string_bytes one) path ≡ Less) (λ one. by_bytes (string_bytes one) path ≡ Greater) paths place)
      → false ≡ is_one_of path (map string_bytes paths)
  one_of-missed place ordered search =
      let parts = search (rises ordered) in
      sym (list_any-map (λ one. bytes_eq one path) string_bytes paths
      ∙ list_any_none (λ one. bytes_eq (string_bytes one) path) paths
      (λ k d inside. sym (is_eq-slice_cmp (string_bytes (get_or paths k d)) path)
      ∙ ⊎_elim (λ before. ap is_eq (parts.0 k d (omega arith) before)) (λ after. ap is_eq (parts.1 k d after inside)) (cases_lt k place)))

  -- a path at a place where the comparison gives `Equal` is one of them, and is the one that is there
  pub one_of-found : (place : ℕ) (one : String Global) → place < length paths → one ≡ get_or paths place one
      → by_bytes (string_bytes (get_or paths place one)) path ≡ Equal
      → bytes_eq (string_bytes one) path ≡ is_one_of path (map string_bytes paths)
  one_of-found place one inside at tied =
      let same : bytes_eq (string_bytes one) path ≡ true = sym (is_eq-slice_cmp (string_bytes one) path)
      ∙ ap (λ text. is_eq (by_bytes (string_bytes text) path)) at ∙ ap is_eq tied in
      same ∙ sym (one_of-place paths place one path inside at same)
