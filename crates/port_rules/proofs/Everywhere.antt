-- Tests of all items of a list, by what was seen of it.
use Rattle.std.proofs.Common.{◌≡◌, ◌∙◌, ◌<◌, ◌≤◌, sym, ap, ℕ, Bool, true, false, List, length, map, take, get_or, String, string_bytes}
use Rattle.std.proofs.Common.{Global}
use Rattle.std.proofs.lemmas.List.{take_all}
use Rattle.std.proofs.lemmas.List.Folds.{list_all-map, list_all_at}
use Rattle.std.specs.List.{list_all}

module _ (p : List ℕ → Bool) (items : List (String Global)) (i : ℕ) where
  -- all were seen, and each passed
  pub all-pass : length items ≤ i → list_all (λ item. p (string_bytes item)) (take i items) ≡ true
      → true ≡ list_all p (map string_bytes items)
  all-pass end seen = sym (list_all-map p string_bytes items ∙ ap (list_all (λ item. p (string_bytes item))) (sym (take_all i items end))
      ∙ seen)

  -- one didn't pass
  pub one-fails : (item : String Global) → i < length items → item ≡ get_or items i item → p (string_bytes item) ≡ false
      → false ≡ list_all p (map string_bytes items)
  one-fails item below is fails =
      sym (list_all-map p string_bytes items ∙ list_all_at (λ found. p (string_bytes found)) items i item below
      (ap (λ found. p (string_bytes found)) (sym is) ∙ fails))
