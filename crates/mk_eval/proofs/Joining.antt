-- Texts one after another, by their bytes.
use Rattle.std.proofs.Common.{◌≡◌, ◌∙◌, ◌++◌, ℕ, List, [], ◌∷◌, map, refl, ap, IfOk, String, string_bytes, Result, Ok, Err}
use Rattle.std.specs.List.{join_by, flat_map}
use Rattle.std.specs.declared.alloc.Global.{Global}
use Rattle.mk_eval.specs.Start.{between}

module _ {X : Type 0} (f : X → List ℕ) (mark : List ℕ) where
  behind : (xs : List X) → flat_map (λ x. mark ++ f x) xs ≡ flat_map (λ text. mark ++ text) (map f xs)
  behind [] = refl
  behind (x ∷ xs) = ap (λ rest. (mark ++ f x) ++ rest) (behind xs)

  join_by-between : (xs : List X) → join_by f mark xs ≡ between mark (map f xs)
  join_by-between [] = refl
  join_by-between (x ∷ xs) = ap (λ rest. f x ++ rest) (behind xs)

-- a text that was joined of these texts
pub joined-between : {E : Type 0} (result : Result (String Global) E) (mark : List ℕ) (items : List (String Global)) (texts : List (List ℕ))
    → map string_bytes items ≡ texts
    → IfOk result (λ text. string_bytes text ≡ join_by string_bytes mark items)
    → IfOk result (λ text. string_bytes text ≡ between mark texts)
joined-between (Ok text) mark items texts same is = is ∙ join_by-between string_bytes mark items ∙ ap (between mark) same
joined-between (Err failed) mark items texts same is = tt
