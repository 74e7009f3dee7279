-- Lists that are tested, mapped and filtered, one element more.
use Rattle.std.proofs.Common.{◌≡◌, ◌∙◌, sym, ap, refl, ℕ, ◌+◌, ◌<◌, Bool, true, false, cond, List, [], ◌∷◌, ◌++◌, map, take, length, get_or}
use Rattle.std.proofs.Common.{append-nil}
use Rattle.std.proofs.lemmas.List.{append_assoc, take_more, map-append}
use Rattle.std.proofs.lemmas.List.Elements.{filter-append}
use Rattle.std.specs.List.{filter}

one_kept : {X Y : Type 0} (test : X → Bool) (f : X → Y) (x : X) (before : List Y) (passes : Bool) → test x ≡ passes
    → cond passes (before ++ f x ∷ []) before ≡ before ++ map f (filter test (x ∷ []))
one_kept test f x before true is = ap (λ passes. before ++ map f (cond passes (x ∷ []) [])) (sym is)
one_kept test f x before false is = sym (ap (λ passes. before ++ map f (cond passes (x ∷ []) [])) is ∙ append-nil before)

-- one element more, which is kept if it passes
pub kept-more : {X Y : Type 0} (test : X → Bool) (f : X → Y) (xs : List X) (i : ℕ) (d : X) (first before now : List Y) → i < length xs
    → before ≡ first ++ map f (filter test (take i xs)) → now ≡ cond (test (get_or xs i d)) (before ++ f (get_or xs i d) ∷ []) before
    → now ≡ first ++ map f (filter test (take (i + 1) xs))
kept-more test f xs i d first before now inside so_far more =
    let x = get_or xs i d in
    let kept = map f (filter test (take i xs)) in
    more ∙ one_kept test f x before (test x) refl
    ∙ ap (λ ys. ys ++ map f (filter test (x ∷ []))) so_far
    ∙ append_assoc first kept (map f (filter test (x ∷ [])))
    ∙ ap (λ ys. first ++ ys) (sym (map-append f (filter test (take i xs)) (filter test (x ∷ []))))
    ∙ ap (λ ys. first ++ map f ys) (sym (filter-append test (take i xs) (x ∷ [])))
    ∙ ap (λ ys. first ++ map f (filter test ys)) (sym (take_more xs i d inside))
