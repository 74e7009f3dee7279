-- Lists seen through a view, one on.
use Rattle.std.proofs.Common.{◌≡◌, ℕ, ◌+◌, ◌-◌, ◌<◌, ◌≤◌, List, [], ◌∷◌, length, get_or, take, drop, map, sym, ap, ◌∙◌, arith}
use Rattle.std.proofs.lemmas.List.{drop_more, drop_all, drop-map, take_rest, length-map, nil_from_length}

pub map-next : {X Y : Type 0} (f : X → Y) (xs : List X) (i : ℕ) (d : X) → i < length xs → drop i (map f xs) ≡ f (get_or xs i d)
    ∷ drop (i + 1) (map f xs)
map-next f xs i d near =
    drop-map f i xs ∙ ap (map f) (drop_more xs i d near) ∙ ap (λ l. f (get_or xs i d) ∷ l) (sym (drop-map f (i + 1) xs))

pub map-rest : {X Y : Type 0} (f : X → Y) (xs : List X) (i : ℕ) → map f (take (length xs - i) (drop i xs)) ≡ drop i (map f xs)
map-rest f xs i = ap (map f) (take_rest xs i) ∙ sym (drop-map f i xs)

pub map-end : {X Y : Type 0} (f : X → Y) (xs : List X) (i : ℕ) → length xs ≤ i → drop i (map f xs) ≡ []
map-end f xs i far = drop_all i (map f xs) (omega (arith, length-map xs f))

pub map-nil : {X Y : Type 0} (f : X → Y) (xs : List X) → length xs ≡ 0 → map f xs ≡ []
map-nil f xs none = ap (map f) (nil_from_length xs none)
