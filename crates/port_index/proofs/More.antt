-- One more item of a list that is read from the front.
use Rattle.std.proofs.Common.{◌≡◌, ◌∙◌, ◌<◌, ◌+◌, sym, ap, refl, ℕ, List, [], ◌∷◌, ◌++◌, length, map, take, get_or, append_assoc}
use Rattle.std.proofs.Common.{append-nil, Option, Some, None}
use Rattle.std.proofs.lemmas.List.{map-append, take_more}
use Rattle.std.proofs.lemmas.Grind.{flat_map-append}
use Rattle.std.proofs.lemmas.List.Elements.{filter_map-append}
use Rattle.std.specs.List.{filter_map, flat_map, cons_option}
use Rattle.std.specs.Option.{option_to_list}

pub map-more : {X Y : Type 0} (view : X → Y) (items : List X) (i : ℕ) (item : X) → i < length items → item ≡ get_or items i item
    → map view (take (i + 1) items) ≡ map view (take i items) ++ view item ∷ []
map-more view items i item below is =
    ap (map view) (take_more items i item below ∙ ap (λ x. take i items ++ x ∷ []) (sym is)) ∙ map-append view (take i items) (item ∷ [])

one : {Y : Type 0} (found : Option Y) → cons_option found [] ≡ option_to_list found
one None = refl
one (Some y) = refl

pub filter_map-more : {X Y Z : Type 0} (f : Y → Option Z) (view : X → Y) (items : List X) (i : ℕ) (item : X) → i < length items
    → item ≡ get_or items i item
    → filter_map f (map view (take (i + 1) items)) ≡ filter_map f (map view (take i items)) ++ option_to_list (f (view item))
filter_map-more f view items i item below is =
    ap (filter_map f) (map-more view items i item below is) ∙ filter_map-append f (map view (take i items)) (view item ∷ [])
    ∙ ap (λ more. filter_map f (map view (take i items)) ++ more) (one (f (view item)))

-- a filter with one item more
pub filter-next : {X Y Z : Type 0} (f : Y → Option Z) (view : X → Y) (items : List X) (i : ℕ) (item : X) (y : Y) (front now next : List Z)
    (found : Option Z) → i < length items → item ≡ get_or items i item
    → y ≡ view item → now ≡ front ++ filter_map f (map view (take i items)) → found ≡ f y → next ≡ now ++ option_to_list found
    → next ≡ front ++ filter_map f (map view (take (i + 1) items))
filter-next f view items i item y front now next found below is same so_far here step =
    let before = filter_map f (map view (take i items)) in
    step ∙ ap (λ n. n ++ option_to_list found) so_far ∙ append_assoc front before (option_to_list found)
    ∙ ap (λ o. front ++ (before ++ option_to_list o)) (here ∙ ap f same)
    ∙ ap (λ n. front ++ n) (sym (filter_map-more f view items i item below is))

-- what a list of lists has with one item more
pub flat_map-more : {X Y Z : Type 0} (f : Y → List Z) (view : X → Y) (items : List X) (i : ℕ) (item : X) → i < length items
    → item ≡ get_or items i item
    → flat_map f (map view (take (i + 1) items)) ≡ flat_map f (map view (take i items)) ++ f (view item)
flat_map-more f view items i item below is =
    ap (flat_map f) (map-more view items i item below is) ∙ flat_map-append f (map view (take i items)) (view item ∷ [])
    ∙ ap (λ more. flat_map f (map view (take i items)) ++ more) (append-nil (f (view item)))
