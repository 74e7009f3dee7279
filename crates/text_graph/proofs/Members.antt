-- What is in lists that are mapped and filtered, and among texts.
use Rattle.std.proofs.Common.{◌≡◌, ◌∙◌, sym, ap, refl, subst, ℕ, zero, suc, Bool, true, false, cond, List, [], ◌∷◌, map, arith, ◌⊎◌, inl}
use Rattle.std.proofs.Common.{inr}
use Rattle.std.proofs.lemmas.Bool.{cases_Bool, false≢true}
use Rattle.std.proofs.lemmas.Cmp.{nat_list_eq_equiv}
use Rattle.std.proofs.lemmas.Map.Views.{Contains-from_any, list_any-from_Contains}
use Rattle.std.proofs.lemmas.Slice.Eq.{bytes_eq-Decides}
use Rattle.std.specs.List.{Contains, filter}
use Rattle.std.specs.Str.{bytes_eq}
use Rattle.text_graph.specs.TextSearch.{is_among}

pub here : {X : Type 0} (x : X) (xs : List X) → Contains (x ∷ xs) x
here x xs = (0, omega arith, refl)

pub there : {X : Type 0} (x : X) (xs : List X) (y : X) → Contains xs y → Contains (x ∷ xs) y
there x xs y (k, inside, is) = (suc k, omega (arith, inside), is)

pub nothing_in : {X : Type 0} {P : Type 0} (y : X) → Contains [] y → P
nothing_in y (k, inside, is) = absurd (omega (arith, inside))

pub head_or_tail : {X : Type 0} (x : X) (xs : List X) (y : X) → Contains (x ∷ xs) y → (x ≡ y) ⊎ Contains xs y
head_or_tail x xs y (zero, inside, is) = inl is
head_or_tail x xs y (suc k, inside, is) = inr (k, omega (arith, inside), is)

-- an element is the first or comes after it
by_place : {X : Type 0} {P : Type 0} (x : X) (xs : List X) (y : X) → Contains (x ∷ xs) y → (x ≡ y → P) → (Contains xs y → P) → P
by_place x xs y stands first behind = elim (head_or_tail x xs y stands) [ inl is ↦ first is | inr c ↦ behind c ]

pub in_map : {X Y : Type 0} (f : X → Y) (xs : List X) (x : X) → Contains xs x → Contains (map f xs) (f x)
in_map f [] x stands = nothing_in x stands
in_map f (y ∷ ys) x stands =
    by_place y ys x stands (λ is. subst (λ z. Contains (f y ∷ map f ys) (f z)) is (here (f y) (map f ys)))
    (λ c. there (f y) (map f ys) (f x) (in_map f ys x c))

-- an element of a mapped list is that of an element
pub record Origin {X Y : Type 0} (f : X → Y) (xs : List X) (y : Y) : Type 0 where
  pub element : X
  pub stands : Contains xs element
  pub gives : f element ≡ y

pub from_map : {X Y : Type 0} (f : X → Y) (xs : List X) (y : Y) → Contains (map f xs) y → Origin f xs y
from_map f [] y stands = nothing_in y stands
from_map f (x ∷ xs) y stands =
    by_place (f x) (map f xs) y stands
    (λ is. record { element = x; stands = here x xs; gives = is })
    (λ c. let more = from_map f xs y c in record {
      element = more.element;
      stands = there x xs more.element
          more.stands;
      gives = more.gives;
    })

pub in_filter : {X : Type 0} (p : X → Bool) (xs : List X) (x : X) → Contains xs x → p x ≡ true → Contains (filter p xs) x
in_filter p [] x stands passes = nothing_in x stands
in_filter p (y ∷ ys) x stands passes = elim (cases_Bool (p y)) [
  | inl passed ↦ subst (λ zs. Contains zs x) (sym (ap (λ b. cond b (y ∷ filter p ys) (filter p ys)) passed))
      (by_place y ys x stands (λ is. subst (λ z. Contains (y ∷ filter p ys) z) is (here y (filter p ys)))
      (λ c. there y (filter p ys) x (in_filter p ys x c passes)))
  | inr other ↦ subst (λ zs. Contains zs x) (sym (ap (λ b. cond b (y ∷ filter p ys) (filter p ys)) other))
      (by_place y ys x stands (λ is. absurd (false≢true (sym other ∙ ap p is ∙ passes))) (λ c. in_filter p ys x c passes))
]

kept_by : {X : Type 0} (p : X → Bool) (y : X) (ys : List X) (x : X) (b : Bool) → p y ≡ b
    → Contains (cond b (y ∷ filter p ys) (filter p ys)) x
    → (Contains (filter p ys) x → Contains ys x × (p x ≡ true)) → Contains (y ∷ ys) x × (p x ≡ true)
kept_by p y ys x true is stands rest =
    by_place y (filter p ys) x stands
    (λ same. (subst (λ z. Contains (y ∷ ys) z) same (here y ys), ap p (sym same) ∙ is))
    (λ c. let more = rest c in (there y ys x more.0, more.1))
kept_by p y ys x false is stands rest = let more = rest stands in (there y ys x more.0, more.1)

pub from_filter : {X : Type 0} (p : X → Bool) (xs : List X) (x : X) → Contains (filter p xs) x → Contains xs x × (p x ≡ true)
from_filter p [] x stands = nothing_in x stands
from_filter p (y ∷ ys) x stands = kept_by p y ys x (p y) refl stands (from_filter p ys x)

pub equal_texts : (text other : List ℕ) → bytes_eq text other ≡ true → text ≡ other
equal_texts text other = (bytes_eq-Decides text other).0

pub equal_itself : (text : List ℕ) → bytes_eq text text ≡ true
equal_itself text = (bytes_eq-Decides text text).1 refl

pub among_from : (text : List ℕ) (texts : List (List ℕ)) → Contains texts text → is_among text texts ≡ true
among_from text texts stands = list_any-from_Contains nat_list_eq_equiv text texts stands

pub among_by_equal : (text : List ℕ) (texts : List (List ℕ)) → is_among text texts ≡ true → Contains texts text
among_by_equal text texts among = Contains-from_any equal_texts text texts among
