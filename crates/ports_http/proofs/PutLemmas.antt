-- Adding the bytes of one item after another.
use Rattle.std.proofs.Common.{ℕ, ◌+◌, ◌<◌, List, [], ◌∷◌, ◌++◌, length, take, flat_map, get_or, ap, ◌∙◌, arith, length-append, append_assoc}
use Rattle.std.proofs.Common.{append-nil, Vec, vec_len, vec_capacity, Result, Ok, Err, IsErr}
use Rattle.std.proofs.lemmas.List.{take_more}
use Rattle.std.proofs.lemmas.List.Folds.{length-flat_map-take}
use Rattle.std.proofs.lemmas.Grind.{flat_map-append}
use Rattle.ports_http.specs.Puts.{Appends, AppendsIfRoom}

-- the bytes of the next item, too
pub puts_next : {X Z : Type 0} (f : X → List ℕ) (xs : List X) (i : ℕ) (d : X) (old out new : Vec ℕ Z) → i < length xs
    → Appends old out (flat_map f (take i xs)) → Appends out new (f (get_or xs i d))
    → Appends old new (flat_map f (take (i + 1) xs))
puts_next f xs i d old out new h before next = record {
  items =
      rw (take_more xs i d h, flat_map-append f (take i xs) (get_or xs i d ∷ []), append-nil (f (get_or xs i d)))
      (next.items ∙ ap (λ s. s ++ f (get_or xs i d)) before.items
      ∙ append_assoc old.items (flat_map f (take i xs)) (f (get_or xs i d)));
  room = omega arith;
}

-- where the next item finds no room, all of them find none
pub puts_short : {X Z : Type 0} (f : X → List ℕ) (xs : List X) (i : ℕ) (d : X) (old out : Vec ℕ Z) → i < length xs
    → Appends old out (flat_map f (take i xs)) → vec_capacity out < vec_len out + length (f (get_or xs i d))
    → vec_capacity old < vec_len old + length (flat_map f xs)
puts_short f xs i d old out h before short =
    let sizes = ap length before.items in
    omega (arith, sizes, out.ok.0, old.ok.0, before.room, length-append old.items (flat_map f (take i xs)), length-flat_map-take f xs i d h)

-- a call that failed
pub puts_failed : {Z A E : Type 0} (old new : Vec ℕ Z) (bytes : List ℕ) (r : Result A E) → IsErr r
    → vec_capacity old < vec_len old + length bytes → AppendsIfRoom old bytes r new
puts_failed old new bytes (Ok x) e h = cc
puts_failed old new bytes (Err x) e h = h

-- one after the other
pub appends_both : {Z : Type 0} {old middle new : Vec ℕ Z} {a b : List ℕ} → Appends old middle a → Appends middle new b
    → Appends old new (a ++ b)
appends_both {old = old} {a = a} {b = b} x y = record {
  items = y.items ∙ ap (λ s. s ++ b) x.items ∙ append_assoc old.items a b;
  room = omega arith;
}

pub puts_after : {Z A E : Type 0} {old middle : Vec ℕ Z} {a : List ℕ} (new : Vec ℕ Z) (b : List ℕ) (r : Result A E) → Appends old middle a
    → AppendsIfRoom middle b r new → AppendsIfRoom old (a ++ b) r new
puts_after new b (Ok x) before next = appends_both before next
puts_after {old = old} {middle = middle} {a = a} new b (Err x) before next =
    let sizes = ap length before.items in
    omega (arith, sizes, middle.ok.0, old.ok.0, before.room, next, length-append old.items a, length-append a b)
