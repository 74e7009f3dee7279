-- The iterations that words give, one by one.
use Rattle.std.proofs.Common.{◌≡◌, ℕ, zero, suc, ◌+◌, ◌*◌, ◌/◌, ◌<◌, ◌≤◌, List, length, drop, Some, refl, ap, ◌∙◌, arith, drop-drop}
use Rattle.std.specs.Prelude.{slice_get}
use Rattle.std.specs.List.{zip}
use Rattle.std.proofs.Math.Nat.{div-mul-le_self, suc-mul, mul-le-mul_right}
use Rattle.mk_loop.specs.Header.{iterations_from}

-- there are as many as were asked for
pub length-iterations : (iterations : ℕ) (names words : List (List ℕ)) → length (iterations_from iterations names words) ≡ iterations
unfolding iterations_from
length-iterations zero names words = refl
length-iterations (suc iterations) names words = let more = length-iterations iterations names
    (drop (length names) words) in omega (arith, more)

next-first : (index size : ℕ) → size + index * size ≡ suc index * size
next-first index size = omega (arith, suc-mul index size)

-- each has the words that follow those of the iterations before it
pub iteration-at : (iterations index : ℕ) (names words : List (List ℕ)) → index < iterations
    → slice_get (iterations_from iterations names words) index ≡ Some (zip names (drop (index * length names) words))
unfolding iterations_from
iteration-at zero index names words below = absurd (omega (arith, below))
iteration-at (suc iterations) zero names words below = ap (λ n. Some (zip names (drop n words)))
    (let none : 0 ≡ 0 * length names = omega arith in none)
iteration-at (suc iterations) (suc index) names words below =
    iteration-at iterations index names (drop (length names) words) (omega (arith, below))
    ∙ ap (λ l. Some (zip names l)) (drop-drop (index * length names) (length names) words
    ∙ ap (λ n. drop n words) (next-first index (length names)))

-- the words of an iteration are there
pub iteration-within : (index size all : ℕ) → index < all / size → index * size + size ≤ all
iteration-within index size all below =
    let next : suc index ≤ all / size = omega (arith, below) in
    omega (arith, div-mul-le_self all size, suc-mul index size, mul-le-mul_right size next)
