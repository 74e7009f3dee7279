-- Walks over lists that are put together, and over one item.
use Rattle.std.proofs.Common.{◌≡◌, List, [], ◌∷◌, ◌++◌, Result, Ok, Err, refl, ap, ◌∙◌}
use Rattle.mk_base.specs.Outcome.{Work, after, each}

module _ {M F S X : Type 0} (turn : S → X → Work M F S) where
  from-there : (xs ys : List X) (r : Result (S × M) (F × M))
      → ((s : S) (m : M) → each turn s (xs ++ ys) m ≡ after (each turn s xs m) (λ next. each turn next ys))
      → after r (λ next. each turn next (xs ++ ys)) ≡ after (after r (λ next. each turn next xs)) (λ next. each turn next ys)
  from-there xs ys (Ok end) goes = goes end.0 end.1
  from-there xs ys (Err stop) goes = refl

  -- a walk over two lists is one over the first, and then one over the second
  pub each-append : (s : S) (xs ys : List X) (m : M) → each turn s (xs ++ ys) m ≡ after (each turn s xs m) (λ next. each turn next ys)
  unfolding each
  each-append s [] ys m = refl
  each-append s (x ∷ xs) ys m = from-there xs ys (turn s x m) (λ next m'. each-append next xs ys m')

  pub each-front : (s next : S) (all xs ys : List X) (m m' : M) → all ≡ xs ++ ys → each turn s xs m ≡ Ok (next, m')
      → each turn s all m ≡ each turn next ys m'
  each-front s next all xs ys m m' is value =
      ap (λ l. each turn s l m) is ∙ each-append s xs ys m ∙ ap (λ r. after r (λ next'. each turn next' ys)) value

  pub each-front-stop : (s : S) (all xs ys : List X) (m : M) (stop : F × M) → all ≡ xs ++ ys → each turn s xs m ≡ Err stop
      → each turn s all m ≡ Err stop
  each-front-stop s all xs ys m stop is stops =
      ap (λ l. each turn s l m) is ∙ each-append s xs ys m ∙ ap (λ r. after r (λ next. each turn next ys)) stops

  alone : (r : Result (S × M) (F × M)) → after r (λ next. each turn next []) ≡ r
  unfolding each
  alone (Ok end) = refl
  alone (Err stop) = refl

  -- a walk over one item is its step
  pub each-one : (s : S) (x : X) (m : M) → each turn s (x ∷ []) m ≡ turn s x m
  unfolding each
  each-one s x m = alone (turn s x m)

  -- a walk over nothing gives what it has
  pub each-nothing : (s : S) (m : M) → each turn s [] m ≡ Ok (s, m)
  unfolding each
  each-nothing s m = refl
