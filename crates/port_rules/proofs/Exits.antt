-- How a chain of work ends where one of its parts stops.
use Rattle.std.proofs.Common.{◌≡◌, ◌∙◌, ◌<◌, ◌≤◌, ◌+◌, ap, sym, ℕ, List, length, map, drop, get_or, Result, Ok, Err, String, string_bytes}
use Rattle.std.proofs.Common.{Global}
use Rattle.std.proofs.lemmas.List.{drop_all}
use Rattle.mk_base.specs.Outcome.{Work, after, each}
use Rattle.mk_base.specs.Each.{each-value, each-stop}
use Rattle.mk_base.specs.Stops.{StopsPurelyAt, GivesPurely, StopsPurelyAt-whole}
use Rattle.mk_base.specs.declared.stops.PureStop.{PureStop}
use Rattle.mk_base.specs.declared.stops.PureStop.TheVariants as pure

-- where a part stops that comes first, so does the whole
pub stops-too : {A B F M : Type 0} (stop : PureStop F) (state : M) (part : Result (B × M) (F × M)) (next : B → Work M F A)
    → StopsPurelyAt stop state part → StopsPurelyAt stop state (after part next)
stops-too (pure.Fault fault) state part next is = ap (λ end. after end next) is
stops-too (pure.Memory _) state part next is = tt

-- a stop of the part that comes first is one of the whole
pub exit : {R A B F M : Type 0} (view : R → A) (result : Result R (PureStop F)) (stop : PureStop F) (state : M)
    (part : Result (B × M) (F × M)) (next : B → Work M F A)
    → result ≡ Err stop → StopsPurelyAt stop state part → GivesPurely view result state (after part next)
exit view result stop state part next is at = rw is (stops-too stop state part next at)

-- a stop of the whole is told as one
pub told : {R A F M : Type 0} (view : R → A) (result : Result R (PureStop F)) (stop : PureStop F) (state : M)
    (whole : Result (A × M) (F × M))
    → result ≡ Err stop → StopsPurelyAt stop state whole → GivesPurely view result state whole
told view result stop state whole is at = rw is at

-- a walk over the texts of items
module _ {M F S : Type 0} (turn : S → List ℕ → Work M F S) (items : List (String Global)) (i : ℕ) where
  -- it goes on after an item whose turn gives a value
  pub walk-on : (s next : S) (item : String Global) (text : List ℕ) (m m' : M) → i < length items → item ≡ get_or items i item
      → text ≡ string_bytes item
      → turn s text m ≡ Ok (next, m') → each turn s (map string_bytes (drop i items)) m ≡ each turn next
      (map string_bytes (drop (i + 1) items)) m'
  walk-on s next item text m m' below is same value =
      each-value turn string_bytes s next items i item item m m' below is (ap (λ t. turn s t m) (sym same) ∙ value)

  -- it stops where the turn of an item does
  pub walk-stops : (s : S) (item : String Global) (text : List ℕ) (m : M) (stop : PureStop F) (state : M) → i < length items
      → item ≡ get_or items i item → text ≡ string_bytes item
      → StopsPurelyAt stop state (turn s text m) → StopsPurelyAt stop state (each turn s (map string_bytes (drop i items)) m)
  walk-stops s item text m stop state below is same at =
      StopsPurelyAt-whole stop state (turn s text m) (each turn s (map string_bytes (drop i items)) m)
      (λ end stops. each-stop turn string_bytes s items i item item m end below is (ap (λ t. turn s t m) (sym same) ∙ stops)) at

  -- it ends after the last one
  pub walk-ends : (s : S) (m : M) → length items ≤ i → each turn s (map string_bytes (drop i items)) m ≡ Ok (s, m)
  unfolding each
  walk-ends s m end = ap (λ left. each turn s (map string_bytes left) m) (drop_all i items end)
