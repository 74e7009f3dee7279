-- What becomes of a cache by making trees.
use Rattle.std.specs.Prelude.{◌≡◌, ◌⊎◌, ℕ, List, [], ◌∷◌, ◌++◌, Result, Ok, Err, OnOk, OnErr}
use Rattle.std.proofs.Common.{refl, subst, inl, inr}
use Rattle.eval_cache.specs.Cache.{CacheValue}
use Rattle.eval_cache.specs.CacheOrder.{HandsOut}

-- The parse of this content was asked for, and handed out. If there was no memory for that, nothing changed.
abbrev pub AsksParse : List ℕ → CacheValue → CacheValue → Type 0
AsksParse content old new = HandsOut content old new ⊎ (new ≡ old)

-- the parses of these contents were asked for, in order
abbrev pub AsksInTurn : List (List ℕ) → CacheValue → CacheValue → Type 0
AsksInTurn [] old new = new ≡ old
AsksInTurn (content ∷ contents) old new = (middle : CacheValue) × AsksParse content old middle × AsksInTurn contents middle new

-- some parses were asked for, or none
pub record AsksParses (old new : CacheValue) : Type 0 where
  pub contents : List (List ℕ)
  pub in_turn : AsksInTurn contents old new

pub AsksParses-none : (cache : CacheValue) → AsksParses cache cache
AsksParses-none cache = record { contents = []; in_turn = refl }

in_turn-on : (first second : List (List ℕ)) (old middle new : CacheValue) → AsksInTurn first old middle → AsksInTurn second middle new
    → AsksInTurn (first ++ second) old new
in_turn-on [] second old middle new none more = subst (λ cache. AsksInTurn second cache new) none more
in_turn-on (content ∷ first) second old middle new one more = (one.0, one.1, in_turn-on first second one.0 middle new one.2 more)

-- some parses, and then more
pub AsksParses-on : (old middle new : CacheValue) → AsksParses old middle → AsksParses middle new → AsksParses old new
AsksParses-on old middle new first second = record {
  contents = first.contents ++ second.contents;
  in_turn = in_turn-on first.contents second.contents old middle new first.in_turn second.in_turn;
}

-- one parse
pub AsksParses-one : {A E : Type 0} (result : Result A E) (content : List ℕ) (old new : CacheValue)
    → OnOk result (HandsOut content old new) → OnErr result (new ≡ old) → AsksParses old new
AsksParses-one (Ok value) content old new ok err = record { contents = content ∷ []; in_turn = (new, inl ok, refl) }
AsksParses-one (Err fault) content old new ok err = record { contents = content ∷ []; in_turn = (new, inr err, refl) }
