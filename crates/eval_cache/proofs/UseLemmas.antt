-- A cache is used some times.
use Rattle.std.proofs.Common.{◌≡◌, ◌∙◌, ap, sym, subst, refl, arith, ℕ, Bool, true, false, List, [], ◌∷◌, inl, inr}
use Rattle.eval_cache.specs.Cache.{CacheValue, count_parse, holds_parse, one_more}
use Rattle.eval_cache.specs.Parses.{AsksParse, AsksInTurn, AsksParses}
use Rattle.eval_cache.specs.CacheUse.{StaysUp, UsesCache}
use Rattle.eval_cache.specs.declared.counts.Counts.{Counts}

up-same : (old new : ℕ) → new ≡ old → StaysUp old new
up-same old new same = omega (arith, same)

up-more : (old new : ℕ) → new ≡ one_more old → StaysUp old new
up-more old new same = omega (arith, same)

up-on : (old middle new : ℕ) → StaysUp old middle → StaysUp middle new → StaysUp old new
up-on old middle new first second = omega (arith, first, second)

-- nothing was used
pub UsesCache-same : (old new : CacheValue) → new.sizes ≡ old.sizes → new.counts ≡ old.counts → UsesCache old new
UsesCache-same old new sizes counts = record {
  sizes = sizes;
  parses = up-same old.counts.parses new.counts.parses (ap (λ (c : Counts). c.parses) counts);
  evals = up-same old.counts.evals new.counts.evals (ap (λ (c : Counts). c.evals) counts);
}

pub UsesCache-none : (cache : CacheValue) → UsesCache cache cache
UsesCache-none cache = UsesCache-same cache cache refl refl

-- what was used, and then more
pub UsesCache-on : (old middle new : CacheValue) → UsesCache old middle → UsesCache middle new → UsesCache old new
UsesCache-on old middle new first second = record {
  sizes = second.sizes ∙ first.sizes;
  parses = up-on old.counts.parses middle.counts.parses new.counts.parses first.parses second.parses;
  evals = up-on old.counts.evals middle.counts.evals new.counts.evals first.evals second.evals;
}

handed : (old new : CacheValue) (kept : Bool) → new.sizes ≡ old.sizes → new.counts ≡ count_parse kept old.counts → UsesCache old new
handed old new false sizes counts = UsesCache-same old new sizes counts
handed old new true sizes counts = record {
  sizes = sizes;
  parses = up-more old.counts.parses new.counts.parses (ap (λ (c : Counts). c.parses) counts);
  evals = up-same old.counts.evals new.counts.evals (ap (λ (c : Counts). c.evals) counts);
}

one : (content : List ℕ) (old new : CacheValue) → AsksParse content old new → UsesCache old new
one content old new (inl out) = handed old new (holds_parse old content) out.sizes out.counts
one content old new (inr same) = subst (UsesCache old) (sym same) (UsesCache-none old)

in_turn : (contents : List (List ℕ)) (old new : CacheValue) → AsksInTurn contents old new → UsesCache old new
in_turn [] old new same = subst (UsesCache old) (sym same) (UsesCache-none old)
in_turn (content ∷ contents) old new asks = UsesCache-on old asks.0 new (one content old asks.0 asks.1) (in_turn contents asks.0 new asks.2)

-- parses that are asked for
pub UsesCache-parses : (old new : CacheValue) → AsksParses old new → UsesCache old new
UsesCache-parses old new asks = in_turn asks.contents old new asks.in_turn
