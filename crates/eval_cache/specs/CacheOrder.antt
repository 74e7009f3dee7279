-- In which order things are kept, and which of them go. What was used last stands first. If there are too many, what
-- stands last goes. What comes on a walk and fills the cache stands last.
use Rattle.std.specs.Prelude.{◌≡◌, ◌⊎◌, ◌+◌, ◌-◌, Bool, true, false, nat_le, if◌then◌else◌, ℕ, List, [], ◌∷◌, ◌++◌, length, take}
use Rattle.turn_amounts.specs.declared.TheConstants.{MOST_EVALUATIONS}
use Rattle.std.specs.Map.{remove_entry}
use Rattle.std.specs.Str.{bytes_eq}
use Rattle.lru.specs.LruCache.{LruCache, lru_cache, promoted}
use Rattle.mk_paths.specs.FilesView.{Question}
use Rattle.eval_cache.specs.Cache.{CacheValue, holds_parse, traces_at, count_parse}
use Rattle.eval_cache.specs.Held.{HasFewAnswers}
use Rattle.eval_cache.specs.Keys.{Key, same_key}
use Rattle.eval_cache.specs.declared.purpose.Purpose.{Purpose}
use Rattle.eval_cache.specs.declared.purpose.Purpose.TheVariants.{Asking, Walking}
use Rattle.eval_cache.specs.declared.look.Look.{Look}
use Rattle.eval_cache.specs.declared.look.Look.TheVariants.{Hit, Miss}

-- something new goes last if it comes on a walk, and fills these places together with the others
abbrev pub goes_last : {X : Type 0} → Purpose → ℕ → List X → Bool
goes_last Asking places others = false
goes_last Walking places others = nat_le places (length others + 1)

-- Something new and others in so many places. It stands first, or behind the others if it goes last. Of the others as
-- many stay as it leaves places, those that stand first.
abbrev pub placed : {X : Type 0} → Purpose → ℕ → X → List X → List X
placed purpose places new others =
    if goes_last purpose places others then take (places - 1) others ++ new ∷ [] else new ∷ take (places - 1) others

-- the same in a table that has so many places, if there is memory for what is new
abbrev pub PutsNew : {K V : Type 0} → Purpose → K × V → LruCache K V → LruCache K V → Type 0
PutsNew purpose new before after = (after ≡ lru_cache (placed purpose before.cap new before.entries) before.cap) ⊎ (after ≡ before)

-- the traces after a look: if there was a hit, those of its key stand first
abbrev pub looked_at : Look → Key → CacheValue → List (Key × List (List Question))
looked_at (Hit evaluation cost) key cache = promoted (same_key key) cache.traces
looked_at Miss key cache = cache.traces

-- the traces of all other keys
abbrev pub other_traces : Key → CacheValue → List (Key × List (List Question))
other_traces key cache = remove_entry (same_key key) cache.traces

-- these traces of a key are new among those of the other keys
abbrev pub put_traces : Key → List (List Question) → CacheValue → List (Key × List (List Question))
put_traces key traces cache = placed cache.purpose cache.sizes.keys (key, traces) (other_traces key cache)

-- An evaluation with this trace is the newest of its key, and the newest four stay. If there is no memory for it, the
-- newest three of the others stay, or none of the key.
abbrev pub BecomesNewest : Key → List Question → CacheValue → CacheValue → Type 0
BecomesNewest key trace old new =
    (new.traces ≡ put_traces key (take MOST_EVALUATIONS (trace ∷ traces_at old key)) old)
    ⊎ (new.traces ≡ put_traces key (take (MOST_EVALUATIONS - 1) (traces_at old key)) old)
    ⊎ (new.traces ≡ other_traces key old)

-- An evaluation with this trace was to be kept. Without an answer in its trace, or with more than it may have, it isn't.
pub record Keeps (key : Key) (trace : List Question) (old new : CacheValue) : Type 0 where
  pub few : HasFewAnswers trace → BecomesNewest key trace old new
  pub other : (HasFewAnswers trace → ⊥) → new ≡ old
  pub rest : new ≡ record old { traces = new.traces }

-- the contents without this one
abbrev pub without_content : List ℕ → List (List ℕ) → List (List ℕ)
without_content content [] = []
without_content content (one ∷ contents) = if bytes_eq content one then contents else one ∷ without_content content contents

-- a parse of this content is new among the others, if there is memory to keep it
abbrev pub PutsParse : List ℕ → CacheValue → CacheValue → Type 0
PutsParse content old new =
    (new.contents ≡ placed old.purpose old.sizes.parses content old.contents) ⊎ (new.contents ≡ old.contents)

-- A parse of this content was handed out. One that was kept stands first now, and is counted. No evaluation came or
-- went.
pub record HandsOut (content : List ℕ) (old new : CacheValue) : Type 0 where
  pub kept : holds_parse old content ≡ true → new.contents ≡ content ∷ without_content content old.contents
  pub made : holds_parse old content ≡ false → PutsParse content old new
  pub counts : new.counts ≡ count_parse (holds_parse old content) old.counts
  pub traces : new.traces ≡ old.traces
  pub sizes : new.sizes ≡ old.sizes
  pub purpose : new.purpose ≡ old.purpose
