-- Where something new comes in a table.
use Rattle.std.proofs.Common.{◌≡◌, ◌∙◌, ◌⊎◌, ap, subst, sym, inl, inr, append-nil, Contains, refl, cond, ℕ, ◌-◌, ◌+◌, Bool, true, false}
use Rattle.std.proofs.Common.{List, [], ◌∷◌, ◌++◌, map, take, Some, None}
use Rattle.std.specs.List.{take-map}
use Rattle.std.proofs.lemmas.List.{length-map, map-append}
use Rattle.std.specs.Prelude.{nat_le}
use Rattle.std.specs.Map.{lookup_entry, remove_entry}
use Rattle.std.specs.Option.{option_map_or}
use Rattle.lru.proofs.Splits.{Contains-cons, Contains-without}
use Rattle.lru.proofs.CallerLemmas.{Contains-take}
use Rattle.lru.specs.LruCache.{LruCache, lru_cache, demoted, put_entries}
use Rattle.eval_cache.specs.declared.purpose.Purpose.{Purpose}
use Rattle.eval_cache.specs.declared.purpose.Purpose.TheVariants as variants
use Rattle.eval_cache.specs.CacheOrder.{goes_last, placed, PutsNew}

-- what is put under a key that isn't there stands before as many others as there may be
pub put-new : {K X : Type 0} (eq : K → K → Bool) (cache : LruCache K X) (key : K) (value : X) → lookup_entry (eq key) cache.entries ≡ None
    → put_entries eq cache key value ≡ (key, value) ∷ take (cache.cap - 1) cache.entries
put-new eq cache key value none =
    ap (λ found. option_map_or (λ e. (e.0, value) ∷ remove_entry (eq key) cache.entries) found
    ((key, value) ∷ take (cache.cap - 1) cache.entries)) none

-- the entry that stands first stands last then
demoted-first : {K X : Type 0} (test : K → Bool) (entry : K × X) (entries : List (K × X)) → test entry.0 ≡ true
    → demoted test (entry ∷ entries) ≡ entries ++ entry ∷ []
demoted-first test entry entries is =
    ap (λ b. option_map_or (λ e. cond b entries (entry ∷ remove_entry test entries) ++ e ∷ [])
    (cond b (Some entry) (lookup_entry test entries)) (entry ∷ entries)) is

-- what goes last does so if it is put first, and then goes last
pub placed-last : {K X : Type 0} (eq : K → K → Bool) (purpose : Purpose) (old middle new : LruCache K X) (key same : K) (value : X)
    → lookup_entry (eq key) old.entries ≡ None → eq same key ≡ true → goes_last purpose old.cap old.entries ≡ true
    → middle ≡ lru_cache (put_entries eq old key value) old.cap → new ≡ lru_cache (demoted (eq same) middle.entries) middle.cap
    → new ≡ lru_cache (placed purpose old.cap (key, value) old.entries) old.cap
placed-last eq purpose old middle new key same value none is last put moved =
    let rest = take (old.cap - 1) old.entries in
    moved
    ∙ ap (λ cache. lru_cache (demoted (eq same) cache.entries) cache.cap) put
    ∙ ap (λ entries. lru_cache (demoted (eq same) entries) old.cap) (put-new eq old key value none)
    ∙ ap (λ entries. lru_cache entries old.cap) (demoted-first (eq same) (key, value) rest is)
    ∙ ap (λ b. lru_cache (cond b (rest ++ (key, value) ∷ []) ((key, value) ∷ rest)) old.cap) (sym last)

-- what is seen of entries is placed as they are
pub placed-shown : {X Y : Type 0} (shown : X → Y) (purpose : Purpose) (places : ℕ) (new : X) (others : List X)
    → map shown (placed purpose places new others) ≡ placed purpose places (shown new) (map shown others)
placed-shown shown purpose places new others =
    by (goes_last purpose places others)
    ∙ ap (λ rest. cond (goes_last purpose places others) (rest ++ shown new ∷ []) (shown new ∷ rest))
    (sym (take-map shown (places - 1) others))
    ∙ ap (λ b. cond b (take (places - 1) (map shown others) ++ shown new ∷ []) (shown new ∷ take (places - 1) (map shown others)))
    (goes_last-shown purpose)
  where
    by : (b : Bool) → map shown (cond b (take (places - 1) others ++ new ∷ []) (new ∷ take (places - 1) others))
        ≡ cond b (map shown (take (places - 1) others) ++ shown new ∷ []) (shown new ∷ map shown (take (places - 1) others))
    by true = map-append shown (take (places - 1) others) (new ∷ [])
    by false = refl

    goes_last-shown : (purpose : Purpose) → goes_last purpose places others ≡ goes_last purpose places (map shown others)
    goes_last-shown variants.Asking = refl
    goes_last-shown variants.Walking = ap (λ n. nat_le places (n + 1)) (sym (length-map others shown))

among : {X : Type 0} (n : ℕ) (b : Bool) (new : X) (others : List X) (one : X)
    → Contains (cond b (take n others ++ new ∷ []) (new ∷ take n others)) one → Contains others one ⊎ (new ≡ one)
among n true new others one there = elim (Contains-without (take n others) new [] one there) [
  | inl same ↦ inr same
  | inr more ↦ inl (Contains-take n others one (subst (λ l. Contains l one) (append-nil (take n others)) more))
]
among n false new others one there = elim (Contains-cons new (take n others) one there) [
  | inl same ↦ inr same
  | inr more ↦ inl (Contains-take n others one more)
]

-- each entry after something new came was there, or is what is new
pub Contains-PutsNew : {K X : Type 0} (purpose : Purpose) (entry : K × X) (old new : LruCache K X) (one : K × X)
    → PutsNew purpose entry old new
    → Contains new.entries one → Contains old.entries one ⊎ (entry ≡ one)
Contains-PutsNew purpose entry old new one (inl put) there =
    among (old.cap - 1) (goes_last purpose old.cap old.entries) entry old.entries one
    (subst (λ cache. Contains cache.entries one) put there)
Contains-PutsNew purpose entry old new one (inr same) there = inl (subst (λ cache. Contains cache.entries one) same there)
