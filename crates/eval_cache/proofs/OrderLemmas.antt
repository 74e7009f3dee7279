-- What is seen of the tables has their order.
use Rattle.std.proofs.Common.{◌≡◌, ◌∙◌, ap, refl, sym, cond, ℕ, Bool, true, false, List, [], ◌∷◌, map, take, Option, Some, None, option_map}
use Rattle.std.proofs.Common.{is_some, inl, inr, ◌⊎◌, Result, Global}
use Rattle.turn_amounts.specs.declared.TheConstants.{MOST_EVALUATIONS}
use Rattle.std.specs.List.{AllByRecursion, IsDistinct, list_any}
use Rattle.std.specs.Map.{lookup, lookup_entry, remove_entry, keys_of}
use Rattle.std.specs.Option.{option_map_or}
use Rattle.std.proofs.lemmas.Bool.{true≢false}
use Rattle.std.proofs.lemmas.Slice.Eq.{bytes_eq-Decides}
use Rattle.std.specs.Str.{bytes_eq}
use Rattle.std.specs.declared.rc.Rc.{Rc}
use Rattle.std.specs.declared.vec.Vec.{Vec}
use Rattle.lru.specs.LruCache.{LruCache, lru_cache, promoted}
use Rattle.lru.proofs.CallerLemmas.{Contains-lookup_entry}
use Rattle.mk_ast.specs.declared.nodes.Makefile.{Makefile}
use Rattle.mk_ast.specs.declared.parser.ParseFault.{ParseFault}
use Rattle.read_trace.specs.declared.evaluation.Evaluation.{Evaluation}
use Rattle.mk_paths.specs.FilesView.{Question}
use Rattle.eval_cache.specs.declared.contents.ContentKey.{ContentKey}
use Rattle.eval_cache.specs.declared.counts.Counts.{Counts}
use Rattle.eval_cache.specs.declared.key.EvalKey.{EvalKey}
use Rattle.eval_cache.specs.Keys.{Key, key_of, same_key}
use Rattle.eval_cache.specs.Cache.{CacheValue, traces_at, one_more, count_parse}
use Rattle.eval_cache.specs.Held.{KeptParses, KeptEvaluations, contents_of, traces_of, traces_by_key, evaluations_in, HasFewAnswers}
use Rattle.eval_cache.specs.Held.{AreNewest}
use Rattle.eval_cache.specs.declared.purpose.Purpose.{Purpose}
use Rattle.eval_cache.specs.CacheOrder.{placed, PutsNew, without_content, Keeps, HandsOut}
use Rattle.eval_cache.proofs.KeyLemmas.{key_eq, key_eq-same_key, key_eq-≡, ≡-key_eq}
use Rattle.eval_cache.proofs.PlaceLemmas.{placed-shown}
use Rattle.eval_cache.proofs.EntryLemmas.{content_eq, kept_at, traces-of-kept, is_some-parse}

-- ---- entries that are seen through a function of keys and one of values

module _ {K L X Y : Type 0} (key : K → L) (value : X → Y) (test : K → Bool) (seen : L → Bool) (same : (k : K) → test k ≡ seen (key k)) where
  abbrev shown : List (K × X) → List (L × Y)
  shown entries = map (λ entry. (key entry.0, value entry.1)) entries

  removed_step : (entry : K × X) (entries : List (K × X)) (b : Bool) (rest : List (L × Y)) → rest ≡ shown (remove_entry test entries)
      → cond b (shown entries) ((key entry.0, value entry.1) ∷ rest) ≡ shown (cond b entries (entry ∷ remove_entry test entries))
  removed_step entry entries true rest is = refl
  removed_step entry entries false rest is = ap (λ more. (key entry.0, value entry.1) ∷ more) is

  pub remove_entry-shown : (entries : List (K × X)) → remove_entry seen (shown entries) ≡ shown (remove_entry test entries)
  remove_entry-shown [] = refl
  remove_entry-shown (entry ∷ entries) =
      ap (λ b. cond b (shown entries) ((key entry.0, value entry.1) ∷ remove_entry seen (shown entries))) (sym (same entry.0))
      ∙ removed_step entry entries (test entry.0) (remove_entry seen (shown entries)) (remove_entry-shown entries)

  found_step : (entry : K × X) (entries : List (K × X)) (b : Bool) (rest : Option (L × Y))
      → rest ≡ option_map (λ e. (key e.0, value e.1)) (lookup_entry test entries)
      → cond b (Some (key entry.0, value entry.1)) rest ≡ option_map (λ e. (key e.0, value e.1))
      (cond b (Some entry) (lookup_entry test entries))
  found_step entry entries true rest is = refl
  found_step entry entries false rest is = is

  lookup_entry-shown : (entries : List (K × X)) → lookup_entry seen (shown entries) ≡ option_map (λ e. (key e.0, value e.1))
      (lookup_entry test entries)
  lookup_entry-shown [] = refl
  lookup_entry-shown (entry ∷ entries) =
      ap (λ b. cond b (Some (key entry.0, value entry.1)) (lookup_entry seen (shown entries))) (sym (same entry.0))
      ∙ found_step entry entries (test entry.0) (lookup_entry seen (shown entries)) (lookup_entry-shown entries)

  first_step : (entries : List (K × X)) (found : Option (K × X)) (rest : List (L × Y)) → rest ≡ shown (remove_entry test entries)
      → option_map_or (λ e. e ∷ rest) (option_map (λ (e : K × X). (key e.0, value e.1)) found) (shown entries)
      ≡ shown (option_map_or (λ e. e ∷ remove_entry test entries) found entries)
  first_step entries None rest is = refl
  first_step entries (Some entry) rest is = ap (λ more. (key entry.0, value entry.1) ∷ more) is

  pub promoted-shown : (entries : List (K × X)) → promoted seen (shown entries) ≡ shown (promoted test entries)
  promoted-shown entries =
      ap (λ found. option_map_or (λ e. e ∷ remove_entry seen (shown entries)) found (shown entries)) (lookup_entry-shown entries)
      ∙ first_step entries (lookup_entry test entries) (remove_entry seen (shown entries)) (remove_entry-shown entries)

-- the traces of a key that was used stand first
pub traces-first : (evals : KeptEvaluations) (key : EvalKey)
    → traces_by_key (promoted (key_eq key) evals) ≡ promoted (same_key (key_of key)) (traces_by_key evals)
traces-first evals key =
    sym (promoted-shown key_of (λ (kept : Vec (Rc Evaluation Global) Global). traces_of kept.items) (key_eq key) (same_key (key_of key))
    (key_eq-same_key key) evals)

traces-removed : (evals : KeptEvaluations) (key : EvalKey)
    → traces_by_key (remove_entry (key_eq key) evals) ≡ remove_entry (same_key (key_of key)) (traces_by_key evals)
traces-removed evals key =
    sym (remove_entry-shown key_of (λ (kept : Vec (Rc Evaluation Global) Global). traces_of kept.items) (key_eq key) (same_key (key_of key))
    (key_eq-same_key key) evals)

-- ---- a key that is there at most once

not_true : (b : Bool) → b ≡ true → b ≡ false → ⊥
not_true b is isnt = true≢false (sym is ∙ isnt)

differs : (b : Bool) → (b ≡ true → ⊥) → b ≡ false
differs true never = absurd (never refl)
differs false never = refl

module _ {K X : Type 0} (eq : K → K → Bool) (test : K → Bool) (only : (one other : K) → test one ≡ true → test other ≡ true
    → eq one other ≡ true) where
  none_after : (one : K) (entries : List (K × X)) → test one ≡ true → AllByRecursion (λ other. eq one other ≡ false) (keys_of entries)
      → lookup_entry test entries ≡ None
  none_after one [] is apart = refl
  none_after one (entry ∷ entries) is apart =
      ap (λ b. cond b (Some entry) (lookup_entry test entries))
      (differs (test entry.0) (λ too. not_true (eq one entry.0) (only one entry.0 is too) apart.0))
      ∙ none_after one entries is apart.1

  gone_step : (entry : K × X) (entries : List (K × X)) (b : Bool) → test entry.0 ≡ b → (b ≡ true → lookup_entry test entries ≡ None)
      → lookup_entry test (remove_entry test entries) ≡ None → lookup_entry test (cond b entries (entry ∷ remove_entry test entries)) ≡ None
  gone_step entry entries true is here rest = here refl
  gone_step entry entries false is here rest = ap (λ b. cond b (Some entry) (lookup_entry test (remove_entry test entries))) is ∙ rest

  pub lookup_entry-removed : (entries : List (K × X)) → IsDistinct eq (keys_of entries)
      → lookup_entry test (remove_entry test entries) ≡ None
  unfolding IsDistinct
  lookup_entry-removed [] distinct = refl
  lookup_entry-removed (entry ∷ entries) distinct =
      gone_step entry entries (test entry.0) refl (λ is. none_after entry.0 entries is distinct.0) (lookup_entry-removed entries distinct.1)

one_key : (key one other : EvalKey) → key_eq key one ≡ true → key_eq key other ≡ true → key_eq one other ≡ true
one_key key one other is too = ≡-key_eq one other (sym (key_eq-≡ key one is) ∙ key_eq-≡ key other too)

-- so none of its evaluations are left after they were taken out
pub none-left : (old middle : LruCache EvalKey (Vec (Rc Evaluation Global) Global)) (key : EvalKey)
    → IsDistinct key_eq (keys_of old.entries)
    → middle ≡ lru_cache (remove_entry (key_eq key) old.entries) old.cap → lookup_entry (key_eq key) middle.entries ≡ None
none-left old middle key distinct removed =
    ap (λ (c : LruCache EvalKey (Vec (Rc Evaluation Global) Global)). lookup_entry (key_eq key) c.entries) removed
    ∙ lookup_entry-removed key_eq (key_eq key) (one_key key) old.entries distinct

-- The evaluations of a key were taken out, and others put there, if there is memory for that. What is seen is that the
-- traces of these are new, or that those of the key are gone.
pub traces-put : (purpose : Purpose) (old middle new : LruCache EvalKey (Vec (Rc Evaluation Global) Global)) (key : EvalKey)
    (kept : Vec (Rc Evaluation Global) Global)
    → middle ≡ lru_cache (remove_entry (key_eq key) old.entries) old.cap → PutsNew purpose (key, kept) middle new
    → (traces_by_key new.entries ≡ placed purpose old.cap (key_of key, traces_of kept.items)
    (remove_entry (same_key (key_of key)) (traces_by_key old.entries)))
    ⊎ (traces_by_key new.entries ≡ remove_entry (same_key (key_of key)) (traces_by_key old.entries))
traces-put purpose old middle new key kept removed (inl put) =
    inl (
    ap (λ (c : LruCache EvalKey (Vec (Rc Evaluation Global) Global)). traces_by_key c.entries) put
    ∙ ap (λ (c : LruCache EvalKey (Vec (Rc Evaluation Global) Global)). traces_by_key (placed purpose c.cap (key, kept) c.entries)) removed
    ∙ placed-shown (λ (e : EvalKey × Vec (Rc Evaluation Global) Global). (key_of e.0, traces_of e.1.items)) purpose old.cap (key, kept)
    (remove_entry (key_eq key) old.entries)
    ∙ ap (placed purpose old.cap (key_of key, traces_of kept.items)) (traces-removed old.entries key)
    )
traces-put purpose old middle new key kept removed (inr same) =
    inr (ap (λ (c : LruCache EvalKey (Vec (Rc Evaluation Global) Global)). traces_by_key c.entries) (same ∙ removed)
    ∙ traces-removed old.entries key)

cap-put : (purpose : Purpose) (old middle new : LruCache EvalKey (Vec (Rc Evaluation Global) Global)) (key : EvalKey)
    (kept : Vec (Rc Evaluation Global) Global)
    → middle ≡ lru_cache (remove_entry (key_eq key) old.entries) old.cap → PutsNew purpose (key, kept) middle new → new.cap ≡ old.cap
cap-put purpose old middle new key kept removed (inl put) =
    ap (λ (c : LruCache EvalKey (Vec (Rc Evaluation Global) Global)). c.cap) put
    ∙ ap (λ (c : LruCache EvalKey (Vec (Rc Evaluation Global) Global)). c.cap) removed
cap-put purpose old middle new key kept removed (inr same) = ap (λ (c : LruCache EvalKey (Vec (Rc Evaluation Global) Global)). c.cap)
    (same ∙ removed)

-- a cache whose evaluations are these
abbrev pub with_evals : List (List ℕ) → ℕ → Counts → Purpose → LruCache EvalKey (Vec (Rc Evaluation Global) Global) → CacheValue
with_evals contents parses counts purpose evals = record {
  contents = contents;
  traces = traces_by_key evals.entries;
  sizes = record { parses = parses; keys = evals.cap };
  counts = counts;
  purpose = purpose;
}

-- the newest evaluations of a key were put in place of the older ones
pub Keeps-put : (contents : List (List ℕ)) (parses : ℕ) (counts : Counts) (purpose : Purpose)
    (old middle new : LruCache EvalKey (Vec (Rc Evaluation Global) Global)) (key : EvalKey) (evaluation : Evaluation)
    (older : Option (Vec (Rc Evaluation Global) Global)) (kept : Vec (Rc Evaluation Global) Global)
    → HasFewAnswers evaluation.trace → older ≡ kept_at old.entries key → AreNewest evaluation (evaluations_in older) kept.items
    → middle ≡ lru_cache (remove_entry (key_eq key) old.entries) old.cap → PutsNew purpose (key, kept) middle new
    → Keeps (key_of key) evaluation.trace (with_evals contents parses counts purpose old) (with_evals contents parses counts purpose new)
Keeps-put contents parses counts purpose old middle new key evaluation older kept few found newest removed puts =
    let first : List (List Question) → List (Key × List (List Question)) =
    λ traces. placed purpose old.cap (key_of key, traces) (remove_entry (same_key (key_of key)) (traces_by_key old.entries)) in
    let before : traces_of (evaluations_in older) ≡ traces_at (with_evals contents parses counts purpose old) (key_of key) =
    traces-of-kept old.entries key older found in
    record {
      few = λ _. elim (traces-put purpose old middle new key kept removed puts) [
        | inl put ↦ elim newest.traces [
          | inl four ↦ inl (put ∙ ap first (four ∙ ap (λ traces. take MOST_EVALUATIONS (evaluation.trace ∷ traces)) before))
          | inr three ↦ inr (inl (put ∙ ap first (three ∙ ap (take 3) before)))
        ]
        | inr gone ↦ inr (inr gone)
      ];
      other = λ many. absurd (many few);
      rest = ap (λ keys. record {
        contents = contents;
        traces = traces_by_key new.entries;
        sizes = record { parses = parses; keys = keys };
        counts = counts;
        purpose = purpose;
      })
          (cap-put purpose old middle new key kept removed puts);
    }

-- ---- contents

without_step : (content : List ℕ) (entry : ContentKey × Result (Rc Makefile Global) ParseFault) (entries : KeptParses)
    (b : Bool) (rest : List (List ℕ))
    → contents_of (remove_entry (λ k. bytes_eq content k.content) entries) ≡ rest
    → contents_of (cond b entries (entry ∷ remove_entry (λ k. bytes_eq content k.content) entries)) ≡ cond b (contents_of entries)
    (entry.0.content ∷ rest)
without_step content entry entries true rest is = refl
without_step content entry entries false rest is = ap (λ more. entry.0.content ∷ more) is

contents-removed : (parses : KeptParses) (key : ContentKey) → contents_of (remove_entry (content_eq key) parses) ≡ without_content
    key.content (contents_of parses)
contents-removed [] key = refl
contents-removed (entry ∷ parses) key =
    without_step key.content entry parses (bytes_eq key.content entry.0.content) (without_content key.content (contents_of parses))
    (contents-removed parses key)

first-content : (parses : KeptParses) (key : ContentKey) (found : Option (ContentKey × Result (Rc Makefile Global) ParseFault))
    → lookup_entry (content_eq key) parses ≡ found → is_some found ≡ true
    → contents_of (option_map_or (λ e. e ∷ remove_entry (content_eq key) parses) found parses) ≡ key.content ∷ contents_of
    (remove_entry (content_eq key) parses)
first-content parses key None is there = absurd (true≢false (sym there))
first-content parses key (Some entry) is there =
    ap (λ content. content ∷ contents_of (remove_entry (content_eq key) parses))
    (sym ((bytes_eq-Decides key.content entry.0.content).0 (Contains-lookup_entry (content_eq key) parses entry is).1))

is_some-entry : {K X : Type 0} (test : K → Bool) (entries : List (K × X)) → is_some (lookup_entry test entries) ≡
    is_some (lookup test entries)
is_some-entry test [] = refl
is_some-entry test (entry ∷ entries) = by (test entry.0) (is_some-entry test entries)
  where
    by : (b : Bool) → is_some (lookup_entry test entries) ≡ is_some (lookup test entries)
        → is_some (cond b (Some entry) (lookup_entry test entries)) ≡ is_some (cond b (Some entry.1) (lookup test entries))
    by true same = refl
    by false same = same

-- the content of a parse that was used stands first
pub contents-first : (parses : KeptParses) (key : ContentKey) → is_some (lookup (content_eq key) parses) ≡ true
    → contents_of (promoted (content_eq key) parses) ≡ key.content ∷ without_content key.content (contents_of parses)
contents-first parses key there =
    first-content parses key (lookup_entry (content_eq key) parses) refl (is_some-entry (content_eq key) parses ∙ there)
    ∙ ap (λ rest. key.content ∷ rest) (contents-removed parses key)

is-none : {X : Type 0} (found : Option X) → is_some found ≡ false → found ≡ None
is-none None isnt = refl
is-none (Some value) isnt = absurd (true≢false isnt)

-- nothing is kept for a content that isn't among those seen
pub no-parse : (parses : KeptParses) (key : ContentKey) → is_some (lookup (content_eq key) parses) ≡ false
    → lookup_entry (content_eq key) parses ≡ None
no-parse parses key none = is-none _ (is_some-entry (content_eq key) parses ∙ none)

-- the content of a new parse is new, if there is memory to keep it
pub contents-put : (purpose : Purpose) (old new : LruCache ContentKey (Result (Rc Makefile Global) ParseFault)) (key : ContentKey)
    (parse : Result (Rc Makefile Global) ParseFault) → PutsNew purpose (key, parse) old new
    → (contents_of new.entries ≡ placed purpose old.cap key.content (contents_of old.entries))
    ⊎ (contents_of new.entries ≡ contents_of old.entries)
contents-put purpose old new key parse (inl put) =
    inl (
    ap (λ (c : LruCache ContentKey (Result (Rc Makefile Global) ParseFault)). contents_of c.entries) put
    ∙ placed-shown (λ (e : ContentKey × Result (Rc Makefile Global) ParseFault). e.0.content) purpose old.cap (key, parse) old.entries
    )
contents-put purpose old new key parse (inr same) =
    inr (ap (λ (c : LruCache ContentKey (Result (Rc Makefile Global) ParseFault)). contents_of c.entries) same)

-- a cache whose parses are these
abbrev pub with_parses : List (Key × List (List Question)) → ℕ → Counts → Purpose
    → LruCache ContentKey (Result (Rc Makefile Global) ParseFault) → CacheValue
with_parses traces keys counts purpose parses = record {
  contents = contents_of parses.entries;
  traces = traces;
  sizes = record { parses = parses.cap; keys = keys };
  counts = counts;
  purpose = purpose;
}

-- a parse that was kept was used
pub HandsOut-kept : (traces : List (Key × List (List Question))) (keys : ℕ) (counts more : Counts) (purpose : Purpose)
    (old new : LruCache ContentKey (Result (Rc Makefile Global) ParseFault)) (key : ContentKey)
    → is_some (lookup (content_eq key) old.entries) ≡ true
    → new ≡ lru_cache (promoted (content_eq key) old.entries) old.cap → more ≡ record counts { parses = one_more counts.parses }
    → HandsOut key.content (with_parses traces keys counts purpose old) (with_parses traces keys more purpose new)
HandsOut-kept traces keys counts more purpose old new key there first counted =
    let held : list_any (bytes_eq key.content) (contents_of old.entries) ≡ true = sym (is_some-parse old.entries key) ∙ there in
    record {
      kept = λ _. ap (λ (c : LruCache ContentKey (Result (Rc Makefile Global) ParseFault)). contents_of c.entries) first
          ∙ contents-first old.entries key there;
      made = λ isnt. absurd (true≢false (sym held ∙ isnt));
      counts = counted ∙ ap (λ b. count_parse b counts) (sym held);
      traces = refl;
      sizes = ap (λ (c : LruCache ContentKey (Result (Rc Makefile Global) ParseFault)). record { parses = c.cap; keys = keys }) first;
      purpose = refl;
    }
