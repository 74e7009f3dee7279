-- Contents that are kept, as they change.
use Rattle.std.proofs.Common.{◌≡◌, ◌∙◌, ap, sym, subst, ℕ, Bool, List, [], ◌⊎◌, inl, inr, Some, String, Global, string_bytes, Contains}
use Rattle.std.proofs.Common.{Result, Ok, Err}
use Rattle.std.proofs.lemmas.Slice.Eq.{bytes_eq-Decides}
use Rattle.std.specs.FinMap.{get}
use Rattle.std.specs.Map.{lookup}
use Rattle.std.specs.Result.{OnOk, OnErr}
use Rattle.std.specs.Str.{bytes_eq}
use Rattle.std.specs.String.{string_eq}
use Rattle.lru.specs.LruCache.{LruCache, lru_cache, promoted, put_entries}
use Rattle.lru.proofs.CallerLemmas.{Contains-lookup, Contains-promoted, Contains-put_entries, IsPut}
use Rattle.lru.proofs.Splits.{Contains-nil}
use Rattle.mk_paths.specs.World.{FileMap}
use Rattle.tenant_store.specs.Contents.{AreContents}

abbrev pub Kept : Type 0
Kept = List (String Global × List ℕ)

-- where nothing is kept, all that is kept is right
pub nothing_kept : {cap : ℕ} {files : FileMap} (kept : LruCache (String Global) (List ℕ)) → kept ≡ lru_cache [] cap
    → AreContents kept.entries files
nothing_kept {cap} {files} kept is =
    subst (λ (c : LruCache (String Global) (List ℕ)). AreContents c.entries files) (sym is)
    (record { each = λ name content h. absurd (Contains-nil (name, content) h) })

-- whether a key is this name
abbrev pub named : List ℕ → String Global → Bool
named name key = bytes_eq name (string_bytes key)

module _ (kept : Kept) (files : FileMap) (are : AreContents kept files) where
  -- what is found under a name is the content of its file
  pub found_content : (name content : List ℕ) → lookup (named name) kept ≡ Some content → get files name ≡ Some content
  found_content name content found =
      let held = Contains-lookup (named name) kept content found in
      ap (get files) ((bytes_eq-Decides name (string_bytes held.0)).0 held.2) ∙ are.each held.0 content held.1

  -- they stay when one is used
  pub used_stay : (name : List ℕ) (cap : ℕ) (new : LruCache (String Global) (List ℕ)) → new ≡ lru_cache (promoted (named name) kept) cap
      → AreContents new.entries files
  used_stay name cap new is =
      subst (λ (c : LruCache (String Global) (List ℕ)). AreContents c.entries files) (sym is)
      (record { each = λ key content h. are.each key content (Contains-promoted (named name) kept (key, content) h) })

-- one more is kept, or nothing has changed
module _ (old : LruCache (String Global) (List ℕ)) (files : FileMap) (name : String Global) (content : List ℕ)
    (are : AreContents old.entries files)
    (is : get files (string_bytes name) ≡ Some content) where
  of_put : (key : String Global) (value : List ℕ) → Contains old.entries (key, value) ⊎ IsPut string_eq old name content (key, value)
      → get files (string_bytes key) ≡ Some value
  of_put key value (inl was) = are.each key value was
  of_put key value (inr (same, inl put)) = ap (λ k. get files (string_bytes k)) put ∙ is ∙ ap Some (sym same)
  of_put key value (inr (same, inr (had, was, put))) =
      ap (get files) (sym ((bytes_eq-Decides (string_bytes name) (string_bytes key)).0 put)) ∙ is ∙ ap Some (sym same)

  put_in : AreContents (put_entries string_eq old name content) files
  put_in = record { each = λ key value h. of_put key value (Contains-put_entries string_eq old name content (key, value) h) }

  pub put_stay : {X E : Type 0} (result : Result X E) (new : LruCache (String Global) (List ℕ))
      → OnOk result (new ≡ lru_cache (put_entries string_eq old name content) old.cap) → OnErr result (new ≡ old)
      → AreContents new.entries files
  put_stay (Ok _) new put same = subst (λ (c : LruCache (String Global) (List ℕ)). AreContents c.entries files) (sym put) put_in
  put_stay (Err _) new put same = subst (λ (c : LruCache (String Global) (List ℕ)). AreContents c.entries files) (sym same) are
