-- One statement after another, in a transaction.
use Rattle.std.proofs.Common.{◌≡◌, ◌∙◌, ap, sym, refl, ℕ, ◌+◌, ◌<◌, Bool, true, false, cond, ◌||◌, List, [], ◌∷◌, ◌++◌, map, take, get_or}
use Rattle.std.proofs.Common.{length, String, string_bytes, Option, Some, None, is_some, subst, true≢false}
use Rattle.std.specs.Prelude.{option_map}
use Rattle.std.proofs.lemmas.Map.Entries.{option_filter}
use Rattle.std.specs.Str.{bytes_eq}
use Rattle.std.specs.declared.alloc.Global.{Global}
use Rattle.std.proofs.lemmas.List.{take_more, map-append}
use Rattle.std.proofs.lemmas.List.Folds.{list_any-append}
use Rattle.std.proofs.lemmas.Slice.Eq.{bytes_eq-Decides}
use Rattle.sqlite.specs.State.{State}
use Rattle.sql_facts.specs.Filled.{changed_at}
use Rattle.sql_facts.proofs.Keyed.{cond_same}
use Rattle.index_store.specs.Entries.{is_one_of}
use Rattle.index_store.specs.declared.statements.Part.TheVariants.{Earlier, Current}
use Rattle.index_store.specs.PortTable.{Entry, Rows, ByPath, HoldsInside, no_rows, with_rows, with_mark, marked_at, marked_among}
use Rattle.index_store.specs.PortTable.{fresh_entry, replaced_at, with_row, without, leaving_mark, is_staying}
use Rattle.index_store.proofs.Changing.{by_part}

-- a change of both tables
abbrev pub each_of : (ByPath → ByPath) → Rows → Rows
each_of f rows part = f (rows part)

-- the same rows, written otherwise
pub holds_as : (s : State) (these those : Rows) → these ≡ those → HoldsInside s these → HoldsInside s those
holds_as s these those same h = record { inside = h.inside; formed = h.formed; are = h.are ∙ same }

-- a change of the one table, and then of the other
pub both_changed : (f : ByPath → ByPath) (was mid : Rows) (s : State) → mid ≡ with_rows Current (f (was Current)) was
    → HoldsInside s (with_rows Earlier (f (mid Earlier)) mid) → HoldsInside s (each_of f was)
both_changed f was mid s are h =
    holds_as s (with_rows Earlier (f (mid Earlier)) mid) (each_of f was)
    (by_part _ _ (ap (λ (m : Rows). f (m Earlier)) are) (ap (λ (m : Rows). m Current) are)) h

-- where the release before has no row, a change of the table of today is one of both
pub one_changed : (f : ByPath → ByPath) (was : Rows) (s : State) → f (no_rows Earlier) ≡ no_rows Earlier → was Earlier ≡ no_rows Earlier
    → HoldsInside s (with_rows Current (f (was Current)) was) → HoldsInside s (each_of f was)
one_changed f was s none empty h =
    holds_as s (with_rows Current (f (was Current)) was) (each_of f was) (by_part _ _ (empty ∙ sym (ap f empty ∙ none)) refl) h

-- where there is no row, none is marked
pub none_marked : (mark : ℕ) (path : List ℕ) → marked_at mark path (no_rows Earlier) ≡ no_rows Earlier
none_marked mark path i other = cond_same (bytes_eq path other) None i

pub none_among : (mark : ℕ) (paths : List (List ℕ)) → marked_among mark paths (no_rows Earlier) ≡ no_rows Earlier
none_among mark paths i other = cond_same (is_one_of other paths) None i

-- one path more is marked
marked_more : (mark : ℕ) (paths : List (List ℕ)) (path : List ℕ) (rows : ByPath)
    → marked_at mark path (marked_among mark paths rows) ≡ marked_among mark (paths ++ path ∷ []) rows
marked_more mark paths path rows i other =
    (go (is_one_of other paths) (bytes_eq path other) (rows other)
    ∙ ap (λ b. cond b (option_map (with_mark mark) (rows other)) (rows other))
    (sym (list_any-append (λ one. bytes_eq one other) paths (path ∷ [])))) i
  where
    go : (a b : Bool) (o : Option Entry) → cond b (option_map (with_mark mark) (cond a (option_map (with_mark mark) o) o))
        (cond a (option_map (with_mark mark) o) o) ≡ cond (a || (b || false)) (option_map (with_mark mark) o) o
    go true true None = refl
    go true true (Some e) = refl
    go true false o = refl
    go false true o = refl
    go false false o = refl

marked_next : (mark : ℕ) (paths : List (String Global)) (i : ℕ) (d : String Global) (path : List ℕ) (rows : ByPath) → i < length paths
    → path ≡ string_bytes (get_or paths i d)
    → marked_at mark path (marked_among mark (map string_bytes (take i paths)) rows)
    ≡ marked_among mark (map string_bytes (take (i + 1) paths)) rows
marked_next mark paths i d path rows inside is =
    marked_more mark (map string_bytes (take i paths)) path rows
    ∙ ap (λ p. marked_among mark (map string_bytes (take i paths) ++ p ∷ []) rows) is
    ∙ ap (λ these. marked_among mark these rows) (sym (map-append string_bytes (take i paths) (get_or paths i d ∷ []))
    ∙ ap (map string_bytes) (sym (take_more paths i d inside)))

pub each_marked_next : (mark : ℕ) (paths : List (String Global)) (i : ℕ) (d : String Global) (path : List ℕ) (was : Rows) → i < length paths
    → path ≡ string_bytes (get_or paths i d)
    → each_of (marked_at mark path) (each_of (marked_among mark (map string_bytes (take i paths))) was)
    ≡ each_of (marked_among mark (map string_bytes (take (i + 1) paths))) was
each_marked_next mark paths i d path was inside is =
    by_part _ _ (marked_next mark paths i d path (was Earlier) inside is) (marked_next mark paths i d path (was Current) inside is)

-- whatever mark there was, a row that gets this one is gone
pub leaving : (o : Option Entry) → option_filter is_staying (option_map (with_mark leaving_mark) o) ≡ None
leaving None = refl
leaving (Some e) = refl

pub gone : (path : List ℕ) (rows : ByPath) → without path rows path ≡ None
gone path rows =
    ap (λ b. option_filter is_staying (cond b (option_map (with_mark leaving_mark) (rows path)) (rows path)))
    ((bytes_eq-Decides path path).1 refl)
    ∙ leaving (rows path)

-- ---- a row is put

module _ (path : List ℕ) (profile : Option ℕ) (text : List ℕ) (rows : ByPath) where
  abbrev row : Entry
  row = fresh_entry path profile text

  at_path : (Q : Option Entry → Type 0) (change then : Option Entry → Option Entry) → Q (rows path)
      → ((o : Option Entry) → Q o → change o ≡ then o) → changed_at path change rows ≡ changed_at path then rows
  at_path Q change then here same i other = go (bytes_eq path other) refl i
    where
      go : (b : Bool) → bytes_eq path other ≡ b → cond b (change (rows other)) (rows other) ≡ cond b (then (rows other)) (rows other)
      go true tie = same (rows other) (subst (λ p. Q (rows p)) ((bytes_eq-Decides path other).0 tie) here)
      go false apart = refl

  -- in place of the one there
  pub replaced_there : is_some (rows path) ≡ true → replaced_at path profile text rows ≡ with_row path profile text rows
  replaced_there there = at_path (λ o. is_some o ≡ true) (option_map (λ _. row)) (λ _. Some row) there go
    where
      go : (o : Option Entry) → is_some o ≡ true → option_map (λ _. row) o ≡ Some row
      go None there = absurd (true≢false (sym there))
      go (Some e) there = refl

  -- where there is none, nothing is replaced
  pub none_replaced : is_some (rows path) ≡ false → replaced_at path profile text rows ≡ rows
  none_replaced absent =
      at_path (λ o. is_some o ≡ false) (option_map (λ _. row)) (λ o. o) absent go
      ∙ (λ i other. cond_same (bytes_eq path other) (rows other) i)
    where
      go : (o : Option Entry) → is_some o ≡ false → option_map (λ _. row) o ≡ o
      go None absent = refl
      go (Some e) absent = absurd (true≢false absent)

pub none_there : (o : Option Entry) → is_some o ≡ false → o ≡ None
none_there None absent = refl
none_there (Some e) absent = absurd (true≢false absent)
