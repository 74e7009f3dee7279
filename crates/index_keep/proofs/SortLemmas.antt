-- Stored rows that are sorted, one after another.
use Rattle.std.proofs.Common.{◌≡◌, ◌∙◌, sym, ap, subst, refl, ℕ, Bool, true, false, ◌||◌, ◌&&◌, if◌then◌else◌, List, [], ◌∷◌, ◌++◌, map}
use Rattle.std.proofs.Common.{Option, Some, None, option_and_then, append_assoc, All, suc, arith}
use Rattle.std.proofs.lemmas.Slice.Eq.{bytes_eq-Decides}
use Rattle.std.specs.Option.{option_map_or}
use Rattle.std.specs.Str.{bytes_eq}
use Rattle.port_index.specs.FilledRows.{is_one_of}
use Rattle.port_index.specs.Seen.{Said}
use Rattle.index_store.specs.Entries.{StoredValue, Entries, SeenRow, AreRowsOf, row_path, value_in, stored_seen}
use Rattle.index_store.specs.declared.path_rows.StoredRow.{StoredRow}
use Rattle.index_keep.specs.Judgement.{judge, said_of, is_outdated, fresh_at, outdated_at, known_with, known_by, outdated_in}

regroup : (a b c : Bool) → (a || (b || c)) ≡ ((a || b) || c)
regroup true b c = refl
regroup false b c = refl

pub one_of-append : (path : List ℕ) (paths more : List (List ℕ))
    → is_one_of path (paths ++ more) ≡ (is_one_of path paths || is_one_of path more)
one_of-append path [] more = refl
one_of-append path (first ∷ paths) more =
    ap (λ b. bytes_eq first path || b) (one_of-append path paths more)
    ∙ regroup (bytes_eq first path) (is_one_of path paths) (is_one_of path more)

pub or-none : (a : Bool) → (a || false) ≡ a
or-none true = refl
or-none false = refl

module _ (test : List ℕ → Bool) (entries : Entries) where
  -- the rows so far are known
  abbrev pub KnowsRows : List SeenRow → (List ℕ → Option Said) → Type 0
  KnowsRows rows known = (path : List ℕ) → known path ≡ (if is_one_of path (map row_path rows) then fresh_at test entries path else None)

  -- the rows so far that have to be marked are listed
  abbrev pub ListsOutdated : List SeenRow → List (List ℕ) → Type 0
  ListsOutdated rows paths = (path : List ℕ) → is_one_of path paths ≡ (is_one_of path (map row_path rows) && outdated_at test entries path)

  module _ (rows : List SeenRow) (row : SeenRow) (is : entries row.path ≡ Some (value_in row)) where
    is_one-more : (path : List ℕ) (same : Bool) → bytes_eq row.path path ≡ same → is_one_of path (map row_path (rows ++ row ∷ [])) ≡
        (is_one_of path (map row_path rows) || same)
    is_one-more path same e = ap (is_one_of path) (map-append rows) ∙ one_of-append path (map row_path rows) (row.path ∷ [])
        ∙ ap (λ b. is_one_of path (map row_path rows) || b) (or-none (bytes_eq row.path path) ∙ e)
      where
        map-append : (rows : List SeenRow) → map row_path (rows ++ row ∷ []) ≡ map row_path rows ++ row.path ∷ []
        map-append [] = refl
        map-append (first ∷ rows) = ap (λ rest. first.path ∷ rest) (map-append rows)

    here : (path : List ℕ) → bytes_eq row.path path ≡ true → entries path ≡ Some (value_in row)
    here path e = subst (λ at. entries at ≡ Some (value_in row)) ((bytes_eq-Decides row.path path).0 e) is

    module _ (known : List ℕ → Option Said) (knows : KnowsRows rows known) where
      put_by : (path : List ℕ) (same before : Bool) (said : Option Said) → bytes_eq row.path path ≡ same
          → said_of (judge test (value_in row)) ≡ said
          → known path ≡ (if before then fresh_at test entries path else None)
          → known_by said row.path known path ≡ (if before || same then fresh_at test entries path else None)
      put_by path true before None e says was = was ∙ both before
        where
          fresh_here : fresh_at test entries path ≡ None
          fresh_here = ap (λ (found : Option StoredValue). option_and_then (λ (stored : StoredValue). said_of (judge test stored)) found)
              (here path e) ∙ says

          both : (before : Bool) → (if before then fresh_at test entries path else None) ≡
              (if before || true then fresh_at test entries path else None)
          both true = refl
          both false = sym fresh_here
      put_by path true before (Some said) e says was =
          ap (λ (b : Bool). if b then Some said else known path) e
          ∙ sym (ap (λ (found : Option StoredValue). option_and_then (λ (stored : StoredValue). said_of (judge test stored)) found)
          (here path e) ∙ says)
          ∙ sym (ap (λ (b : Bool). if b then fresh_at test entries path else None) (or_true before))
        where
          or_true : (a : Bool) → (a || true) ≡ true
          or_true true = refl
          or_true false = refl
      put_by path false before None e says was = was
          ∙ sym (ap (λ (b : Bool). if b then fresh_at test entries path else None) (or-none before))
      put_by path false before (Some said) e says was =
          ap (λ (b : Bool). if b then Some said else known path) e ∙ was
          ∙ sym (ap (λ (b : Bool). if b then fresh_at test entries path else None) (or-none before))

      pub KnowsRows-more : KnowsRows (rows ++ row ∷ []) (known_with test row known)
      KnowsRows-more path =
          put_by path (bytes_eq row.path path) (is_one_of path (map row_path rows))
          (said_of (judge test (value_in row))) refl refl (knows path)
          ∙ sym (ap (λ (b : Bool). if b then fresh_at test entries path else None) (is_one-more path (bytes_eq row.path path) refl))

    module _ (paths : List (List ℕ)) (lists : ListsOutdated rows paths) where
      outdated_by : (path : List ℕ) (same before outdated : Bool) → bytes_eq row.path path ≡ same
          → is_outdated (judge test (value_in row)) ≡ outdated
          → is_one_of path paths ≡ (before && outdated_at test entries path)
          → (is_one_of path paths || is_one_of path (if outdated then row.path ∷ [] else [])) ≡
          ((before || same) && outdated_at test entries path)
      outdated_by path true before true e says was =
          ap (λ b. is_one_of path paths || b) (or-none (bytes_eq row.path path) ∙ e) ∙ or_true (is_one_of path paths)
          ∙ sym (ap (λ b. (before || true) && b) there ∙ ap (λ b. b && true) (or_true before))
        where
          or_true : (a : Bool) → (a || true) ≡ true
          or_true true = refl
          or_true false = refl

          there : outdated_at test entries path ≡ true
          there = ap (λ (found : Option StoredValue). option_map_or (λ (stored : StoredValue). is_outdated (judge test stored)) found false)
              (here path e) ∙ says
      outdated_by path true before false e says was =
          or-none (is_one_of path paths) ∙ was ∙ ap (λ b. before && b) there ∙ and_false before
          ∙ sym (ap (λ b. (before || true) && b) there ∙ and_false (before || true))
        where
          and_false : (a : Bool) → (a && false) ≡ false
          and_false true = refl
          and_false false = refl

          there : outdated_at test entries path ≡ false
          there = ap (λ (found : Option StoredValue). option_map_or (λ (stored : StoredValue). is_outdated (judge test stored)) found false)
              (here path e) ∙ says
      outdated_by path false before true e says was =
          ap (λ b. is_one_of path paths || b) (or-none (bytes_eq row.path path) ∙ e) ∙ or-none (is_one_of path paths) ∙ was
          ∙ sym (ap (λ b. b && outdated_at test entries path) (or-none before))
      outdated_by path false before false e says was =
          or-none (is_one_of path paths) ∙ was ∙ sym (ap (λ b. b && outdated_at test entries path) (or-none before))

      pub ListsOutdated-more : ListsOutdated (rows ++ row ∷ []) (paths ++ outdated_in test row)
      ListsOutdated-more path =
          one_of-append path paths (outdated_in test row)
          ∙ outdated_by path (bytes_eq row.path path) (is_one_of path (map row_path rows))
          (is_outdated (judge test (value_in row))) refl refl (lists path)
          ∙ sym (ap (λ b. b && outdated_at test entries path) (is_one-more path (bytes_eq row.path path) refl))

-- a row among others
pub each-at : (P : SeenRow → Type 0) (before : List SeenRow) (row : SeenRow) (after : List SeenRow) → All P (before ++ row ∷ after) → P row
each-at P [] row after all = all 0 row (omega arith)
each-at P (first ∷ before) row after all = each-at P before row after (λ k d inside. all (suc k) d (omega arith))

map-append : (rows more : List StoredRow) → map stored_seen (rows ++ more) ≡ map stored_seen rows ++ map stored_seen more
map-append [] more = refl
map-append (row ∷ rows) more = ap (λ rest. stored_seen row ∷ rest) (map-append rows more)

-- the next row is what is stored for its path
pub row-stored : (entries : Entries) (rows passed rest : List StoredRow) (row : StoredRow) → rows ≡ (passed ++ row ∷ []) ++ rest
    → AreRowsOf entries (map stored_seen rows) → entries (stored_seen row).path ≡ Some (value_in (stored_seen row))
row-stored entries rows passed rest row is are =
    let each = subst (λ (seen : List SeenRow). All (λ (one : SeenRow). entries one.path ≡ Some (value_in one)) seen)
    (ap (map stored_seen) (is ∙ append_assoc passed (row ∷ []) rest) ∙ map-append passed (row ∷ rest)) are.each in
    each-at (λ one. entries one.path ≡ Some (value_in one)) (map stored_seen passed) (stored_seen row) (map stored_seen rest) each

module _ (test : List ℕ → Bool) (entries : Entries) (passed : List StoredRow) (row : StoredRow)
    (is : entries (stored_seen row).path ≡ Some (value_in (stored_seen row))) where
  pub KnowsRows-next : (known after : List ℕ → Option Said) → ((path : List ℕ) → after path ≡ known_with test (stored_seen row) known path)
      → KnowsRows test entries (map stored_seen passed) known → KnowsRows test entries (map stored_seen (passed ++ row ∷ [])) after
  KnowsRows-next known after adds knows path =
      adds path ∙ KnowsRows-more test entries (map stored_seen passed) (stored_seen row) is known knows path
      ∙ ap (λ seen. if is_one_of path (map row_path seen) then fresh_at test entries path else None) (sym (map-append passed (row ∷ [])))

  pub ListsOutdated-next : (paths after : List (List ℕ)) → after ≡ paths ++ outdated_in test (stored_seen row)
      → ListsOutdated test entries (map stored_seen passed) paths → ListsOutdated test entries (map stored_seen (passed ++ row ∷ [])) after
  ListsOutdated-next paths after adds lists path =
      ap (is_one_of path) adds ∙ ListsOutdated-more test entries (map stored_seen passed) (stored_seen row) is paths lists path
      ∙ ap (λ seen. is_one_of path (map row_path seen) && outdated_at test entries path) (sym (map-append passed (row ∷ [])))
