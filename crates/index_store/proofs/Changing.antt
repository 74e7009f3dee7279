-- What the statements make of a table.
use Rattle.std.proofs.Common.{◌≡◌, ℕ, ℤ, pos, not, eqb, true, false, List, [], ◌∷◌, Bool, Option, Some, None, is_some, refl, sym, ap, subst}
use Rattle.std.proofs.Common.{◌∙◌, Ok}
use Rattle.std.specs.Prelude.{◌==◌, cond, option_map, unwrap_or}
use Rattle.std.specs.Str.{bytes_eq}
use Rattle.std.proofs.lemmas.Slice.Eq.{bytes_eq-Decides}
use Rattle.sqlite_value.specs.declared.value.Value.TheVariants.{Null, Int, Text, Blob}
use Rattle.sqlite_value.specs.Order.{Row}
use Rattle.sqlite_sql.specs.Term.{lit, col}
use Rattle.sqlite.specs.State.{State, ExecutesInside}
use Rattle.sqlite_rules.specs.Cast.{cast_row}
use Rattle.sql_facts.specs.Filled.{AreFilled, entry_row, entries_of_rows, changed_at}
use Rattle.sql_facts.proofs.Keyed.{Makes, cast_null, cast_integer, row_found, inserts_entry, updates_entries, updates_at, deletes_entries}
use Rattle.sql_facts.proofs.Statements.{seen}
use Rattle.index_store.specs.declared.statements.Part.{Part}
use Rattle.index_store.specs.declared.statements.Part.TheVariants.{Earlier, Current}
use Rattle.index_store.specs.PortTable.{Entry, Rows, ByPath, IsFormed, HoldsInside, layout, rows_at, with_rows, tree_number, port_schema}
use Rattle.index_store.specs.PortTable.{leaving_mark}
use Rattle.index_store.specs.PortTable.{stale_mark}
use Rattle.index_store.specs.PortTable.{fresh_entry, replaced_at, with_row, marked_at, with_mark, all_marked, staying_of}
use Rattle.index_store.specs.PortTable.{insert_earlier, insert_current, update_current, mark_row, mark_rows, delete_rows}
use Rattle.index_store.proofs.Fixed.{table_of, site, last_columns, of_leaving, passes_leaving}
use Rattle.index_store.proofs.Fixed.{insert_earlier_text, insert_current_text, update_text, mark_text, marks_text, delete_text}

-- ---- one of the tables

-- what holds of each table holds of both
pub each_part : (P : Part → Type 0) → P Earlier → P Current → (part : Part) → P part
each_part P earlier current Earlier = earlier
each_part P earlier current Current = current

pub by_part : (these those : Rows) → these Earlier ≡ those Earlier → these Current ≡ those Current → these ≡ those
by_part these those earlier current i part = each_part (λ part. these part ≡ those part) earlier current part i

-- a statement of a transaction has run, and changed some number of rows
abbrev RanInside : List ℕ → Row → State → State → Type 0
RanInside sql params old new = (count : ℕ) × ExecutesInside 0 sql params old new (Ok count)

-- in the transaction, one table has these rows now
abbrev Made : Part → State → State → ByPath → Type 0
Made part old new rows = HoldsInside new (with_rows part rows (rows_at old.now.trees))

port_change : (part : Part) (old new : State) (rows : ByPath) → IsFormed old.now → new.in_transaction ≡ true
    → Makes (layout part) port_schema old new (tree_number part) rows → Made part old new rows
port_change Earlier old new rows formed inside h =
    let others : new.now.trees 2 ≡ old.now.trees 2 = h.others.1.0 (λ e. absurd cc) in
    let filled = subst (AreFilled (layout Current)) (sym others) (formed.rows Current) in
    record {
      inside = inside;
      formed = record {
        schema = h.schema_is;
        rows =
            each_part (λ part. AreFilled (layout part) (new.now.trees (tree_number part))) h.filled filled;
      };
      are =
          by_part (rows_at new.now.trees) (with_rows Earlier rows (rows_at old.now.trees)) h.are
          (ap (entries_of_rows (layout Current)) others);
    }
port_change Current old new rows formed inside h =
    let others : new.now.trees 0 ≡ old.now.trees 0 = h.others.0 (λ e. absurd cc) in
    let filled = subst (AreFilled (layout Earlier)) (sym others) (formed.rows Earlier) in
    record {
      inside = inside;
      formed = record {
        schema = h.schema_is;
        rows =
            each_part (λ part. AreFilled (layout part) (new.now.trees (tree_number part))) filled h.filled;
      };
      are =
          by_part (rows_at new.now.trees) (with_rows Current rows (rows_at old.now.trees))
          (ap (entries_of_rows (layout Earlier)) others) h.are;
    }

-- ---- the marks of rows

mark_cells : (part : Part) (mark : ℕ) (params : Row) (id : ℤ) (e : Entry)
    → cast_row (table_of part) (Int id ∷ Text e.path ∷ Int (pos mark) ∷ Blob e.text ∷ seen (last_columns part) params
    (entry_row (layout part) id e))
    ≡ entry_row (layout part) id (with_mark mark e)
mark_cells Earlier mark params id e = λ i. cast_integer id i ∷ Text e.path ∷ cast_integer (pos mark) i ∷ Blob e.text ∷ []
mark_cells Current mark params id e =
    λ i. cast_integer id i ∷ Text e.path ∷ cast_integer (pos mark) i ∷ Blob e.text ∷ cast_integer (pos (unwrap_or e.profile 0)) i ∷ []

mark_back : (part : Part) (mark : ℕ) (id : ℤ) (r : Row)
    → (layout part).entry (entry_row (layout part) id (with_mark mark ((layout part).entry r))) ≡ with_mark mark ((layout part).entry r)
mark_back Earlier mark id r = refl
mark_back Current mark id r = refl

module _ (part : Part) (old new : State) (formed : IsFormed old.now) where
  pub marks_row : (path : List ℕ) (mark : ℕ) → RanInside (mark_row part) (Text path ∷ Int (pos mark) ∷ []) old new
      → Made part old new (marked_at mark path (rows_at old.now.trees part))
  marks_row path mark ran =
      let more = Int (pos mark) ∷ [] in
      port_change part old new _ formed ran.1.1.mode
      (updates_at (mark_row part) path more old new (site part old formed) (ran.0, ran.1.0)
      (col 1 0 ∷ col 1 1 ∷ col 0 1 ∷ col 1 3 ∷ last_columns part) (with_mark mark) (λ _. refl) (mark_cells part mark (Text path ∷ more))
      (mark_back part mark) (mark_text part)).0

  pub marks_all : RanInside (mark_rows part) [] old new → Made part old new (all_marked (rows_at old.now.trees part))
  marks_all ran =
      port_change part old new _ formed ran.1.1.mode
      (updates_entries (mark_rows part) [] old new (site part old formed) (ran.0, ran.1.0)
      [] (col 1 0 ∷ col 1 1 ∷ lit (Int (pos 1)) ∷ col 1 3 ∷ last_columns part) (λ _. true) (with_mark stale_mark) (λ _ _. refl) (λ _. refl)
      (mark_cells part stale_mark []) (mark_back part stale_mark) (marks_text part)).0

  pub deletes_marked : RanInside (delete_rows part) [] old new → Made part old new (staying_of (rows_at old.now.trees part))
  deletes_marked ran =
      port_change part old new _ formed ran.1.1.mode
      (deletes_entries (delete_rows part) [] old new (site part old formed) (ran.0, ran.1.0)
      of_leaving (λ e. e.mark == leaving_mark) (passes_leaving part) (delete_text part))

-- ---- rows are written

module _ (old new : State) (formed : IsFormed old.now) (path text : List ℕ) where
  pub inserts_earlier : rows_at old.now.trees Earlier path ≡ None → RanInside insert_earlier (Text path ∷ Blob text ∷ []) old new
      → Made Earlier old new (with_row path None text (rows_at old.now.trees Earlier))
  inserts_earlier free ran =
      let source = Null ∷ Text path ∷ Int (pos 0) ∷ Blob text ∷ [] in
      let cells : cast_row (table_of Earlier) source ≡ source = λ i. cast_null i ∷ Text path ∷ cast_integer (pos 0) i ∷ Blob text ∷ [] in
      port_change Earlier old new _ formed ran.1.1.mode
      (inserts_entry insert_earlier (Text path ∷ Blob text ∷ []) old new (site Earlier old formed) (ran.0, ran.1.0)
      (lit Null ∷ col 0 0 ∷ lit (Int (pos 0)) ∷ col 0 1 ∷ []) 4 source (fresh_entry path None text) insert_earlier_text refl refl cells
      (λ _. refl) free)

  module _ (profile : ℕ) where
    abbrev written : Row
    written = Text path ∷ Blob text ∷ Int (pos profile) ∷ []

    abbrev rows : ByPath
    rows = rows_at old.now.trees Current

    pub inserts_current : rows path ≡ None → RanInside insert_current written old new
        → Made Current old new (with_row path (Some profile) text rows)
    inserts_current free ran =
        let source = Null ∷ Text path ∷ Int (pos 0) ∷ Blob text ∷ Int (pos profile) ∷ [] in
        let cells : cast_row (table_of Current) source ≡ source =
        λ i. cast_null i ∷ Text path ∷ cast_integer (pos 0) i ∷ Blob text ∷ cast_integer (pos profile) i ∷ [] in
        port_change Current old new _ formed ran.1.1.mode
        (inserts_entry insert_current written old new (site Current old formed) (ran.0, ran.1.0)
        (lit Null ∷ col 0 0 ∷ lit (Int (pos 0)) ∷ col 0 1 ∷ col 0 2 ∷ []) 5 source
        (fresh_entry path (Some profile) text) insert_current_text refl refl cells (λ _. refl) free)

    abbrev renewed : Entry → Entry
    renewed e = fresh_entry e.path (Some profile) text

    -- the row that is found at the path has the path
    renewed_at : (other : List ℕ) (b : Bool) → bytes_eq path other ≡ b → (o : Option Entry) → rows other ≡ o
        → cond b (option_map renewed o) o ≡ cond b (option_map (λ _. fresh_entry path (Some profile) text) o) o
    renewed_at other false apart o is = refl
    renewed_at other true tie None is = refl
    renewed_at other true tie (Some e) is =
        ap (λ p. Some (fresh_entry p (Some profile) text)) (sym ((bytes_eq-Decides path other).0 tie
        ∙ (row_found (layout Current) (old.now.trees 2) other e is).3))

    pub replaces : (ran : RanInside update_current written old new)
        → Made Current old new (replaced_at path (Some profile) text rows) × (not (eqb ran.0 0) ≡ is_some (rows path))
    replaces ran =
        let same : changed_at path (option_map renewed) rows ≡ replaced_at path (Some profile) text rows =
        λ i other. renewed_at other (bytes_eq path other) refl (rows other) refl i in
        let h = updates_at update_current path (Blob text ∷ Int (pos profile) ∷ []) old new (site Current old formed) (ran.0, ran.1.0)
        (col 1 0 ∷ col 1 1 ∷ lit (Int (pos 0)) ∷ col 0 1 ∷ col 0 2 ∷ []) renewed (λ _. refl)
        (λ id e i. cast_integer id i ∷ Text e.path ∷ cast_integer (pos 0) i ∷ Blob text ∷ cast_integer (pos profile) i ∷ [])
        (λ _ _. refl) update_text in
        (subst (Made Current old new) same (port_change Current old new _ formed ran.1.1.mode h.0), h.1)
