-- What the queries of the store find.
use Rattle.std.proofs.Common.{◌≡◌, ◌≤◌, inl, inr, ℕ, List, [], ◌∷◌, map, length, get_or, Option, None, Some, refl, sym, ap, subst}
use Rattle.std.proofs.Common.{◌∙◌, codes, IsTrue, Result, IfOk, IfErr, arith}
use Rattle.std.specs.Prelude.{Vec}
use Rattle.std.specs.declared.alloc.Global.{Global}
use Rattle.std.specs.FinMap as finite
use Rattle.std.proofs.lemmas.Slice.Eq.{bytes_eq-Decides}
use Rattle.sqlite_value.specs.declared.value.Value.TheVariants.{Text}
use Rattle.sqlite_value.specs.Order.{Row, column}
use Rattle.sqlite_sql.specs.Term.{col}
use Rattle.sqlite_rules.specs.Lists.{Has}
use Rattle.sqlite.specs.declared.error.Error.{Error}
use Rattle.sqlite.specs.State.{State, Shown, FailsToQuery}
use Rattle.mk_text.specs.Profiles.{numbered_profile}
use Rattle.mk_paths.specs.SearchPath.{trees_of}
use Rattle.sql_facts.specs.Filled.{bytes_in, number_in, has_key, entry_row, entries_of_rows}
use Rattle.sql_facts.specs.States.{IsSettled, Stays}
use Rattle.sql_facts.proofs.Ending.{if_ok_then}
use Rattle.sql_facts.proofs.Keyed.{ShowsEntries, row_found, of_key, passes_key, selects}
use Rattle.sql_facts.proofs.Statements.{AreSeen, seen as columns, query_ends}
use Rattle.tenant_store.specs.Holdings.{File, map_of}
use Rattle.tenant_store.specs.Tables.{IsOneRow, HasStoreTables, file_layout, file_of, settings_of, held_in, store_schema}
use Rattle.tenant_store.specs.Tables.{select_content, select_settings}
use Rattle.tenant_store.specs.Tables.{Shows, ShowSettings, IsContent}
use Rattle.tenant_store.proofs.Fixed.{placed_settings_table, files_site, settings_place, settings_columns, content_text, settings_text}
use Rattle.tenant_store.proofs.Remapping.{content, get-map_of}

-- the file of this name is what is shown, if it is there
module _ (name : List ℕ) (rows given : List Row)
    (h : ShowsEntries file_layout (col 1 2 ∷ []) (Text name ∷ []) (has_key file_layout name) (entries_of_rows file_layout rows) given) where
  content_shows : Shows IsContent given (finite.get (map_of (map file_of rows)) name)
  content_shows = record {
    none = λ empty. get-map_of name (map file_of rows) ∙ go empty (entries_of_rows file_layout rows name) refl;
    some = λ x bytes k is.
        let r = h.sound x k in
        let same = (bytes_eq-Decides name r.1.name).0 r.3 in
        let here : r.1.content ≡ bytes = ap bytes_in (ap (λ y. column y 0) (sym r.4) ∙ is) in
        sym (get-map_of name (map file_of rows) ∙ ap (λ k. content (entries_of_rows file_layout rows k)) same
        ∙ ap content r.2 ∙ ap Some here);
  }
    where
      go : given ≡ [] → (o : Option File) → entries_of_rows file_layout rows name ≡ o → content o ≡ None
      go empty None is = refl
      go empty (Some f) is =
          let own = (bytes_eq-Decides name f.name).1 (row_found file_layout rows name f is).3 in
          let shown = h.complete name f is own in
          absurd (subst (λ l. Has l (columns (col 1 2 ∷ []) (Text name ∷ []) (entry_row file_layout shown.0 f))) empty shown.1)

-- a row of a table of one row is that one
pub only : (rows : List Row) (one : IsOneRow rows) (r : Row) → Has rows r → r ≡ one.row
only rows one r h = is (subst (λ l. Has l r) one.rows_are h)
  where
    is : Has (one.row ∷ []) r → r ≡ one.row
    is (inl same) = same
    is (inr none) = absurd none

-- it has the settings
module _ (rows : List Row) (one : IsOneRow rows) (given : List Row) (seen : AreSeen [] settings_columns [] rows given) where
  has_some : (given : List Row) (x : Row) → Has given x → 1 ≤ length given
  has_some [] x h = absurd h
  has_some (y ∷ given) x h = omega arith

  shows_settings : ShowSettings given (settings_of (get_or rows 0 []))
  shows_settings = record {
    there = has_some given _ (seen.complete one.row (subst (λ l. Has l one.row) (sym one.rows_are) (inl refl)) refl);
    each = λ x these h is.
        let r = seen.sound x h in
        let here : r.0 ≡ get_or rows 0 [] = only rows one r.0 r.1 ∙ ap (λ l. get_or l 0 []) (sym one.rows_are) in
        let path : trees_of is.0 ≡ (settings_of r.0).path = ap (λ v. trees_of (bytes_in v)) (sym is.2 ∙ ap (λ y. column y 0) r.3) in
        let number : numbered_profile is.1 ≡ (settings_of r.0).profile =
        ap (λ v. numbered_profile (number_in v)) (sym is.3 ∙ ap (λ y. column y 1) r.3) in
        is.4 ∙ (λ i. record { path = path i; profile = number i }) ∙ ap settings_of here;
  }

pub first_has : (rows : List Row) (d : Row) → 1 ≤ length rows → Has rows (get_or rows 0 d)
first_has [] d some = absurd (omega arith)
first_has (row ∷ rows) d some = inl refl

-- ---- the queries

module _ (old new : State) (result : Result (Vec Row Global) Error) (formed : HasStoreTables old.now) (settled : IsSettled old)
    (live : IsTrue new.is_open) where
  pub content_ends : (name : List ℕ) → IfOk result (λ rows. Shown select_content (Text name ∷ []) old new rows.items)
      → IfErr result (FailsToQuery select_content (Text name ∷ []) old new)
      → IfOk result (λ rows. Shows IsContent rows.items (finite.get (map_of (held_in old).files) name)) × Stays old new
  content_ends name ok err =
      let ends = selects select_content (Text name ∷ []) old new (files_site old formed) of_key (col 1 2 ∷ []) (codes "content" ∷ [])
      (has_key file_layout name) (passes_key file_layout name []) content_text result settled live ok err in
      (if_ok_then result (λ given h. content_shows name (old.now.trees 0) given.items h) ends.0, ends.1)

  pub settings_ends : IfOk result (λ rows. Shown select_settings [] old new rows.items)
      → IfErr result (FailsToQuery select_settings [] old new)
      → IfOk result (λ rows. ShowSettings rows.items (held_in old).settings) × Stays old new
  settings_ends ok err =
      let ends = query_ends select_settings [] old new store_schema 1 placed_settings_table formed.schema settings_place
      [] settings_columns (codes "path" ∷ codes "profile" ∷ []) settings_text result settled live ok err in
      (if_ok_then result (λ given seen. shows_settings (old.now.trees 2) formed.settings given.items seen) ends.0, ends.1)
