-- What the writes of the store make of its rows, and of what they mean.
use Rattle.std.proofs.Common.{◌≡◌, ℕ, pos, List, [], ◌∷◌, map, get_or, Option, None, Some, is_some, IsTrue, refl, sym, ap}
use Rattle.std.proofs.Common.{subst, ◌∙◌}
use Rattle.std.specs.Prelude.{option_map}
use Rattle.std.specs.FinMap as finite
use Rattle.mk_text.specs.declared.profile.Profile.{Profile}
use Rattle.mk_text.specs.Profiles.{profile_number, profile-numbered}
use Rattle.mk_paths.specs.SearchPath.{trees_of, IsSearchPath}
use Rattle.mk_paths.specs.World.{FileMap, files_in, with_file, without_file}
use Rattle.mk_paths.specs.declared.search_path.Settings.{Settings}
use Rattle.sqlite_value.specs.declared.value.Value.TheVariants.{Null, Int, Text, Blob}
use Rattle.sqlite_value.specs.Order.{Row, column}
use Rattle.sqlite_sql.specs.Term.{lit, col}
use Rattle.sqlite_schema.specs.declared.schema.Kind.TheVariants as kind
use Rattle.sqlite_trees.specs.Tree.{rowid}
use Rattle.sqlite_rules.specs.Cast.{cast, cast_row}
use Rattle.sqlite.specs.State.{State}
use Rattle.sql_facts.specs.Filled.{AreFilled, EntriesByKey, entries_of_rows}
use Rattle.sql_facts.specs.States.{Ran}
use Rattle.sql_facts.proofs.Keyed.{IsMapAt, Makes, cast_null, cast_integer, inserts_entry, updates_at, deletes_at}
use Rattle.sql_facts.proofs.Rows.{mapped_rise}
use Rattle.sql_facts.proofs.Statements.{updates}
use Rattle.tenant_store.specs.Holdings.{File, map_of}
use Rattle.tenant_store.specs.Tables.{IsSettingsRow, IsOneRow, HoldsWorld, IsStoreAtRest, file_layout, file_of, settings_of, file_table}
use Rattle.tenant_store.specs.Tables.{store_schema}
use Rattle.tenant_store.specs.Tables.{world_in_state}
use Rattle.tenant_store.specs.Tables.{insert_file, update_file, delete_file, update_settings}
use Rattle.tenant_store.proofs.Fixed.{placed_settings_table, files_site, settings_place, given_columns}
use Rattle.tenant_store.proofs.Fixed.{insert_file_text, update_file_text, delete_file_text, update_settings_text}
use Rattle.tenant_store.proofs.Answering.{only}
use Rattle.tenant_store.proofs.Keeping.{holds}
use Rattle.tenant_store.proofs.Remapping.{content, get-map_of, inserted, removed}

module _ (name : List ℕ) (old new : State) (kept : IsStoreAtRest old) where
  abbrev was : EntriesByKey File
  was = entries_of_rows file_layout (old.now.trees 0)

  site : IsMapAt file_layout store_schema 0 file_table old
  site = files_site old kept.formed

  -- `file` has other entries, and the settings are as they were
  files_hold : (files : FileMap) (next : EntriesByKey File) → Makes file_layout store_schema old new 0 next
      → map_of (map file_of (new.now.trees 0)) ≡ files
      → HoldsWorld new (files, (world_in_state old).1)
  files_hold files next h own =
      let settings : new.now.trees 2 ≡ old.now.trees 2 = h.others.1.0 (λ e. absurd cc) in
      holds new (record { files = map file_of (new.now.trees 0); settings = (world_in_state old).1 }) (files, (world_in_state old).1)
      (h.settles kept.settled)
      (record { schema = h.schema_is; files = h.filled; settings = subst IsOneRow (sym settings) kept.formed.settings })
      (λ i. record { files = map file_of (new.now.trees 0); settings = settings_of (get_or (settings i) 0 []) }) kept.path
      (λ i. (own i, (world_in_state old).1))

  pub inserts_file : (c : List ℕ) → finite.get (files_in (world_in_state old)) name ≡ None
      → Ran insert_file (Text name ∷ Blob c ∷ []) old new
      → HoldsWorld new (with_file (world_in_state old) name c)
  inserts_file c free ran =
      let params = Text name ∷ Blob c ∷ [] in
      let f : File = record { name = name; content = c } in
      let cells : cast_row file_table (Null ∷ params) ≡ Null ∷ params = λ i. cast_null i ∷ params in
      let h = inserts_entry insert_file params old new site ran
      (lit Null ∷ col 0 0 ∷ col 0 1 ∷ []) 3 (Null ∷ params) f insert_file_text refl refl cells (λ _. refl)
      (none_from (was name) (sym (get-map_of name _) ∙ free)) in
      files_hold (finite.insert (files_in (world_in_state old)) name c) _ h (inserted name (λ _. Some f) (old.now.trees 0)
      (new.now.trees 0) h.are c refl)
    where
      none_from : (o : Option File) → content o ≡ None → o ≡ None
      none_from None none = refl
      none_from (Some f) none = absurd cc

  pub updates_file : (c : List ℕ) → IsTrue (finite.contains_key (files_in (world_in_state old)) name)
      → Ran update_file (Text name ∷ Blob c ∷ []) old new
      → HoldsWorld new (with_file (world_in_state old) name c)
  updates_file c there ran =
      let change : File → File = λ f. record f { content = c } in
      let put : Option File → Option File = option_map change in
      let h = (updates_at update_file name (Blob c ∷ []) old new site ran
      (col 1 0 ∷ col 1 1 ∷ col 0 1 ∷ []) change (λ _. refl) (λ id f i. cast_integer id i ∷ Text f.name ∷ Blob c ∷ [])
      (λ _ _. refl) update_file_text).0 in
      files_hold (finite.insert (files_in (world_in_state old)) name c) _ h
      (inserted name put (old.now.trees 0) (new.now.trees 0) h.are c (replaced (was name) (sym (ap is_some (get-map_of name _)) ∙ there)))
    where
      replaced : (o : Option File) → IsTrue (is_some (content o)) → content (option_map (λ (f : File). record f { content = c }) o) ≡ Some c
      replaced None there = absurd cc
      replaced (Some f) there = refl

  pub deletes_file : Ran delete_file (Text name ∷ []) old new → HoldsWorld new (without_file (world_in_state old) name)
  deletes_file ran =
      let h = deletes_at delete_file name [] old new site ran delete_file_text in
      files_hold (finite.remove (files_in (world_in_state old)) name) _ h (removed name (λ _. None) (old.now.trees 0)
      (new.now.trees 0) h.are refl)

-- ---- the settings

module _ (old new : State) (kept : IsStoreAtRest old) (path : List ℕ) (profile : Profile) (is_path : IsSearchPath (trees_of path)) where
  abbrev set : Settings
  set = record { path = trees_of path; profile = profile }

  pub updates_settings : Ran update_settings (Text path ∷ Int (pos (profile_number profile)) ∷ []) old new
      → HoldsWorld new (files_in (world_in_state old), set)
  updates_settings ran =
      let params = Text path ∷ Int (pos (profile_number profile)) ∷ [] in
      let rows = old.now.trees 2 in
      let one = kept.formed.settings in
      let f = λ (r : Row). rowid r ∷ params in
      let h = (updates update_settings params old new store_schema 1 placed_settings_table kept.formed.schema settings_place ran.0 ran.1
      [] given_columns f update_settings_text one.rise (λ r k. cells r (only rows one r k)) (λ r k. refl)).0 in
      let files : new.now.trees 0 ≡ old.now.trees 0 = h.others.0 (λ e. absurd cc) in
      let back = profile-numbered profile in
      let form : IsSettingsRow (f one.row) = (
        one.formed.0,
        path,
        ap (λ v. v ∷ params) (ap (λ y. column y 0) one.formed.2)
            ∙ ap (λ (p : Profile). Int one.formed.0 ∷ Text path ∷ Int (pos (profile_number p)) ∷ []) (sym back),
      ) in
      let is_one : IsOneRow (map f rows) =
      record { rise = mapped_rise f rows (λ r k. refl) one.rise; row = f one.row; rows_are = ap (map f) one.rows_are; formed = form } in
      let is : settings_of (get_or (map f rows) 0 []) ≡ set =
      ap (λ (l : List Row). settings_of (get_or (map f l) 0 [])) one.rows_are
      ∙ ap (λ (p : Profile). record { path = trees_of path; profile = p }) back in
      holds new (record { files = map file_of (old.now.trees 0); settings = set }) (files_in (world_in_state old), set)
      (h.settles kept.settled)
      (record {
        schema = h.schema_is;
        files = subst (AreFilled file_layout) (sym files) kept.formed.files;
        settings =
            subst IsOneRow (sym h.rows_are) is_one;
      })
      ((λ i. record { files = map file_of (files i); settings = settings_of (get_or (h.rows_are i) 0 []) })
      ∙ ap (λ (s : Settings). record { files = map file_of (old.now.trees 0); settings = s }) is) is_path refl
    where
      cells : (r : Row) → r ≡ kept.formed.settings.row
          → cast_row placed_settings_table (column r 0 ∷ Text path ∷ Int (pos (profile_number profile)) ∷ [])
          ≡ rowid r ∷ Text path ∷ Int (pos (profile_number profile)) ∷ []
      cells r same =
          let is = ap (λ y. column y 0) (same ∙ kept.formed.settings.formed.2) in
          let first : cast kind.Integer (column r 0) ≡ rowid r =
          ap (cast kind.Integer) is ∙ cast_integer kept.formed.settings.formed.0 ∙ sym is in
          λ i. first i ∷ Text path ∷ cast_integer (pos (profile_number profile)) i ∷ []
