-- The two tables of the rows, and what their rows mean.
use Rattle.std.specs.Prelude.{◌≡◌, ℕ, pos, ◌==◌, ◌&&◌, ◌||◌, not, if◌then◌else◌, Bool, true, false, codes}
use Rattle.std.specs.Prelude.{List, [], ◌∷◌, ◌++◌, map, find, Option, None, Some, String, string_bytes, Vec, is_some, option_map}
use Rattle.std.specs.Prelude.{unwrap_or, refl}
use Rattle.std.specs.Option.{option_or}
use Rattle.std.proofs.lemmas.Map.Entries.{option_filter}
use Rattle.std.specs.BTreeSet.{BTreeSet, contains_text}
use Rattle.std.specs.Global.{Global}
use Rattle.std.specs.Str.{bytes_eq}
use Rattle.std.specs.Ordering.{int_eq}
use Rattle.std.specs.Coded.{Coded, code_by, coded×, coded_list, coded_option, coded_ℕ}
use Rattle.mk_text.specs.declared.profile.Profile.{Profile}
use Rattle.mk_text.specs.Profiles.{numbered_profile}
use Rattle.sqlite_value.specs.declared.value.Value.{Value}
use Rattle.sqlite_value.specs.declared.value.Value.TheVariants.{Int, Blob}
use Rattle.sqlite_value.specs.Order.{Row, column}
use Rattle.sqlite_value.specs.Keys.{plain}
use Rattle.sqlite_schema.specs.declared.schema.Table.{Table}
use Rattle.sqlite_schema.specs.declared.schema.Schema.{Schema}
use Rattle.sqlite_schema.specs.declared.schema.Kind.TheVariants as kind
use Rattle.sqlite_trees.specs.Tree.{Trees}
use Rattle.sqlite_trees.specs.declared.memory.MemStore.{MemStore}
use Rattle.sqlite.specs.Change.{created}
use Rattle.sqlite.specs.Effect.{Database}
use Rattle.sqlite.specs.Held.{Held}
use Rattle.sqlite.specs.State.{State}
use Rattle.sql_facts.specs.Tables.{filled, keyed, no_schema}
use Rattle.sql_facts.specs.Filled.{Layout, AreFilled, entries_of_rows, changed_at, number_in, bytes_in}
use Rattle.sql_facts.specs.States.{IsSettled, state_of}
use Rattle.index_store.specs.Entries.{StoredValue, SeenRow, Entries, Profiles, AreRowsOf, PutsRow, PutsProfile}
use Rattle.index_store.specs.Entries.{is_one_of, stored_seen}
use Rattle.index_store.specs.declared.path_rows.StoredRow.{StoredRow}
use Rattle.index_store.specs.declared.statements.Part.{Part}
use Rattle.index_store.specs.declared.statements.Part.TheVariants.{Earlier, Current}

-- a row of a table: its path, the number of its mark, its bytes, and the number of the profile with which it
-- was written, which a row of the release before lacks
pub record Entry : Type 0 where
  pub path : List ℕ
  pub mark : ℕ
  pub text : List ℕ
  pub profile : Option ℕ

abbrev entry_code : Coded Entry
entry_code =
    code_by (List ℕ × (ℕ × (List ℕ × Option ℕ)))
    (coded× (coded_list coded_ℕ) (coded× coded_ℕ (coded× (coded_list coded_ℕ) (coded_option coded_ℕ))))
    (λ e. (e.path, (e.mark, (e.text, e.profile))))
    (λ p. record { path = p.0; mark = p.1.0; text = p.1.1.0; profile = p.1.1.1 }) (λ _. refl)

-- the rows are stored as the list of them
abbrev pub entries_code : Coded (List Entry)
entries_code = coded_list entry_code

-- the marks: a row that isn't stale, a row that is, and, in a transaction alone, a row that is taken out
abbrev pub fresh_mark : ℕ
fresh_mark = 0

abbrev pub stale_mark : ℕ
stale_mark = 1

abbrev pub leaving_mark : ℕ
leaving_mark = 2

-- the table of the release before: the columns after the rowid, and the key, which is the path
abbrev pub earlier_table : Table
earlier_table =
    keyed (codes "port")
    (filled (codes "path") kind.Text ∷ filled (codes "stale") kind.Integer ∷ filled (codes "row") kind.Blob ∷ [])
    (1 ∷ []) plain

-- the table of the rows that are written from now on
abbrev pub current_table : Table
current_table =
    keyed (codes "port2")
    (filled (codes "path") kind.Text ∷ filled (codes "stale") kind.Integer ∷ filled (codes "row") kind.Blob
    ∷ filled (codes "profile") kind.Integer ∷ []) (1 ∷ []) plain

abbrev pub earlier_schema : Schema
earlier_schema = created no_schema earlier_table

-- both tables
abbrev pub port_schema : Schema
port_schema = created earlier_schema current_table

-- ---- what the statements say

abbrev pub create_earlier : List ℕ
create_earlier = codes "CREATE TABLE port (path TEXT NOT NULL UNIQUE, stale INTEGER NOT NULL, row BLOB NOT NULL) STRICT"

abbrev pub create_current : List ℕ
create_current =
    codes "CREATE TABLE port2 (path TEXT NOT NULL UNIQUE, stale INTEGER NOT NULL, row BLOB NOT NULL, profile INTEGER NOT NULL) STRICT"

abbrev pub insert_earlier : List ℕ
insert_earlier = codes "INSERT INTO port (path, stale, row) VALUES (?1, 0, ?2)"

abbrev pub insert_current : List ℕ
insert_current = codes "INSERT INTO port2 (path, stale, row, profile) VALUES (?1, 0, ?2, ?3)"

abbrev pub update_current : List ℕ
update_current = codes "UPDATE port2 SET stale = 0, row = ?2, profile = ?3 WHERE path = ?1"

abbrev pub mark_row : Part → List ℕ
mark_row Earlier = codes "UPDATE port SET stale = ?2 WHERE path = ?1"
mark_row Current = codes "UPDATE port2 SET stale = ?2 WHERE path = ?1"

abbrev pub mark_rows : Part → List ℕ
mark_rows Earlier = codes "UPDATE port SET stale = 1"
mark_rows Current = codes "UPDATE port2 SET stale = 1"

abbrev pub delete_rows : Part → List ℕ
delete_rows Earlier = codes "DELETE FROM port WHERE stale = 2"
delete_rows Current = codes "DELETE FROM port2 WHERE stale = 2"

abbrev pub select_rows : Part → List ℕ
select_rows Earlier = codes "SELECT path, stale, row FROM port"
select_rows Current = codes "SELECT path, stale, row FROM port2"

-- ---- what the rows mean

-- the tree of a table
abbrev pub tree_number : Part → ℕ
tree_number Earlier = 0
tree_number Current = 2

-- the number of the profile in a row
abbrev pub profile_cell : Part → Row → Option ℕ
profile_cell Earlier row = None
profile_cell Current row = Some (number_in (column row 4))

-- a row of a table: the columns after its rowid
abbrev pub entry_in : Part → Row → Entry
entry_in part row =
    record {
      path = bytes_in (column row 1);
      mark = number_in (column row 2);
      text = bytes_in (column row 3);
      profile = profile_cell part row;
    }

-- the columns of an entry that one table has and the other lacks
abbrev pub profile_cells : Part → Entry → Row
profile_cells Earlier e = []
profile_cells Current e = Int (pos (unwrap_or e.profile 0)) ∷ []

-- the columns of a table
abbrev pub layout : Part → Layout Entry
layout part =
    record {
      entry = entry_in part;
      key = λ e. e.path;
      rest = λ e. Int (pos e.mark) ∷ Blob e.text ∷ profile_cells part e;
    }

-- the rows of one table, or of both, by their paths
abbrev pub ByPath : Type 0
ByPath = List ℕ → Option Entry

-- the rows of each table
abbrev pub Rows : Type 0
Rows = Part → ByPath

abbrev pub rows_at : Trees → Rows
rows_at trees part = entries_of_rows (layout part) (trees (tree_number part))

-- no row in any table
abbrev pub no_rows : Rows
no_rows part path = None

-- the rows of both tables
abbrev pub all_of : Rows → ByPath
all_of rows path = option_or (rows Earlier path) (rows Current path)

-- the rows of each table of a connection's database
abbrev pub rows_of : Held MemStore → Rows
rows_of connection = rows_at (state_of connection).now.trees

-- the rows of both tables, as a list
abbrev pub entries_at : Trees → List Entry
entries_at trees = map (entry_in Earlier) (trees (tree_number Earlier)) ++ map (entry_in Current) (trees (tree_number Current))

-- the rows of a connection's database
abbrev pub entries_of : Held MemStore → List Entry
entries_of connection = entries_at (state_of connection).now.trees

-- what a row stores for its path
abbrev pub value_stored : Entry → StoredValue
value_stored e = record { stale = not (e.mark == fresh_mark); text = e.text }

-- a row is that of this path
abbrev pub is_row_at : List ℕ → Entry → Bool
is_row_at path e = bytes_eq path e.path

-- what rows store for each path
abbrev pub stored_by : List Entry → Entries
stored_by entries path = option_map value_stored (find (is_row_at path) entries)

-- what these rows store for each path
abbrev pub stored_of : ByPath → Entries
stored_of rows path = option_map value_stored (rows path)

-- what a connection's database stores for each path
abbrev pub stored_in : Held MemStore → Entries
stored_in connection = stored_by (entries_of connection)

-- these are the paths that have a row
abbrev pub AreNotedPaths : BTreeSet (String Global) → Entries → Type 0
AreNotedPaths paths entries = (path : List ℕ) → contains_text paths path ≡ is_some (entries path)

-- these texts, in any order, are the paths that are noted
abbrev pub ListsNoted : BTreeSet (String Global) → Vec (String Global) Global → Type 0
ListsNoted noted listed = (path : List ℕ) → is_one_of path (map string_bytes listed.items) ≡ contains_text noted path

-- one more path is noted
abbrev pub NotesPath : List ℕ → BTreeSet (String Global) → BTreeSet (String Global) → Type 0
NotesPath path old new = (other : List ℕ) → contains_text new other ≡ (bytes_eq path other || contains_text old other)

-- if a path is new, it is noted no more; each other is noted as it was
abbrev pub ForgetsIf : Bool → List ℕ → BTreeSet (String Global) → BTreeSet (String Global) → Type 0
ForgetsIf is_new path old new =
    (other : List ℕ) → contains_text new other ≡ (if is_new && bytes_eq path other then false else contains_text old other)

-- none of these paths is noted, and each other is noted as it was
abbrev pub ForgetsAll : List (String Global) → BTreeSet (String Global) → BTreeSet (String Global) → Type 0
ForgetsAll paths old new =
    (other : List ℕ) → contains_text new other
    ≡ (if is_one_of other (map string_bytes paths) then false else contains_text old other)

-- the profile with which a row was written
abbrev pub written_profile : Option Entry → Option Profile
written_profile None = None
written_profile (Some e) = option_map numbered_profile e.profile

-- the profile with which each path's row was written
abbrev pub profiles_by : List Entry → Profiles
profiles_by entries path = written_profile (find (is_row_at path) entries)

-- this path has this row now, which isn't stale, and each other path has what it had
abbrev pub StoresRow : List ℕ → List ℕ → List Entry → List Entry → Type 0
StoresRow path text old new = PutsRow path text (stored_by old) (stored_by new)

-- the row of this path has no profile, and each other row was written with the profile that it had
abbrev pub WritesUnprofiled : List ℕ → List Entry → List Entry → Type 0
WritesUnprofiled path old new = PutsProfile path None (profiles_by old) (profiles_by new)

-- whether a value of the column `stale` says so
abbrev pub is_set : Value → Bool
is_set (Int n) = not (int_eq n (pos 0))
is_set _ = false

-- what is shown of a row that is asked for
abbrev pub row_shown : Row → SeenRow
row_shown row = record { path = bytes_in (column row 0); stale = is_set (column row 1); text = bytes_in (column row 2) }

-- what is shown, in any order, is what is stored
abbrev pub AreShown : Entries → Vec Row Global → Type 0
AreShown entries rows = AreRowsOf entries (map row_shown rows.items)

-- what is shown of these rows is added to what was read of others
abbrev pub AddsShown : List Row → List StoredRow → List StoredRow → Type 0
AddsShown rows old new = map stored_seen new ≡ map stored_seen old ++ map row_shown rows

-- a database with the tables, whose rows have their form
pub record IsFormed (db : Database) : Type 0 where
  pub schema : db.schema ≡ port_schema
  pub rows : (part : Part) → AreFilled (layout part) (db.trees (tree_number part))

-- a row that isn't about to be taken out
abbrev pub is_staying : Entry → Bool
is_staying e = not (e.mark == leaving_mark)

-- no row is about to be taken out, and no path has a row in both tables
pub record AreSettled (rows : Rows) : Type 0 where
  pub staying : (part : Part) (path : List ℕ) → option_filter is_staying (rows part path) ≡ rows part path
  pub apart : (path : List ℕ) → is_some (rows Earlier path) ≡ true → rows Current path ≡ None

-- what holds between the calls
pub record IsTableAtRest (s : State) : Type 0 where
  pub settled : IsSettled s
  pub formed : IsFormed s.now
  pub rows : AreSettled (rows_at s.now.trees)

-- where the release before may have no row, it has none
abbrev pub AllowsFor : Bool → Rows → Type 0
AllowsFor has_earlier rows = has_earlier ≡ false → rows Earlier ≡ no_rows Earlier

-- what holds between the calls, where the release before may have a row or may not
pub record IsKeptWith (has_earlier : Bool) (s : State) : Type 0 where
  pub kept : IsTableAtRest s
  pub earlier : AllowsFor has_earlier (rows_at s.now.trees)

-- between the calls, with these rows
pub record Holds (s : State) (rows : Rows) : Type 0 where
  pub kept : IsTableAtRest s
  pub are : rows_at s.now.trees ≡ rows

-- in a transaction, with these rows
pub record HoldsInside (s : State) (rows : Rows) : Type 0 where
  pub inside : s.in_transaction ≡ true
  pub formed : IsFormed s.now
  pub are : rows_at s.now.trees ≡ rows

-- ---- what the statements make of the rows

-- the rows, with these in one table
abbrev pub with_rows : Part → ByPath → Rows → Rows
with_rows Earlier these rows Earlier = these
with_rows Earlier these rows Current = rows Current
with_rows Current these rows Earlier = rows Earlier
with_rows Current these rows Current = these

-- an entry with this mark
abbrev pub with_mark : ℕ → Entry → Entry
with_mark mark e = record e { mark = mark }

-- an entry that isn't stale
abbrev pub fresh_entry : List ℕ → Option ℕ → List ℕ → Entry
fresh_entry path profile text = record { path = path; mark = fresh_mark; text = text; profile = profile }

-- the rows, with these bytes and this profile at this path, if it has a row
abbrev pub replaced_at : List ℕ → Option ℕ → List ℕ → ByPath → ByPath
replaced_at path profile text = changed_at path (option_map (λ _. fresh_entry path profile text))

-- the rows with this one, whether or not its path has one
abbrev pub with_row : List ℕ → Option ℕ → List ℕ → ByPath → ByPath
with_row path profile text = changed_at path (λ _. Some (fresh_entry path profile text))

-- the rows, with this mark at this path
abbrev pub marked_at : ℕ → List ℕ → ByPath → ByPath
marked_at mark path = changed_at path (option_map (with_mark mark))

-- the rows, with this mark at these paths
abbrev pub marked_among : ℕ → List (List ℕ) → ByPath → ByPath
marked_among mark paths rows path = if is_one_of path paths then option_map (with_mark mark) (rows path) else rows path

-- the rows, each with the mark of a stale one
abbrev pub all_marked : ByPath → ByPath
all_marked rows path = option_map (with_mark stale_mark) (rows path)

-- the rows that stay
abbrev pub staying_of : ByPath → ByPath
staying_of rows path = option_filter is_staying (rows path)

-- the rows without that of this path
abbrev pub without : List ℕ → ByPath → ByPath
without path rows = staying_of (marked_at leaving_mark path rows)
