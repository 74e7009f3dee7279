-- The tables of the store, and what their rows mean.
use Rattle.std.specs.Prelude.{◌≡◌, ℕ, ℤ, pos, ◌≤◌, codes, List, [], ◌∷◌}
use Rattle.std.specs.Prelude.{length, map, Option, None, Some, get_or, Result, OnOk, Vec, IfOk}
use Rattle.std.specs.Global.{Global}
use Rattle.std.specs.FinMap.{get}
use Rattle.sqlite_value.specs.declared.value.Value.TheVariants.{Int, Text, Blob}
use Rattle.sqlite_value.specs.Order.{Row, column}
use Rattle.sqlite_value.specs.Keys.{plain}
use Rattle.mk_text.specs.Profiles.{profile_number, numbered_profile}
use Rattle.mk_paths.specs.SearchPath.{trees_of, IsSearchPath}
use Rattle.mk_paths.specs.World.{World, with_file, files_in}
use Rattle.mk_paths.specs.declared.search_path.Settings.{Settings}
use Rattle.sqlite_trees.specs.Tree.{Trees}
use Rattle.sqlite_trees.specs.View.{IsShaped}
use Rattle.sqlite_trees.specs.declared.store.Shape.TheVariants as Shapes
use Rattle.sqlite_rules.specs.Lists.{Has}
use Rattle.sqlite.specs.Effect.{Database}
use Rattle.sqlite.specs.Held.{Held}
use Rattle.sqlite.specs.State.{State}
use Rattle.sqlite_trees.specs.declared.memory.MemStore.{MemStore}
use Rattle.sql_facts.specs.Tables.{filled, keyed, no_schema}
use Rattle.sql_facts.specs.Filled.{Layout, AreFilled, number_in, bytes_in}
use Rattle.sql_facts.specs.States.{IsSettled, state_of}
use Rattle.tenant_store.specs.Holdings.{File, Holdings, world_in}
use Rattle.sqlite_schema.specs.declared.schema.Table.{Table}
use Rattle.sqlite_schema.specs.declared.schema.Schema.{Schema}
use Rattle.sqlite_schema.specs.declared.schema.Kind.TheVariants as kind
use Rattle.sqlite.specs.Change.{created}

abbrev pub file_table : Table
file_table =
    keyed (codes "file") (filled (codes "name") kind.Text ∷ filled (codes "content") kind.Blob ∷ []) (1 ∷ []) plain

-- a table of one row, so without a key
abbrev pub settings_table : Table
settings_table =
    record (keyed (codes "settings")
    (filled (codes "path") kind.Text ∷ filled (codes "profile") kind.Integer ∷ []) [] plain) { uniques = []; orders = [] }

abbrev pub file_schema : Schema
file_schema = created no_schema file_table

-- both tables
abbrev pub store_schema : Schema
store_schema = created file_schema settings_table

-- ---- what the statements say

abbrev pub create_file : List ℕ
create_file = codes "CREATE TABLE file (name TEXT NOT NULL UNIQUE, content BLOB NOT NULL) STRICT"

abbrev pub create_settings : List ℕ
create_settings = codes "CREATE TABLE settings (path TEXT NOT NULL, profile INTEGER NOT NULL) STRICT"

abbrev pub insert_file : List ℕ
insert_file = codes "INSERT INTO file (name, content) VALUES (?1, ?2)"

abbrev pub update_file : List ℕ
update_file = codes "UPDATE file SET content = ?2 WHERE name = ?1"

abbrev pub delete_file : List ℕ
delete_file = codes "DELETE FROM file WHERE name = ?1"

abbrev pub select_content : List ℕ
select_content = codes "SELECT content FROM file WHERE name = ?1"

abbrev pub insert_settings : List ℕ
insert_settings = codes "INSERT INTO settings (path, profile) VALUES ('/ports:/mystuff', 1)"

abbrev pub update_settings : List ℕ
update_settings = codes "UPDATE settings SET path = ?1, profile = ?2"

abbrev pub select_settings : List ℕ
select_settings = codes "SELECT path, profile FROM settings"

-- ---- what the rows mean

-- the trees of the tables
abbrev pub files_at : ℕ
files_at = 0

abbrev pub settings_at : ℕ
settings_at = 2

-- a row of `file`: the columns after its rowid
abbrev pub file_of : Row → File
file_of row = record { name = bytes_in (column row 1); content = bytes_in (column row 2) }

-- a row of `settings`: the columns after its rowid
abbrev pub settings_of : Row → Settings
settings_of row = record { path = trees_of (bytes_in (column row 1)); profile = numbered_profile (number_in (column row 2)) }

-- the rows of `file`, and the row of `settings`
abbrev pub holdings_in : Trees → Holdings
holdings_in trees = record { files = map file_of (trees files_at); settings = settings_of (get_or (trees settings_at) 0 []) }

-- what a database in this state holds
abbrev pub held_in : State → Holdings
held_in s = holdings_in s.now.trees

-- what a connection's database holds
abbrev pub holdings_of : Held MemStore → Holdings
holdings_of connection = held_in (state_of connection)

-- the world that a database in this state holds
abbrev pub world_in_state : State → World
world_in_state s = world_in (held_in s)

-- the world that a connection's database holds
abbrev pub conn_world : Held MemStore → World
conn_world connection = world_in_state (state_of connection)

-- rows that show what was looked for: if there are no rows, it isn't there; otherwise it is what each of
-- them reads as
pub record Shows {X : Type 0} (IsShown : Row → X → Type 0) (rows : List Row) (sought : Option X) : Type 0 where
  pub none : rows ≡ [] → sought ≡ None
  pub some : (row : Row) (x : X) → Has rows row → IsShown row x → Some x ≡ sought

-- the row of one content
abbrev pub IsContent : Row → List ℕ → Type 0
IsContent row content = column row 0 ≡ Blob content

-- the row of the parts of settings
abbrev pub AreSettings : Row → Settings → Type 0
AreSettings row these =
    (text : List ℕ) × (number : ℕ) × (column row 0 ≡ Text text) × (column row 1 ≡ Int (pos number))
    × (these ≡ record { path = trees_of text; profile = numbered_profile number })

-- there is a row, and what each row reads as are these settings
pub record ShowSettings (rows : List Row) (settings : Settings) : Type 0 where
  pub there : 1 ≤ length rows
  pub each : (row : Row) (these : Settings) → Has rows row → AreSettings row these → these ≡ settings

-- the columns of `file`
abbrev pub file_layout : Layout File
file_layout = record { entry = file_of; key = λ f. f.name; rest = λ f. Blob f.content ∷ [] }

abbrev pub IsSettingsRow : Row → Type 0
IsSettingsRow row =
    (id : ℤ) × (text : List ℕ)
    × (row ≡ Int id ∷ Text text ∷ Int (pos (profile_number (settings_of row).profile)) ∷ [])

-- one row, which has the settings
pub record IsOneRow (rows : List Row) : Type 0 where
  pub rise : IsShaped Shapes.Table rows
  pub row : Row
  pub rows_are : rows ≡ row ∷ []
  pub formed : IsSettingsRow row

-- a database with the two tables, whose rows have their forms
pub record HasStoreTables (db : Database) : Type 0 where
  pub schema : db.schema ≡ store_schema
  pub files : AreFilled file_layout (db.trees files_at)
  pub settings : IsOneRow (db.trees settings_at)

-- a database with the two tables, without a row
pub record IsBare (db : Database) : Type 0 where
  pub schema : db.schema ≡ store_schema
  pub files : db.trees files_at ≡ []
  pub settings : db.trees settings_at ≡ []

-- what is so between the calls
pub record IsStoreAtRest (s : State) : Type 0 where
  pub settled : IsSettled s
  pub formed : HasStoreTables s.now
  pub path : IsSearchPath (held_in s).settings.path

-- between the calls, with this world
pub record HoldsWorld (s : State) (world : World) : Type 0 where
  pub kept : IsStoreAtRest s
  pub world_is : world_in_state s ≡ world

-- where a function succeeds, the database of this connection holds this world
abbrev pub LeavesWorld : {R F : Type 0} → Result R F → Held MemStore → World → Type 0
LeavesWorld result connection world = OnOk result (conn_world connection ≡ world)

-- where a function succeeds, the database holds this file too, in place of one of the same name
abbrev pub StoresFile : {R F : Type 0} → Result R F → Held MemStore → Held MemStore → List ℕ → List ℕ → Type 0
StoresFile result old new name content = OnOk result (conn_world new ≡ with_file (conn_world old) name content)

-- where a function succeeds, its rows show the content of this file, or that there is no such file
abbrev pub ShowsContent : {F : Type 0} → Result (Vec Row Global) F → World → List ℕ → Type 0
ShowsContent result world name = IfOk result (λ rows. Shows IsContent rows.items (get (files_in world) name))
