-- The settings as the code keeps them: the path is one text.
use Rattle.std.specs.Prelude.{◌≡◌, string_bytes, Result, String, List, ℕ, IfOk, ◌++◌, map, OnOk}
use Rattle.std.specs.Global.{Global}
use Rattle.mk_paths.specs.SearchPath.{trees_of, IsSearchPath}
use Rattle.general_facts.specs.Ascii.{colon}
use Rattle.mk_paths.specs.World.{World, search_path_of, profile_of, files_in}
use Rattle.mk_paths.specs.declared.search_path.Settings.{Settings}
use Rattle.tenant_store.specs.declared.queries.SettingsRow.{SettingsRow}
use Rattle.text_parts.specs.Laws.{after_marks}
use Rattle.sqlite.specs.Held.{Held}
use Rattle.sqlite_trees.specs.declared.memory.MemStore.{MemStore}
use Rattle.tenant_store.specs.Tables.{conn_world}

-- the settings, with the trees that the path names
abbrev pub shown_settings : SettingsRow → Settings
shown_settings row = record { path = trees_of (string_bytes row.path); profile = row.profile }

-- these are the settings of the world
pub record AreSettingsOf (world : World) (row : SettingsRow) : Type 0 where
  pub path : trees_of (string_bytes row.path) ≡ search_path_of world
  pub is_path : IsSearchPath (search_path_of world)
  pub profile : row.profile ≡ profile_of world

-- where a function succeeds, it made the text of this tree and these ones, with a colon before each later one
abbrev pub JoinsTrees : {F : Type 0} → Result (String Global) F → List ℕ → List (String Global) → Type 0
JoinsTrees result first more =
    IfOk result (λ text. string_bytes text ≡ first ++ after_marks colon (map string_bytes more))

-- where a function succeeds, the database has the same files, and these settings
abbrev pub SetsSettings : {R F : Type 0} → Result R F → Held MemStore → Held MemStore → SettingsRow → Type 0
SetsSettings result old new settings = OnOk result (conn_world new ≡ (files_in (conn_world old), shown_settings settings))
