-- What the fixed texts of the store say, and where its tables are.
use Rattle.std.proofs.Common.{pos, List, [], ◌∷◌, codes, refl}
use Rattle.sqlite_value.specs.declared.value.Value.TheVariants.{Null, Int, Text}
use Rattle.sqlite_sql.specs.Term.{Term, lit, col}
use Rattle.sqlite_schema.specs.declared.schema.Table.{Table}
use Rattle.sqlite_schema.specs.declared.command.Command.TheVariants.{Select, Insert, Update, Delete}
use Rattle.sqlite_schema.specs.declared.command.Source.TheVariants.{Values}
use Rattle.sqlite_tied.specs.Compute.{everything}
use Rattle.sqlite.specs.Listing.{understood}
use Rattle.sqlite.specs.State.{State}
use Rattle.sql_facts.specs.Tables.{no_schema}
use Rattle.sql_facts.proofs.Creating.{Defines}
use Rattle.sql_facts.proofs.Keyed.{IsMapAt, of_key}
use Rattle.sql_facts.proofs.Statements.{IsTableAt, Says, Queries, those_of}
use Rattle.tenant_store.specs.Tables.{HasStoreTables, file_layout, store_schema, file_schema, file_table, settings_table, create_file}
use Rattle.tenant_store.specs.Tables.{create_settings}
use Rattle.tenant_store.specs.Tables.{insert_file, update_file, delete_file, select_content, insert_settings, update_settings}
use Rattle.tenant_store.specs.Tables.{select_settings}

-- the table of the settings as the schema has it
abbrev pub placed_settings_table : Table
placed_settings_table = record settings_table { tree = 2 }

pub files_site : (s : State) → HasStoreTables s.now → IsMapAt file_layout store_schema 0 file_table s
files_site s formed =
    record { schema_is = formed.schema; place = record { listed = refl; free = λ _ _. refl; whole = λ _. refl }; filled = formed.files }

pub settings_place : IsTableAt store_schema 1 placed_settings_table
settings_place = record { listed = refl; free = λ _ _. refl; whole = λ _. refl }

-- the columns that a query of the settings shows, and those that their update gives
abbrev pub settings_columns : List Term
settings_columns = col 1 1 ∷ col 1 2 ∷ []

abbrev pub given_columns : List Term
given_columns = col 1 0 ∷ col 0 0 ∷ col 0 1 ∷ []

abbrev pub first_settings : List Term
first_settings = lit Null ∷ lit (Text (codes "/ports:/mystuff")) ∷ lit (Int (pos 1)) ∷ []

pub content_text : Queries store_schema select_content (Select (those_of file_table of_key (col 1 2 ∷ [])) (codes "content" ∷ []))
unfolding understood everything
content_text = ((refl, (refl, refl)), refl)

pub settings_text : Queries store_schema select_settings (Select (those_of placed_settings_table [] settings_columns)
    (codes "path" ∷ codes "profile" ∷ []))
unfolding understood everything
settings_text = ((refl, (refl, refl)), refl)

pub insert_file_text : Says store_schema insert_file (Insert 0 (Values (lit Null ∷ col 0 0 ∷ col 0 1 ∷ []) 3))
unfolding understood everything
insert_file_text = (refl, (refl, refl))

pub update_file_text : Says store_schema update_file (Update 0 (those_of file_table of_key (col 1 0 ∷ col 1 0 ∷ col 1 1 ∷ col 0 1 ∷ [])))
unfolding understood everything
update_file_text = (refl, (refl, refl))

pub delete_file_text : Says store_schema delete_file (Delete 0 (those_of file_table of_key (col 1 0 ∷ [])))
unfolding understood everything
delete_file_text = (refl, (refl, refl))

pub insert_settings_text : Says store_schema insert_settings (Insert 1 (Values first_settings 3))
unfolding understood everything
insert_settings_text = (refl, (refl, refl))

pub update_settings_text : Says store_schema update_settings (Update 1 (those_of placed_settings_table [] (col 1 0 ∷ given_columns)))
unfolding understood everything
update_settings_text = (refl, (refl, refl))

pub create_file_text : Defines no_schema create_file file_table
unfolding understood everything
create_file_text = (refl, refl, refl, (refl, refl))

pub create_settings_text : Defines file_schema create_settings settings_table
unfolding understood everything
create_settings_text = (refl, refl, refl, (refl, refl))
