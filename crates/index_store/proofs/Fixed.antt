-- What the fixed texts say, and where the tables are.
use Rattle.std.proofs.Common.{ℕ, pos, List, [], ◌∷◌, codes, refl, ◌∙◌}
use Rattle.std.specs.Prelude.{◌==◌}
use Rattle.sqlite_value.specs.declared.value.Value.TheVariants.{Null, Int}
use Rattle.sqlite_value.specs.declared.keys.Collation.TheVariants.{Binary}
use Rattle.sqlite_sql.specs.declared.ops.BinaryOp.TheVariants.{Compare}
use Rattle.sqlite_sql.specs.declared.ops.CompareOp.TheVariants.{Eq}
use Rattle.sqlite_sql.specs.Term.{Term, lit, col, op2}
use Rattle.sqlite_schema.specs.declared.command.Command.TheVariants.{Select, Insert, Update, Delete}
use Rattle.sqlite_schema.specs.declared.command.Source.TheVariants.{Values}
use Rattle.sqlite_schema.specs.declared.schema.Table.{Table}
use Rattle.sqlite_tied.specs.Compute.{everything}
use Rattle.sqlite.specs.Listing.{understood}
use Rattle.sqlite.specs.State.{State}
use Rattle.sql_facts.specs.Tables.{no_schema}
use Rattle.sql_facts.proofs.Creating.{Defines}
use Rattle.sql_facts.proofs.Keyed.{IsMapAt, Tests, of_key}
use Rattle.sql_facts.proofs.Statements.{IsTableAt, Says, Queries, those_of}
use Rattle.sql_facts.proofs.Tests.{same_number, alone}
use Rattle.index_store.specs.declared.statements.Part.{Part}
use Rattle.index_store.specs.declared.statements.Part.TheVariants.{Earlier, Current}
use Rattle.index_store.specs.PortTable.{IsFormed, earlier_schema, port_schema, earlier_table, current_table, tree_number, layout}
use Rattle.index_store.specs.PortTable.{leaving_mark}
use Rattle.index_store.specs.PortTable.{create_earlier, create_current, insert_earlier, insert_current, update_current}
use Rattle.index_store.specs.PortTable.{mark_row, mark_rows, delete_rows, select_rows}

-- ---- the tables

abbrev columns_of : Part → Table
columns_of Earlier = earlier_table
columns_of Current = current_table

-- a table as the schema has it
abbrev pub table_of : Part → Table
table_of part = record (columns_of part) { tree = tree_number part }

-- the place of a table among the tables
abbrev pub place_of : Part → ℕ
place_of Earlier = 0
place_of Current = 1

place : (part : Part) → IsTableAt port_schema (place_of part) (table_of part)
place Earlier = record { listed = refl; free = λ _ _. refl; whole = λ _. refl }
place Current = record { listed = refl; free = λ _ _. refl; whole = λ _. refl }

pub site : (part : Part) (s : State) → IsFormed s.now → IsMapAt (layout part) port_schema (place_of part) (table_of part) s
site part s formed = record { schema_is = formed.schema; place = place part; filled = formed.rows part }

-- the columns that a query shows
abbrev pub all_columns : List Term
all_columns = col 1 1 ∷ col 1 2 ∷ col 1 3 ∷ []

-- the columns that a row of this table has after its bytes
abbrev pub last_columns : Part → List Term
last_columns Earlier = []
last_columns Current = col 1 4 ∷ []

-- the rows that are taken out
abbrev pub of_leaving : List Term
of_leaving = op2 (Compare Eq Binary) (col 1 2) (lit (Int (pos 2))) ∷ []

pub passes_leaving : (part : Part) → Tests (layout part) [] of_leaving (λ e. e.mark == leaving_mark)
passes_leaving part id e = alone _ ∙ same_number e.mark 2

-- ---- the texts

pub create_earlier_text : Defines no_schema create_earlier earlier_table
unfolding understood everything
create_earlier_text = (refl, refl, refl, (refl, refl))

pub create_current_text : Defines earlier_schema create_current current_table
unfolding understood everything
create_current_text = (refl, refl, refl, (refl, refl))

pub rows_text : (part : Part) → Queries port_schema (select_rows part)
    (Select (those_of (table_of part) [] all_columns) (codes "path" ∷ codes "stale" ∷ codes "row" ∷ []))
unfolding understood everything
rows_text Earlier = ((refl, (refl, refl)), refl)
rows_text Current = ((refl, (refl, refl)), refl)

pub insert_earlier_text : Says port_schema insert_earlier (Insert 0 (Values (lit Null ∷ col 0 0 ∷ lit (Int (pos 0)) ∷ col 0 1 ∷ []) 4))
unfolding understood everything
insert_earlier_text = (refl, (refl, refl))

pub insert_current_text : Says port_schema insert_current (Insert 1 (Values
    (lit Null ∷ col 0 0 ∷ lit (Int (pos 0)) ∷ col 0 1 ∷ col 0 2 ∷ []) 5))
unfolding understood everything
insert_current_text = (refl, (refl, refl))

pub update_text : Says port_schema update_current (Update 1 (those_of (table_of Current) of_key
    (col 1 0 ∷ col 1 0 ∷ col 1 1 ∷ lit (Int (pos 0)) ∷ col 0 1 ∷ col 0 2 ∷ [])))
unfolding understood everything
update_text = (refl, (refl, refl))

pub mark_text : (part : Part) → Says port_schema (mark_row part) (Update (place_of part)
    (those_of (table_of part) of_key (col 1 0 ∷ col 1 0 ∷ col 1 1 ∷ col 0 1 ∷ col 1 3 ∷ last_columns part)))
unfolding understood everything
mark_text Earlier = (refl, (refl, refl))
mark_text Current = (refl, (refl, refl))

pub marks_text : (part : Part) → Says port_schema (mark_rows part) (Update (place_of part)
    (those_of (table_of part) [] (col 1 0 ∷ col 1 0 ∷ col 1 1 ∷ lit (Int (pos 1)) ∷ col 1 3 ∷ last_columns part)))
unfolding understood everything
marks_text Earlier = (refl, (refl, refl))
marks_text Current = (refl, (refl, refl))

pub delete_text : (part : Part) → Says port_schema (delete_rows part) (Delete (place_of part)
    (those_of (table_of part) of_leaving (col 1 0 ∷ [])))
unfolding understood everything
delete_text Earlier = (refl, (refl, refl))
delete_text Current = (refl, (refl, refl))
