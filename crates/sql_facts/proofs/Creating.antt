-- What the definition of a table makes.
use Rattle.std.proofs.Common.{◌≡◌, ℕ, false, cond, List, [], None, Ok, sym, ap, subst, ◌∙◌}
use Rattle.general_facts.specs.Options.{same_Ok}
use Rattle.sqlite_schema.specs.declared.schema.Schema.{Schema}
use Rattle.sqlite_schema.specs.declared.schema.Table.{Table}
use Rattle.sqlite_schema.specs.declared.command.Command.TheVariants.{CreateTable}
use Rattle.sqlite.specs.Change.{created, next_tree, KeepsRows}
use Rattle.sqlite.specs.Compile.{table_defined_by}
use Rattle.sqlite.specs.Does.{Tally, lacks_sequence}
use Rattle.sqlite.specs.Effect.{Database}
use Rattle.sqlite.specs.Listing.{understood}
use Rattle.sqlite.specs.State.{State, Writes, Executes}
use Rattle.sqlite.proofs.Callers.{IsPlain, command_of, statement_of, runs_as}
use Rattle.sql_facts.specs.States.{IsSettled}
use Rattle.sql_facts.proofs.Statements.{went_on}

-- a text defines this table
abbrev pub Defines : Schema → List ℕ → Table → Type 0
Defines schema sql table =
    (command_of (understood schema sql) ≡ CreateTable) × (statement_of sql (understood schema sql) ≡ sql)
    × (table_defined_by sql ≡ Ok table) × IsPlain (understood schema sql)

-- CREATE TABLE adds an empty table, and is committed
pub record Creates (old new : State) (schema : Schema) (table : Table) : Type 0 where
  pub schema_is : new.now.schema ≡ created schema table
  pub empty : new.now.trees (next_tree schema) ≡ []
  pub others : KeepsRows schema.tables old.now.trees new.now.trees
  pub settled : IsSettled new

pub creates : (sql : List ℕ) (old new : State) (schema : Schema) (table : Table) → old.now.schema ≡ schema → old.in_transaction ≡ false
    → Defines schema sql table → lacks_sequence (created schema table) ≡ false → (count : ℕ) → Executes sql [] old new (Ok count)
    → Creates old new schema table
creates sql old new schema table has auto text bare count h =
    let ran = runs_as sql [] old new schema has CreateTable text.0 text.3 count h in
    let w = subst (λ t. Writes old new None CreateTable t [] count) text.1 ran in
    let all = went_on w.changed in
    let first = went_on all.1 in
    let made = first.1 in
    let both : Ok made.table ≡ Ok table = sym made.defined ∙ text.2 in
    let same : made.table ≡ table = cc in
    let schema_is : first.0.schema ≡ created schema table = made.is ∙ ap (λ s. created s made.table) has ∙ ap (created schema) same in
    let plainly : lacks_sequence first.0.schema ≡ false = ap lacks_sequence schema_is ∙ bare in
    let now : new.now ≡ first.0 = ap (λ (p : Tally × Database). p.1) (same_Ok all.2) ∙ same_Ok (rw plainly at first.2) in
    let kept = subst (λ (s : Schema). KeepsRows s.tables old.now.trees first.0.trees) has made.others in
    record {
      schema_is = ap (λ (d : Database). d.schema) now ∙ schema_is;
      empty = ap (λ (d : Database). d.trees (next_tree schema)) now ∙ subst (λ s. first.0.trees (next_tree s) ≡ []) has made.empty;
      others = subst (λ (d : Database). KeepsRows schema.tables old.now.trees d.trees) (sym now) kept;
      settled = record { autocommit = w.shown.mode ∙ auto; committed = w.shown.committed_is ∙ ap (λ b. cond b old.committed new.now) auto };
    }
