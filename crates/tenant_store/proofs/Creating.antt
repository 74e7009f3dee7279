-- What the tables' definitions make, and the first row.
use Rattle.std.proofs.Common.{◌≡◌, ◌++◌, pos, List, [], ◌∷◌, map, get_or, refl, sym, subst, ◌∙◌, codes}
use Rattle.sqlite_value.specs.declared.value.Value.TheVariants.{Null, Int, Text}
use Rattle.sqlite_value.specs.Order.{Row}
use Rattle.sqlite_rules.specs.Cast.{cast_row}
use Rattle.sqlite_rules.specs.Edit.{next_rowid}
use Rattle.sqlite.specs.State.{State}
use Rattle.mk_paths.specs.World.{opening_world}
use Rattle.sqlite_trees.specs.View.{IsShaped}
use Rattle.sqlite_trees.specs.declared.store.Shape.TheVariants as Shapes
use Rattle.sql_facts.specs.States.{IsSettled, Ran}
use Rattle.sql_facts.proofs.Keyed.{none_filled, cast_null, cast_integer, pushed_rise}
use Rattle.sql_facts.proofs.Statements.{inserts}
use Rattle.tenant_store.specs.Tables.{IsBare, IsOneRow, HoldsWorld, file_layout, file_of, settings_of, insert_settings, store_schema}
use Rattle.tenant_store.proofs.Fixed.{first_settings, insert_settings_text, placed_settings_table, settings_place}
use Rattle.tenant_store.proofs.Keeping.{holds}
use Rattle.tenant_store.proofs.Worlds.{no_files}

pub inserts_settings : (old new : State) → IsSettled old → IsBare old.now → Ran insert_settings [] old new → HoldsWorld new opening_world
inserts_settings old new at bare ran =
    let cells = Text (codes "/ports:/mystuff") ∷ Int (pos 1) ∷ [] in
    let rows = old.now.trees 2 in
    let rise = subst (IsShaped Shapes.Table) (sym bare.settings) (tt, tt) in
    let cast_is : cast_row placed_settings_table (Null ∷ cells) ≡ Null ∷ cells =
    λ i. cast_null i ∷ Text (codes "/ports:/mystuff") ∷ cast_integer (pos 1) i ∷ [] in
    let changes = inserts insert_settings [] old new store_schema 1 placed_settings_table bare.schema settings_place ran.0 ran.1
    first_settings 3 (Null ∷ cells) cells insert_settings_text refl refl cast_is rise in
    let row = Int (next_rowid rows) ∷ cells in
    let all : new.now.trees 2 ≡ row ∷ [] = changes.rows_are ∙ (λ i. bare.settings i ++ row ∷ []) in
    let files : new.now.trees 0 ≡ [] = changes.others.0 (λ e. absurd cc) ∙ bare.files in
    let shaped = subst (λ (l : List Row). IsShaped Shapes.Table (l ++ row ∷ [])) bare.settings (pushed_rise rows cells rise) in
    holds new (record { files = []; settings = settings_of row }) opening_world (changes.settles at)
    (record {
      schema = changes.schema_is;
      files = none_filled file_layout (new.now.trees 0) files;
      settings = subst IsOneRow (sym all) (record {
        rise = shaped;
        row = row;
        rows_are = refl;
        formed =
            (next_rowid rows, codes "/ports:/mystuff", refl);
      });
    })
    (λ i. record { files = map file_of (files i); settings = settings_of (get_or (all i) 0 []) }) refl (λ i. (no_files i, opening_world.1))
