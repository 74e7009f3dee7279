-- Tables as the stores define them.
use Rattle.std.specs.Prelude.{ℕ, true, false, List, [], ◌∷◌, None}
use Rattle.sqlite_value.specs.declared.value.Value.TheVariants.{Null}
use Rattle.sqlite_value.specs.declared.keys.Collation.TheVariants.{Binary}
use Rattle.sqlite_value.specs.declared.keys.Order.{Order}
use Rattle.sqlite_schema.specs.declared.schema.Table.{Table}
use Rattle.sqlite_schema.specs.declared.schema.Column.{Column}
use Rattle.sqlite_schema.specs.declared.schema.Schema.{Schema}
use Rattle.sqlite_schema.specs.declared.schema.Kind.{Kind}

-- a column that is never NULL, in a STRICT table
abbrev pub filled : List ℕ → Kind → Column
filled name kind = record { name = name; kind = kind; is_strict = true; not_null = true; default = Null; collation = Binary }

-- a table of these columns with one UNIQUE key
abbrev pub keyed : List ℕ → List Column → List ℕ → Order → Table
keyed name columns key order = record {
  name = name;
  tree = 0;
  columns = columns;
  key = None;
  primary = [];
  uniques = key ∷ [];
  orders = order ∷ [];
  checks = [];
  references = [];
  computed = [];
  stamps = record { places = []; terms = []; formats = [] };
  is_counted = false;
}

-- a schema with no table
abbrev pub no_schema : Schema
no_schema = record { tables = []; indexes = []; views = [] }
