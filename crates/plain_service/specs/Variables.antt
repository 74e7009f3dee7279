-- A variable of a port that is asked for.
use Rattle.std.specs.Prelude.{ℕ, List}
use Rattle.pkg_path.specs.Paths.{PathValue}

-- the path of the port, and the variable's name
pub record VariableValue : Type 0 where
  pub path : PathValue
  pub name : List ℕ
