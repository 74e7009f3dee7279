-- Why the database refuses a statement.
use Rattle.std.specs.Prelude.{◌≡◌}
use Rattle.sqlite.specs.declared.error.Error.{Error}
use Rattle.sqlite.specs.declared.error.Error.TheVariants.{SqliteFailure}
use Rattle.sqlite.specs.declared.error.ErrorCode.TheVariants.{OutOfMemory}

-- memory ran out
abbrev pub IsForMemory : Error → Type 0
IsForMemory error = error ≡ SqliteFailure OutOfMemory
