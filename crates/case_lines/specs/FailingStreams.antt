-- What streams give and report that fail after so many calls.
use Rattle.std.specs.Prelude.{ℕ, zero, suc, min}
use Rattle.std.specs.declared.io.ErrorKind.{ErrorKind}
use Rattle.std.specs.declared.io.ErrorKind.TheVariants.{BrokenPipe, OutOfMemory}

-- how many bytes one read gives of so many that are left, into so much room: at most five
abbrev pub given_at_once : ℕ → ℕ → ℕ
given_at_once left room = min (min left room) 5

-- why a write failed with so many writes left: with none left the output is broken, else memory ran out
abbrev pub write_fault : ℕ → ErrorKind
write_fault zero = BrokenPipe
write_fault (suc left) = OutOfMemory
