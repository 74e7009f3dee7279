-- What the code's readers and writers do, by what bytes begin with.
use Rattle.std.specs.Prelude.{◌≡◌, ℕ, List, ◌++◌, Option, Some, None, Result, Ok, Err}
use Rattle.index_row.specs.Reads.{Read}
use Rattle.index_row.specs.declared.unread.Unread.{Unread}
use Rattle.index_row.specs.declared.unread.Unread.TheVariants as unread

-- Nothing is there. If memory ran out, nothing is said.
abbrev pub FindsNothing : {Y : Type 0} → Unread → Option Y → Type 0
FindsNothing unread.Damaged found = found ≡ None
FindsNothing (unread.Memory _) found = Unit {0}

-- What a function answered, seen by `view`, is what is there.
abbrev pub Gives : {X Y : Type 0} → (X → Y) → Result X Unread → Option Y → Type 0
Gives view (Ok x) found = found ≡ Some (view x)
Gives view (Err stop) found = FindsNothing stop found

-- Bytes were added as which this value is read, whatever follows them.
pub record Adds {A : Type 0} (read : Read A) (old new : List ℕ) (value : A) : Type 0 where
  pub added : List ℕ
  pub are_added : new ≡ old ++ added
  pub are_read : (rest : List ℕ) → read (added ++ rest) ≡ Some (value, rest)
