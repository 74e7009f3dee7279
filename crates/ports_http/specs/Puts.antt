-- Adding bytes at the end of a `Vec`.
use Rattle.std.specs.Prelude.{◌≡◌, ℕ, ◌+◌, ◌<◌, ◌≤◌, List, ◌++◌, length, Result, Ok, Err, Vec, vec_len, vec_capacity}

-- new is old with the bytes at its end, in no less room
pub record Appends {Z : Type 0} (old new : Vec ℕ Z) (bytes : List ℕ) : Type 0 where
  pub items : new.items ≡ old.items ++ bytes
  pub room : vec_capacity old ≤ vec_capacity new

-- the bytes were added, or else the room was too small for them
abbrev pub AppendsIfRoom : {Z A E : Type 0} → Vec ℕ Z → List ℕ → Result A E → Vec ℕ Z → Type 0
AppendsIfRoom old bytes (Ok done) new = Appends old new bytes
AppendsIfRoom old bytes (Err error) new = vec_capacity old < vec_len old + length bytes
