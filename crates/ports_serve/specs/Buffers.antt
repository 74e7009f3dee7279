-- The buffer for what is read.
use Rattle.std.specs.Prelude.{ℕ, ◌≤◌, Vec, vec_capacity}
use Rattle.std.specs.declared.alloc.Global.{Global}
use Rattle.ports_serve.specs.declared.rounds.TheConstants.{READ_SIZE}

-- the buffer has room for what is read at once
abbrev pub IsBuffer : Vec ℕ Global → Type 0
IsBuffer buffer = READ_SIZE ≤ vec_capacity buffer
