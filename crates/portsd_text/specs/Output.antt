-- How much of some bytes is written.
use Rattle.std.specs.Prelude.{◌<◌, ℕ, List, length, take, Option, Result, OnOk, OnErr}
use Rattle.std.specs.Io.KnownBytes.{Appends}

-- a front of these bytes is written, and something is left of them
abbrev pub AppendsFront : Option (List ℕ) → Option (List ℕ) → List ℕ → Type 0
AppendsFront held holds bytes = (count : ℕ) × (count < length bytes) × Appends held holds (take count bytes)

-- these bytes are written, or a front of them
abbrev pub AppendsUpTo : Option (List ℕ) → Option (List ℕ) → List ℕ → Type 0
AppendsUpTo held holds bytes = (count : ℕ) × Appends held holds (take count bytes)

-- where a function succeeds, it wrote all of these bytes, by what is held before and after
abbrev pub WritesAll : {W R F : Type 0} → (W → Option (List ℕ)) → Result R F → W → W → List ℕ → Type 0
WritesAll contents result old new bytes = OnOk result (Appends (contents old) (contents new) bytes)

-- if a function fails, it wrote a front of these bytes, and not all
abbrev pub FailsAfterFront : {W R F : Type 0} → (W → Option (List ℕ)) → Result R F → W → W → List ℕ → Type 0
FailsAfterFront contents result old new bytes = OnErr result (AppendsFront (contents old) (contents new) bytes)
