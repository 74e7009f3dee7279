-- What a tenant may have.
use Rattle.std.specs.Option.{option_map_or}
use Rattle.std.specs.Prelude.{ℕ, ◌+◌, ◌-◌, ◌||◌, Bool, nat_lt, length, sum_by, Option, unwrap_or, IfNone, IsTrue}
use Rattle.std.specs.FinMap as finite
use Rattle.mk_paths.specs.World.{FileMap}
use Rattle.mk_files.specs.declared.usage.Usage.{Usage}

-- the bytes of all contents together
abbrev pub bytes_of : FileMap → ℕ
bytes_of files = sum_by length (finite.values files)

-- more files, or more bytes, than a tenant may have
abbrev pub exceeds_limits : ℕ → ℕ → Bool
exceeds_limits files bytes = nat_lt 2000 files || nat_lt 8388608 bytes

-- a tenant may not have these files: they are more than 2,000, or their contents more than 8,388,608 bytes
abbrev pub is_over : FileMap → Bool
is_over files = exceeds_limits (finite.len files) (bytes_of files)

-- how many files a tenant has that had this many, once one is stored in place of another or of none
abbrev pub files_with : ℕ → Option ℕ → ℕ
files_with files old = option_map_or (λ _. files) old (files + 1)

-- how many bytes its contents have then
abbrev pub bytes_with : ℕ → Option ℕ → ℕ → ℕ
bytes_with bytes old length = bytes - unwrap_or old 0 + length

-- if there is no usage, it would be over the limits with a file of this length in place of the old one
abbrev pub IsOverWith : {R : Type 0} → Option R → Usage → Option ℕ → ℕ → Type 0
IsOverWith result usage old length =
    IfNone result (IsTrue (exceeds_limits (files_with usage.files old) (bytes_with usage.bytes old length)))
