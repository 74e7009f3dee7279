-- What is noted in memory of the files.
use Rattle.std.specs.Prelude.{◌≡◌, ℕ, List, length, Option, option_map, String, Result, Vec, IfOk, map, string_bytes}
use Rattle.std.specs.Global.{Global}
use Rattle.std.specs.BTreeMap.{BTreeMap, get_by_text}
use Rattle.std.specs.FinMap as finite
use Rattle.std.specs.Map.{update}
use Rattle.std.specs.Str.{bytes_eq}
use Rattle.mk_paths.specs.World.{FileMap}
use Rattle.mk_files.specs.Limits.{bytes_of}
use Rattle.mk_files.specs.declared.usage.Usage.{Usage}

-- from names to lengths
abbrev pub Lengths : Type 0
Lengths = BTreeMap (String Global) ℕ

-- of this name this length is noted, or none, and the other names are as they were
abbrev pub NotesLength : Lengths → Lengths → List ℕ → Option ℕ → Type 0
NotesLength old new name noted = (other : List ℕ) → get_by_text new other ≡ update bytes_eq (get_by_text old) name noted other

-- the length of the content of each file, how many files there are, and the sum of the lengths
pub record AreNoted (lengths : Lengths) (usage : Usage) (files : FileMap) : Type 0 where
  pub each : (name : List ℕ) → get_by_text lengths name ≡ option_map length (finite.get files name)
  pub count : usage.files ≡ finite.len files
  pub sum : usage.bytes ≡ bytes_of files

-- where a function succeeds, it lists the names of all files of which this is noted
abbrev pub ListsNotedFiles : {F : Type 0} → Result (Vec (String Global) Global) F → Lengths → Type 0
ListsNotedFiles result lengths =
    IfOk result (λ names. (usage : Usage) (files : FileMap)
    → AreNoted lengths usage files → map string_bytes names.items ≡ finite.keys files)
