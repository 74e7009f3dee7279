-- What a world of files in memory holds.
use Rattle.std.specs.Prelude.{◌≡◌, ℕ, List, map, None, refl, String, string_bytes, Result, Vec, IfOk}
use Rattle.std.specs.Coded.{Coded, code_by, coded×, coded_list, coded_ℕ}
use Rattle.std.specs.declared.alloc.Global.{Global}
use Rattle.std.specs.FinMap as finite
use Rattle.mk_paths.specs.declared.files.FilesFault.{FilesFault}
use Rattle.mk_paths.specs.declared.files.FilesFault.TheVariants.{Memory}
use Rattle.mk_paths.specs.World.{FileMap}
use Rattle.mk_paths.specs.FilesView.{FilesView}
use Rattle.refusals.specs.Refused.{refused}

-- the files, and how many readings failed
pub record Holding : Type 0 where
  pub files : FileMap
  pub failures : ℕ

-- a holding is stored as the pair of its parts
abbrev pub holding_code : Coded Holding
holding_code =
    code_by (FileMap × ℕ) (coded× (finite.code (coded_list coded_ℕ) (coded_list coded_ℕ)) coded_ℕ)
    (λ held. (held.files, held.failures)) (λ parts. record { files = parts.0; failures = parts.1 }) (λ _. refl)

-- no file, and no failure
abbrev pub empty_holding : Holding
empty_holding = record { files = finite.empty; failures = 0 }

-- the same with this content as the file of this name
abbrev pub with_file : Holding → List ℕ → List ℕ → Holding
with_file held name content = record held { files = finite.insert held.files name content }

-- the same without the file of this name
abbrev pub without_file : Holding → List ℕ → Holding
without_file held name = record held { files = finite.remove held.files name }

-- the view of files that it is: it keeps no log
abbrev pub view_of : Holding → FilesView
view_of held = record { files = held.files; log = None; failures = held.failures }

-- files in memory fail only if memory runs out: there is no store
abbrev pub IsMemory : FilesFault → Type 0
IsMemory fault = fault ≡ Memory refused

-- the map of these names and contents
abbrev pub files_of : List (String Global × List ℕ) → FileMap
files_of entries = finite.from_entries (map (λ entry. (string_bytes entry.0, entry.1)) entries)

-- where a function succeeds, it lists the names of these files
abbrev pub ListsNames : {F : Type 0} → Result (Vec (String Global) Global) F → FileMap → Type 0
ListsNames result files = IfOk result (λ names. map string_bytes names.items ≡ finite.keys files)
