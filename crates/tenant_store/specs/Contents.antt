-- The contents of files that are kept in memory.
use Rattle.std.specs.Prelude.{◌≡◌, ℕ, List, Some, String, string_bytes, Result, Option, IfOk, IfSome}
use Rattle.std.specs.Global.{Global}
use Rattle.std.specs.FinMap.{get}
use Rattle.std.specs.List.{Contains}
use Rattle.mk_paths.specs.World.{FileMap}

-- each content that is kept under a name is that of the file of this name
pub record AreContents (kept : List (String Global × List ℕ)) (files : FileMap) : Type 0 where
  pub each : (name : String Global) (content : List ℕ) → Contains kept (name, content) → get files (string_bytes name) ≡ Some content

-- where a function succeeds, a content that it found is that of this file
abbrev pub FindsContent : {F : Type 0} → Result (Option (List ℕ)) F → List (String Global × List ℕ) → List ℕ → Type 0
FindsContent result kept name =
    (files : FileMap) → AreContents kept files
    → IfOk result (λ found. IfSome found (λ content. get files name ≡ Some content))

-- what is kept now are contents of the files of which it was before
abbrev pub KeepsContents : List (String Global × List ℕ) → List (String Global × List ℕ) → Type 0
KeepsContents old new = (files : FileMap) → AreContents old files → AreContents new files

-- what is kept now are contents of the files of which it was before, if this file is among them
abbrev pub TakesContent : List (String Global × List ℕ) → List (String Global × List ℕ) → List ℕ → List ℕ → Type 0
TakesContent old new name content =
    (files : FileMap) → AreContents old files → get files name ≡ Some content → AreContents new files
