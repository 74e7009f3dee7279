-- What the functions of the store give, by the world that it holds.
use Rattle.std.specs.Prelude.{Result, Option, Vec, ℕ, List, IfOk, option_map, ◌≡◌, OnOk, false, Bool, String, map}
use Rattle.std.specs.Prelude.{string_bytes}
use Rattle.std.specs.Global.{Global}
use Rattle.std.specs.FinMap.{get, contains_key, keys}
use Rattle.mk_paths.specs.World.{World, files_in, with_file, FileMap}
use Rattle.mk_files.specs.Limits.{is_over}
use Rattle.mk_paths.specs.FilesView.{FilesView, Answers, Contents}

-- where a function succeeds, it gives the bytes of this file, or none if there is no such file
abbrev pub GivesFileBytes : {F : Type 0} → Result (Option (Vec ℕ Global)) F → World → List ℕ → Type 0
GivesFileBytes result world name =
    IfOk result (λ found. option_map (λ (bytes : Vec ℕ Global). bytes.items) found ≡ get (files_in world) name)

-- where a function succeeds, it gives the content of this file, or none if there is no such file
abbrev pub GivesContent : {F : Type 0} → Result (Option (List ℕ)) F → World → List ℕ → Type 0
GivesContent result world name = IfOk result (λ content. content ≡ get (files_in world) name)

-- where a function succeeds, the files with this one are within the limits
abbrev pub FitsWithFile : {R F : Type 0} → Result R F → World → List ℕ → List ℕ → Type 0
FitsWithFile result world name content = OnOk result (is_over (files_in (with_file world name content)) ≡ false)

-- where a function succeeds, it tells whether there is a file of this name
abbrev pub TellsWhetherThere : {F : Type 0} → Result Bool F → World → List ℕ → Type 0
TellsWhetherThere result world name = IfOk result (λ there. there ≡ contains_key (files_in world) name)

-- where a function succeeds, its content answers a question for this file
abbrev pub AnswersContent : {F : Type 0} → Result (Option (List ℕ)) F → FilesView → FilesView → List ℕ → Type 0
AnswersContent result old new name = IfOk result (λ content. Answers old new name (Contents content))

-- where a function succeeds, it lists the names of these files
abbrev pub ListsFiles : {F : Type 0} → Result (Vec (String Global) Global) F → FileMap → Type 0
ListsFiles result files = IfOk result (λ names. map string_bytes names.items ≡ keys files)
