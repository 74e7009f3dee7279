-- Paths that get their rows, and the work that it takes. Only functions that are private to the crate are told of by these
-- names.
use Rattle.std.specs.Prelude.{◌≡◌, ℕ, List, [], ◌∷◌, map, String, string_bytes, Result, IfOk, OnOk}
use Rattle.std.specs.Global.{Global}
use Rattle.mk_paths.specs.FilesView.{FilesView, view_world}
use Rattle.mk_paths.specs.declared.search_path.Settings.{Settings}
use Rattle.port_index.specs.Efforts.{lacking}
use Rattle.port_index.specs.FilledRows.{Fills}
use Rattle.port_index.specs.Seen.{entries_in}
use Rattle.port_index.specs.declared.memory_rows.MemoryRows.{MemoryRows}
use Rattle.plain_reference.specs.Work.{effort_over}
use Rattle.plain_reference.specs.declared.effort.Effort.{Effort}

-- where a function succeeds, each of these paths has its row now, and each other path has what it had
abbrev pub FillsAll : {A E : Type 0} → Result A E → FilesView → Settings → (old new : MemoryRows) → List (String Global) → Type 0
FillsAll result files settings old new paths =
    OnOk result (Fills (view_world files settings) (map string_bytes paths) (entries_in old) (entries_in new))

-- where a function succeeds, it tells the work for those of these paths that had no row
abbrev pub TellsWorkOfAll : {E : Type 0} → Result Effort E → FilesView → Settings → MemoryRows → List (String Global) → Type 0
TellsWorkOfAll result files settings rows paths =
    IfOk result (λ effort. effort
    ≡ effort_over (view_world files settings) (lacking (entries_in rows) (map string_bytes paths)))

-- where a function succeeds, a path has its row now, and each other path has what it had
abbrev pub FillsOne : {A E : Type 0} → Result A E → FilesView → Settings → (old new : MemoryRows) → List ℕ → Type 0
FillsOne result files settings old new path =
    OnOk result (Fills (view_world files settings) (path ∷ []) (entries_in old) (entries_in new))

-- where a function succeeds, it tells the work for a path, if that had no row
abbrev pub TellsWorkOfOne : {E : Type 0} → Result Effort E → FilesView → Settings → MemoryRows → List ℕ → Type 0
TellsWorkOfOne result files settings rows path =
    IfOk result (λ effort. effort ≡ effort_over (view_world files settings) (lacking (entries_in rows) (path ∷ [])))
