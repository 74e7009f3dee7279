-- The listed paths, and the index, with the work that they take.
use Rattle.std.specs.Prelude.{◌≡◌, map, string_bytes, Result, IfOk, OnOk}
use Rattle.mk_paths.specs.FilesView.{FilesView, view_world}
use Rattle.mk_paths.specs.World.{FileMap, World}
use Rattle.mk_paths.specs.declared.search_path.Settings.{Settings}
use Rattle.port_index.specs.Efforts.{lacking}
use Rattle.port_index.specs.FilledRows.{Fills}
use Rattle.port_index.specs.Index as indexed
use Rattle.port_index.specs.Known.{IsIndexOf}
use Rattle.port_index.specs.TreePaths as tree_paths
use Rattle.port_index.specs.Seen.{entries_in}
use Rattle.port_index.specs.declared.memory_rows.MemoryRows.{MemoryRows}
use Rattle.plain_reference.specs.Work.{effort_over}
use Rattle.plain_reference.specs.declared.index.Index.{Index}
use Rattle.plain_reference.specs.declared.index.Listed.{Listed}

-- where a function succeeds, it gives the index of a world
abbrev pub GivesIndex : {E : Type 0} → Result Index E → World → Type 0
GivesIndex result world = IfOk result (λ index. IsIndexOf world index.known)

-- where a function succeeds, it tells the work for all paths on which the index of a world depends
abbrev pub TellsWorkOfIndex : {E : Type 0} → Result Index E → World → Type 0
TellsWorkOfIndex result world = IfOk result (λ index. index.effort ≡ effort_over world (indexed.needed_paths world))

-- where a function succeeds, each listed path has its row now, and each other path has what it had
abbrev pub FillsPaths : {A E : Type 0} → Result A E → World → (old new : MemoryRows) → Type 0
FillsPaths result world old new = OnOk result (Fills world (indexed.listed_paths world) (entries_in old) (entries_in new))

-- where a function succeeds, it tells the work for those of the listed paths that had no row
abbrev pub TellsListWork : {E : Type 0} → Result Listed E → World → MemoryRows → Type 0
TellsListWork result world rows =
    IfOk result (λ listed. listed.effort ≡ effort_over world (lacking (entries_in rows) (indexed.listed_paths world)))

-- where a function succeeds, it gives the directories of these files
abbrev pub ListsDirectories : {E : Type 0} → Result Listed E → FileMap → Type 0
ListsDirectories result files = IfOk result (λ listed. map string_bytes listed.directories.items ≡ tree_paths.directories files)

-- where a function succeeds, it gives the listed paths of a world
abbrev pub ListsAllPaths : {E : Type 0} → Result Listed E → World → Type 0
ListsAllPaths result world = IfOk result (λ listed. map string_bytes listed.paths.items ≡ indexed.listed_paths world)
