-- What the private functions do that end a refresh. Only their clauses use it.
use Rattle.std.specs.Prelude.{◌≡◌, ◌&&◌, not, ℕ, if◌then◌else◌, Bool, List, map, None, is_some, string_bytes, String, Vec}
use Rattle.std.specs.Prelude.{Result, IfOk, OnOk}
use Rattle.std.specs.Global.{Global}
use Rattle.mk_paths.specs.World.{World}
use Rattle.index_store.specs.Entries.{Entries}
use Rattle.port_index.specs.FilledRows.{is_one_of}
use Rattle.port_index.specs.Index.{needed_paths}
use Rattle.index_keep.specs.declared.staying_rows.StayingRows.{StayingRows}
use Rattle.index_keep.specs.declared.walk.LastStage.{LastStage}
use Rattle.index_keep.specs.Keeper.{IsAtEnd}
use Rattle.index_keep.specs.Last.{LeavesFresh}
use Rattle.index_keep.specs.Shown.{shown_in}
use Rattle.index_keep.specs.StayingRows.{FindsStaying}
use Rattle.index_keep.specs.Walk.{HasOrder, row_stays}

-- where a function succeeds at the end of a walk, it leaves the fresh rows of needed paths, and gives the paths of the others
abbrev pub LeavesNeeded : {R E : Type 0} → (R → Entries) → LastStage → R → R → Result (Vec (String Global) Global) E → Type 0
LeavesNeeded entries last old new result =
    (world : World) → IsAtEnd world (shown_in entries old) last
    → IfOk result (LeavesFresh (needed_paths world) (shown_in entries old) (shown_in entries new))

-- where a function succeeds, it gives the paths of the stored rows that don't stay
abbrev pub GivesOthers : {E : Type 0} → Entries → LastStage → List (String Global) → Result (Vec (String Global) Global) E → Type 0
GivesOthers entries last beside result =
    HasOrder last (map string_bytes beside)
    → IfOk result (λ others. (path : List ℕ) → is_one_of path (map string_bytes others.items)
    ≡ (is_some (entries path) && not (row_stays last (map string_bytes beside) path)))

-- where a function succeeds, the stored rows stay that are to stay, and no other
abbrev pub LeavesStaying : {R A E : Type 0} → (R → Entries) → LastStage → List (String Global) → R → R → Result A E → Type 0
LeavesStaying entries last beside old new result =
    HasOrder last (map string_bytes beside)
    → OnOk result ((path : List ℕ) → entries new path
    ≡ (if row_stays last (map string_bytes beside) path then entries old path else None))

-- where a function succeeds, it gives those of the paths whose rows don't stay
abbrev pub GivesOthersOf : {E : Type 0}
    → Vec (String Global) Global → LastStage → List (String Global) → Result (Vec (String Global) Global) E → Type 0
GivesOthersOf paths last beside result =
    HasOrder last (map string_bytes beside)
    → IfOk result (λ others. (path : List ℕ) → is_one_of path (map string_bytes others.items)
    ≡ (is_one_of path (map string_bytes paths.items) && not (row_stays last (map string_bytes beside) path)))

-- if the paths are in order, an answer tells whether the row of a path stays
abbrev pub TellsStaying : List ℕ → StayingRows → Bool → Type 0
TellsStaying path finder stays =
    (last : LastStage) (beside : List (List ℕ)) → FindsStaying last beside finder
    → HasOrder last beside → stays ≡ row_stays last beside path

-- it finds the same rows still
abbrev pub KeepsStaying : StayingRows → StayingRows → Type 0
KeepsStaying old new =
    (last : LastStage) (beside : List (List ℕ)) → FindsStaying last beside old → FindsStaying last beside new
