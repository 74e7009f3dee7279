-- When what was learnt of a path in one world holds in another.
use Rattle.std.specs.Prelude.{◌≡◌, ℕ, ◌≤◌, List, length}
use Rattle.mk_paths.specs.World.{FileMap, World}
use Rattle.mk_paths.specs.declared.search_path.Settings.{Settings}
use Rattle.mk_eval.specs.Agreement.{Agrees}
use Rattle.port_index.specs.PathOutcomes.{finding_at}
use Rattle.port_index.specs.PathQuestions.{questions_at}
use Rattle.port_index.specs.Index.{listed_paths, needed_paths}
use Rattle.port_index.specs.Efforts.{evaluations_over, cost_over}
use Rattle.port_index.specs.Pairs.{pairs_at}

-- Take any world with the same settings that gives the answers on which it depends what a path leads to. In
-- it the path leads to the same, at the same cost, and this depends on the same answers.
abbrev pub PathIsTheSameWhereAnswered : Type 0
PathIsTheSameWhereAnswered =
    (files other : FileMap) (settings : Settings) (path : List ℕ)
    → Agrees other (questions_at (files, settings) path)
    → (finding_at (other, settings) path ≡ finding_at (files, settings) path)
    × (questions_at (other, settings) path ≡ questions_at (files, settings) path)

-- the listed paths cost no more than all paths on which the index depends
abbrev pub ListedPathsCostNoMore : Type 0
ListedPathsCostNoMore = (world : World) → cost_over world (listed_paths world) ≤ cost_over world (needed_paths world)

-- so many makefiles are evaluated for some paths as these have makefiles
abbrev pub MakefilesAreEvaluated : Type 0
MakefilesAreEvaluated = (world : World) (paths : List (List ℕ)) → evaluations_over world paths ≡ length (pairs_at world paths)
