-- What finds out which rows stay at the end of a walk.
use Rattle.std.specs.Prelude.{ℕ, List, map, string_bytes}
use Rattle.port_index.specs.Finders.{FindsPaths, IsFinderOf}
use Rattle.index_keep.specs.declared.staying_rows.StayingRows.{StayingRows}
use Rattle.index_keep.specs.declared.walk.LastStage.{LastStage}

-- it finds the listed paths of a last stage, these paths beside them, and the rows that the stage knows
pub record FindsStaying (last : LastStage) (paths : List (List ℕ)) (finder : StayingRows) : Type 0 where
  pub listed : FindsPaths (map string_bytes last.listed.items) finder.listed
  pub beside : FindsPaths paths finder.beside
  pub known : IsFinderOf last.stage.known finder.known
