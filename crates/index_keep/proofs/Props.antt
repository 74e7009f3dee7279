-- That a keeper is right about a world has one proof at most.
use Rattle.std.proofs.Common.{ℕ, List, Option, Some, None, String, Global}
use Rattle.std.specs.Prelude.{Vec}
use Rattle.std.proofs.Props.{props}
use Rattle.mk_paths.specs.World.{World}
use Rattle.index_row.specs.Rows.{RowValue}
use Rattle.index_store.specs.Entries.{Entries}
use Rattle.eval_ask.proofs.Props.{Agrees-prop, HasComeTo-prop}
use Rattle.index_keep.specs.declared.keeper.Progress.{Progress}
use Rattle.index_keep.specs.declared.keeper.Progress.TheVariants.{Changed, Walking, Asking, Current, AtHand}
use Rattle.index_keep.specs.declared.keeper.Keeper.{Keeper}
use Rattle.index_keep.specs.declared.walk.Walk.{Walk}
use Rattle.index_keep.specs.declared.walk.Walk.TheVariants.{Directories, Listed, Needed}
use Rattle.index_keep.specs.Shown.{ShownRows}
use Rattle.index_keep.specs.Right.{IsRightRow, AreKept, AreCurrent}
use Rattle.index_keep.specs.Paths.{IsPathAsk}
use Rattle.index_keep.specs.Walk.{IsWalk, KnowsBeside}
use Rattle.index_keep.specs.declared.path_ask.PathAsk.{PathAsk}
use Rattle.index_keep.specs.Keeper.{IsProgress, IsKept}

IsRightRow-prop : (world : World) (path : List ℕ) (row : RowValue) → IsProp (IsRightRow world path row)
IsRightRow-prop world path row = hlevel (props, Agrees-prop)

AreKept-prop : (world : World) (rows : ShownRows) → IsProp (AreKept world rows)
AreKept-prop world rows = hlevel (props, IsRightRow-prop)

AreCurrent-prop : (world : World) (rows : ShownRows) → IsProp (AreCurrent world rows)
AreCurrent-prop world rows = hlevel props

KnowsBeside-prop : (world : World) (rows : ShownRows) (beside : Option (Vec (String Global) Global))
    → IsProp (KnowsBeside world rows beside)
KnowsBeside-prop world rows None = hlevel props
KnowsBeside-prop world rows (Some beside) = hlevel props

IsWalk-prop : (world : World) (rows : ShownRows) (walk : Walk) → IsProp (IsWalk world rows walk)
IsWalk-prop world rows (Directories first) = hlevel props
IsWalk-prop world rows (Listed next) = hlevel props
IsWalk-prop world rows (Needed last) = hlevel (props, KnowsBeside-prop)

IsPathAsk-prop : (world : World) (path : List ℕ) (ask : PathAsk) → IsProp (IsPathAsk world path ask)
IsPathAsk-prop world path ask = hlevel (props, Agrees-prop, HasComeTo-prop)

IsProgress-prop : (world : World) (rows : ShownRows) (progress : Progress) → IsProp (IsProgress world rows progress)
IsProgress-prop world rows (Changed names last) = hlevel props
IsProgress-prop world rows (Walking walk) = IsWalk-prop world rows walk
IsProgress-prop world rows (Asking walk ask) = hlevel (props, IsWalk-prop, IsPathAsk-prop)
IsProgress-prop world rows (Current paths) = hlevel (props, AreCurrent-prop)
IsProgress-prop world rows (AtHand index) = hlevel (props, AreCurrent-prop)

pub IsKept-prop : {R : Type 0} (entries : R → Entries) (world : World) (keeper : Keeper R) → IsProp (IsKept entries world keeper)
IsKept-prop entries world keeper = hlevel (props, AreKept-prop, IsProgress-prop)
