-- It finds what it found, whichever of the three was asked.
use Rattle.std.proofs.Common.{sym, subst, map, string_bytes}
use Rattle.index_keep.specs.StayingRows.{FindsStaying}
use Rattle.index_keep.proofs.staying_rows.StayingRows.has.Goals as goal
use Rattle.index_keep.proofs.staying_rows.StayingRows.has.Goals.{then-has, else-has}

pub returns-then-is_needed-clause-finder : goal.returns-then-is_needed-clause-finder
returns-then-is_needed-clause-finder c = λ last paths finds.
    let joined : FindsStaying last paths c.if-has.self = elim c.if-has.branch [
      | then-has w ↦ subst (FindsStaying last paths) (sym w.self-is) (record {
        listed = c.has.ensures.finder (map string_bytes last.listed.items) finds.listed;
        beside = finds.beside;
        known = finds.known;
      })
      | else-has w ↦ subst (FindsStaying last paths) (sym w.self-is) (record {
        listed = c.has.ensures.finder (map string_bytes last.listed.items) finds.listed;
        beside = w.has-is_needed.ensures.finder paths finds.beside;
        known = finds.known;
      })
    ] in record {
      listed = joined.listed;
      beside = joined.beside;
      known = c.get.ensures.finder last.stage.known joined.known;
    }
