-- The world stays. What was spent before stays right, by how far the refresh is.
use Rattle.std.specs.Prelude.{◌≤◌}
use Rattle.index_keep.specs.Keeper.{refresh_of}
use Rattle.index_keep.specs.Turns.{count_left}
use Rattle.turn_amounts.specs.declared.spent.Spent.{Spent}
use Rattle.question_turns.specs.Ports.{world_of_ports, LeavesPorts}
use Rattle.question_turns.specs.UnderWay.{IsSpentOnIndex}
use Rattle.question_turns.specs.TurnsLeft.{turns_of_refresh}
use Rattle.question_turns.proofs.SpendingLemmas.{PaidSoFar}
use Rattle.question_turns.proofs.kept_ports.KeptPorts.refresh.Given as goal

abbrev pub invariant-loop-spent : goal.invariant-loop-spent
invariant-loop-spent g l =
    let world = world_of_ports g.F.Names.view l.initial.self in
    record {
      leaves : LeavesPorts g.F.Names.view g.R.PathRows.entries l.initial.self l.self;
      paid : PaidSoFar world (refresh_of g.R.PathRows.entries l.initial.self.keeper.now)
          (refresh_of g.R.PathRows.entries l.self.keeper.now);
      spent : (before : Spent) → IsSpentOnIndex world (refresh_of g.R.PathRows.entries l.initial.self.keeper.now) before
          → IsSpentOnIndex world (refresh_of g.R.PathRows.entries l.self.keeper.now) before;
      few : turns_of_refresh world (refresh_of g.R.PathRows.entries l.self.keeper.now)
          ≤ turns_of_refresh world (refresh_of g.R.PathRows.entries l.initial.self.keeper.now);
    }

abbrev pub decreases-loop-spent : goal.decreases-loop-spent
decreases-loop-spent g l = count_left (world_of_ports g.F.Names.view l.initial.self)
    (refresh_of g.R.PathRows.entries l.self.keeper.now).rows
