-- Rows that were fresh are fresh still, whether the turn of the refresh failed or not.
use Rattle.std.proofs.Common.{rules}
use Rattle.turn_amounts.specs.declared.TheConstants.{TURN_UNITS}
use Rattle.index_keep.specs.Keeper.{refresh_of}
use Rattle.question_turns.specs.Ports.{world_of_ports}
use Rattle.question_turns.proofs.SpendingLemmas.{fresh-once}
use Rattle.question_turns.proofs.kept_ports.KeptPorts.refresh_once.Goals as goal

pub returns-clause-leaves : goal.returns-clause-leaves
returns-clause-leaves g c = record {
  world = search rules;
  fresh = fresh-once g.R.PathRows.entries (world_of_ports g.F.Names.view c.args.self.now) TURN_UNITS
      (refresh_of g.R.PathRows.entries c.args.self.now.keeper.now) c.refresh_turn.new.self
      c.refresh_turn.result c.refresh_turn.ensures.turn c.refresh_turn.ensures.err;
  keeper = search rules;
  cache = search rules;
  uses = search rules;
}
