-- Each turn of the refresh leaves one path fewer, or ends the loop.
use Rattle.std.proofs.Common.{arith, rules}
use Rattle.index_keep.specs.Keeper.{refresh_of}
use Rattle.index_keep.specs.declared.keeper.Refreshed.TheVariants.{Evaluated, More, Done}
use Rattle.question_turns.specs.Ports.{world_of_ports}
use Rattle.turn_amounts.specs.declared.TheConstants.{TURN_UNITS}
use Rattle.question_turns.proofs.SpendingLemmas.{ends, in-time, leaves-on, renews, renews_freely, goes_on, fewer, paid-nothing, paid-on}
use Rattle.question_turns.proofs.SpendingLemmas.{turn_in}
use Rattle.question_turns.proofs.TurnsLemmas.{goes-less, renews-few, renews-less}
use Rattle.question_turns.proofs.kept_ports.KeptPorts.refresh.Goals as goal

pub returns-in-Done-clause-refreshes : goal.returns-in-Done-clause-refreshes
returns-in-Done-clause-refreshes g c = λ before is.
    let world = world_of_ports g.F.Names.view c.args.self.now in
    let old = refresh_of g.R.PathRows.entries c.loop-spent.self.keeper.now in
    let new = refresh_of g.R.PathRows.entries c.refresh_once.new.self.keeper.now in
    ends c.refreshing_pays.ensures world old new before
    (turn_in world _ TURN_UNITS old new _ Done c.loop-spent.invariant.leaves.world c.in-Done.is c.in_ok-refresh_once.ensures.turn.turn)
    (c.loop-spent.invariant.spent before is)

pub returns-in-More-clause-refreshes : goal.returns-in-More-clause-refreshes
returns-in-More-clause-refreshes g c = λ before is.
    let world = world_of_ports g.F.Names.view c.args.self.now in
    let old = refresh_of g.R.PathRows.entries c.loop-spent.self.keeper.now in
    let new = refresh_of g.R.PathRows.entries c.refresh_once.new.self.keeper.now in
    goes_on world TURN_UNITS old new before c.in-More.spent
    (turn_in world _ TURN_UNITS old new _ (More c.in-More.spent) c.loop-spent.invariant.leaves.world c.in-More.is
    c.in_ok-refresh_once.ensures.turn.turn) (c.loop-spent.invariant.spent before is)

pub loop-spent-smaller : goal.loop-spent-smaller
loop-spent-smaller g c =
    let world = world_of_ports g.F.Names.view c.args.self.now in
    let old = refresh_of g.R.PathRows.entries c.loop-spent.self.keeper.now in
    let new = refresh_of g.R.PathRows.entries c.refresh_once.new.self.keeper.now in
    fewer c.refreshing_pays.ensures world old new c.in-Evaluated.spent
    (turn_in world _ TURN_UNITS old new _ (Evaluated c.in-Evaluated.spent) c.loop-spent.invariant.leaves.world c.in-Evaluated.is
    c.in_ok-refresh_once.ensures.turn.turn).renews

pub loop-spent-preserved : goal.loop-spent-preserved
loop-spent-preserved g c =
    let world = world_of_ports g.F.Names.view c.args.self.now in
    let old = refresh_of g.R.PathRows.entries c.loop-spent.self.keeper.now in
    let new = refresh_of g.R.PathRows.entries c.refresh_once.new.self.keeper.now in
    record {
      leaves = leaves-on g.F.Names.view g.R.PathRows.entries c.args.self.now c.loop-spent.self c.refresh_once.new.self
          c.loop-spent.invariant.leaves c.in_ok-refresh_once.ensures.leaves;
      paid = paid-on world (refresh_of g.R.PathRows.entries c.args.self.now.keeper.now) old new c.in-Evaluated.spent
          c.loop-spent.invariant.paid
          (c.refreshing_pays.ensures.pays world TURN_UNITS old new (Evaluated c.in-Evaluated.spent)
          (turn_in world _ TURN_UNITS old new _ (Evaluated c.in-Evaluated.spent) c.loop-spent.invariant.leaves.world c.in-Evaluated.is
          c.in_ok-refresh_once.ensures.turn.turn))
          (c.is_nothing.ensures.nothing c.if-not-is_nothing.false)
          (turn_in world _ TURN_UNITS old new _ (Evaluated c.in-Evaluated.spent) c.loop-spent.invariant.leaves.world c.in-Evaluated.is
          c.in_ok-refresh_once.ensures.turn.turn).renews.1;
      spent = λ before is.
          renews_freely c.refreshing_pays.ensures world old new before c.in-Evaluated.spent
          (c.is_nothing.ensures.nothing c.if-not-is_nothing.false)
          (turn_in world _ TURN_UNITS old new _ (Evaluated c.in-Evaluated.spent) c.loop-spent.invariant.leaves.world c.in-Evaluated.is
          c.in_ok-refresh_once.ensures.turn.turn).renews
          (c.loop-spent.invariant.spent before is);
      few = omega (
        arith,
        c.loop-spent.invariant.few,
        renews-few c.refreshing_pays.ensures world old new c.in-Evaluated.spent
            (turn_in world _ TURN_UNITS old new _ (Evaluated c.in-Evaluated.spent) c.loop-spent.invariant.leaves.world c.in-Evaluated.is
            c.in_ok-refresh_once.ensures.turn.turn).renews,
      );
    }

pub returns-then-not-is_nothing-clause-refreshes : goal.returns-then-not-is_nothing-clause-refreshes
returns-then-not-is_nothing-clause-refreshes g c = λ before is.
    let world = world_of_ports g.F.Names.view c.args.self.now in
    let old = refresh_of g.R.PathRows.entries c.loop-spent.self.keeper.now in
    let new = refresh_of g.R.PathRows.entries c.refresh_once.new.self.keeper.now in
    renews c.refreshing_pays.ensures world old new before c.in-Evaluated.spent
    (turn_in world _ TURN_UNITS old new _ (Evaluated c.in-Evaluated.spent) c.loop-spent.invariant.leaves.world c.in-Evaluated.is
    c.in_ok-refresh_once.ensures.turn.turn).renews
    (c.loop-spent.invariant.spent before is)

pub returns-in-More-clause-fewer : goal.returns-in-More-clause-fewer
returns-in-More-clause-fewer g c =
    let world = world_of_ports g.F.Names.view c.args.self.now in
    let old = refresh_of g.R.PathRows.entries c.loop-spent.self.keeper.now in
    let new = refresh_of g.R.PathRows.entries c.refresh_once.new.self.keeper.now in
    omega (
      arith,
      c.loop-spent.invariant.few,
      goes-less world old new c.in-More.spent
          (turn_in world _ TURN_UNITS old new _ (More c.in-More.spent) c.loop-spent.invariant.leaves.world c.in-More.is
          c.in_ok-refresh_once.ensures.turn.turn),
    )

pub returns-in-More-clause-told : goal.returns-in-More-clause-told
returns-in-More-clause-told g c = λ before.
    let world = world_of_ports g.F.Names.view c.args.self.now in
    let first = refresh_of g.R.PathRows.entries c.args.self.now.keeper.now in
    let old = refresh_of g.R.PathRows.entries c.loop-spent.self.keeper.now in
    let new = refresh_of g.R.PathRows.entries c.refresh_once.new.self.keeper.now in
    in-time c.refreshing_pays.ensures world first old new before (More c.in-More.spent) c.loop-spent.invariant.paid
    (turn_in world _ TURN_UNITS old new _ (More c.in-More.spent) c.loop-spent.invariant.leaves.world c.in-More.is
    c.in_ok-refresh_once.ensures.turn.turn)

pub returns-then-not-is_nothing-clause-fewer : goal.returns-then-not-is_nothing-clause-fewer
returns-then-not-is_nothing-clause-fewer g c =
    let world = world_of_ports g.F.Names.view c.args.self.now in
    let old = refresh_of g.R.PathRows.entries c.loop-spent.self.keeper.now in
    let new = refresh_of g.R.PathRows.entries c.refresh_once.new.self.keeper.now in
    omega (
      arith,
      c.loop-spent.invariant.few,
      renews-less c.refreshing_pays.ensures world old new c.in-Evaluated.spent
          (turn_in world _ TURN_UNITS old new _ (Evaluated c.in-Evaluated.spent) c.loop-spent.invariant.leaves.world c.in-Evaluated.is
          c.in_ok-refresh_once.ensures.turn.turn).renews
          (c.is_nothing.ensures.some c.if-not-is_nothing.true),
    )

pub returns-then-not-is_nothing-clause-told : goal.returns-then-not-is_nothing-clause-told
returns-then-not-is_nothing-clause-told g c = λ before.
    let world = world_of_ports g.F.Names.view c.args.self.now in
    let first = refresh_of g.R.PathRows.entries c.args.self.now.keeper.now in
    let old = refresh_of g.R.PathRows.entries c.loop-spent.self.keeper.now in
    let new = refresh_of g.R.PathRows.entries c.refresh_once.new.self.keeper.now in
    in-time c.refreshing_pays.ensures world first old new before (Evaluated c.in-Evaluated.spent) c.loop-spent.invariant.paid
    (turn_in world _ TURN_UNITS old new _ (Evaluated c.in-Evaluated.spent) c.loop-spent.invariant.leaves.world c.in-Evaluated.is
    c.in_ok-refresh_once.ensures.turn.turn)

pub returns-in-Done-clause-told : goal.returns-in-Done-clause-told
returns-in-Done-clause-told g c = λ before.
    let world = world_of_ports g.F.Names.view c.args.self.now in
    let first = refresh_of g.R.PathRows.entries c.args.self.now.keeper.now in
    let old = refresh_of g.R.PathRows.entries c.loop-spent.self.keeper.now in
    let new = refresh_of g.R.PathRows.entries c.refresh_once.new.self.keeper.now in
    in-time c.refreshing_pays.ensures world first old new before Done c.loop-spent.invariant.paid
    (turn_in world _ TURN_UNITS old new _ Done c.loop-spent.invariant.leaves.world c.in-Done.is c.in_ok-refresh_once.ensures.turn.turn)

pub loop-spent-init : goal.loop-spent-init
loop-spent-init g c =
    let world = world_of_ports g.F.Names.view c.args.self.now in
    record {
      leaves = search rules;
      paid = paid-nothing world (refresh_of g.R.PathRows.entries c.args.self.now.keeper.now);
      spent = λ before is. is;
      few = omega arith;
    }

pub returns-in-Done-clause-leaves : goal.returns-in-Done-clause-leaves
returns-in-Done-clause-leaves g c =
    leaves-on g.F.Names.view g.R.PathRows.entries c.args.self.now c.loop-spent.self c.refresh_once.new.self c.loop-spent.invariant.leaves
    c.in_ok-refresh_once.ensures.leaves

pub returns-in-More-clause-leaves : goal.returns-in-More-clause-leaves
returns-in-More-clause-leaves g c =
    leaves-on g.F.Names.view g.R.PathRows.entries c.args.self.now c.loop-spent.self c.refresh_once.new.self c.loop-spent.invariant.leaves
    c.in_ok-refresh_once.ensures.leaves

pub returns-then-not-is_nothing-clause-leaves : goal.returns-then-not-is_nothing-clause-leaves
returns-then-not-is_nothing-clause-leaves g c =
    leaves-on g.F.Names.view g.R.PathRows.entries c.args.self.now c.loop-spent.self c.refresh_once.new.self c.loop-spent.invariant.leaves
    c.in_ok-refresh_once.ensures.leaves

pub returns-in_err-refresh_once-clause-leaves : goal.returns-in_err-refresh_once-clause-leaves
returns-in_err-refresh_once-clause-leaves g c =
    leaves-on g.F.Names.view g.R.PathRows.entries c.args.self.now c.loop-spent.self c.refresh_once.new.self c.loop-spent.invariant.leaves
    c.in_err-refresh_once.ensures.leaves
