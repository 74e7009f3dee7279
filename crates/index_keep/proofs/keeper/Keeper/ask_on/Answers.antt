-- What is settled is what the evaluation came to, after what was spent on it before.
use Rattle.std.proofs.Common.{subst, sym, IfOk}
use Rattle.mk_paths.specs.World.{World}
use Rattle.turn_amounts.specs.declared.spent.Spent.{Spent}
use Rattle.read_trace.specs.Recorder.{view_of}
use Rattle.index_keep.specs.Keeper.{TurnsKeeper, path_evaluated}
use Rattle.index_keep.specs.Paths.{IsUpTo, TurnsPath}
use Rattle.index_keep.specs.Shown.{shown, no_name}
use Rattle.index_keep.specs.Turns.{refresh_at}
use Rattle.index_keep.proofs.keeper.Keeper.ask_on.Goals as goal

pub settle-requires : goal.settle-requires
settle-requires g c = subst (λ (before : Spent). IsUpTo before c.in_ok-turned.turned) (sym c.spent-before.ensures.is)
    c.in_ok-turned.ensures.up

pub returns-clause-turn : goal.returns-clause-turn
returns-clause-turn g c = λ settings way.
    let world : World = ((view_of g.F.Names.view c.args.files.now).files, settings) in
    let path = path_evaluated c.args.asking.ask in
    let old = shown no_name (g.R.PathRows.entries c.args.self.now.rows) in
    let turns = subst (λ (before : Spent). TurnsPath world path c.args.units before c.in_ok-turned.turned) (sym c.spent-before.ensures.is)
    (c.in_ok-turned.ensures.turns settings way.under) in
    subst (λ (before : Spent). IfOk c.settle.result (TurnsKeeper g.R.PathRows.entries world c.args.units (refresh_at old before)
    c.settle.new.self)) c.spent-before.ensures.is
    (c.settle.ensures.settles world path c.args.units way.ready turns)

pub returns-clause-kept : goal.returns-clause-kept
returns-clause-kept g c = λ settings way.
    let world : World = ((view_of g.F.Names.view c.args.files.now).files, settings) in
    let path = path_evaluated c.args.asking.ask in
    let turns = subst (λ (before : Spent). TurnsPath world path c.args.units before c.in_ok-turned.turned) (sym c.spent-before.ensures.is)
    (c.in_ok-turned.ensures.turns settings way.under) in
    c.settle.ensures.kept world path c.args.units way.ready turns
