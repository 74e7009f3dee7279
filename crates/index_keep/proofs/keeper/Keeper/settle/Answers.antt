-- The row that is written is the path's, and the walk knows of it.
use Rattle.std.proofs.Common.{◌≤◌, ◌∙◌, subst}
use Rattle.port_index.specs.PathOutcomes.{cost_at}
use Rattle.turn_amounts.specs.declared.spent.Spent.{Spent}
use Rattle.index_keep.specs.Paths.{TurnsPath}
use Rattle.index_keep.specs.Shown.{shown, no_name}
use Rattle.index_keep.proofs.LeftLemmas.{goes-on}
use Rattle.index_keep.proofs.WalkLemmas.{evaluates-made, kept-made, more-made}
use Rattle.index_keep.proofs.keeper.Keeper.settle.Goals as goal

pub returns-in_ok-walk-in-Made-clause-settles : goal.returns-in_ok-walk-in-Made-clause-settles
returns-in_ok-walk-in-Made-clause-settles g c = λ world path units ready turns.
    let old = shown no_name (g.R.PathRows.entries c.args.self.now.rows) in
    let new = shown no_name (g.R.PathRows.entries c.put_row.new.rows) in
    let made = subst (TurnsPath world path units c.args.before) c.in-Made.is turns in
    let spent = c.spent_since.result in
    record {
      turn = evaluates-made world old new c.args.writing.walk path ready c.in-Made.made made.come c.in_ok-walk-in-Made.ensures.rows units
          c.args.before spent c.spent_since.ensures made.in_time made.short;
      done = λ done. absurd cc;
    }

pub returns-in_ok-walk-in-Made-clause-kept : goal.returns-in_ok-walk-in-Made-clause-kept
returns-in_ok-walk-in-Made-clause-kept g c = λ world path units ready turns.
    let old = shown no_name (g.R.PathRows.entries c.args.self.now.rows) in
    let new = shown no_name (g.R.PathRows.entries c.put_row.new.rows) in
    let made = subst (TurnsPath world path units c.args.before) c.in-Made.is turns in
    record {
      rows = kept-made world old new c.args.writing.walk path ready c.in-Made.made made.come c.in_ok-walk-in-Made.ensures.rows;
      progress = c.in_ok-walk-in-Made.ensures.walk world old new ready.far (more-made world old new c.args.writing.walk path ready
          c.in-Made.made made.come c.in_ok-walk-in-Made.ensures.rows);
    }

pub returns-in-More-clause-settles : goal.returns-in-More-clause-settles
returns-in-More-clause-settles g c = λ world path units ready turns.
    let old = shown no_name (g.R.PathRows.entries c.args.self.now.rows) in
    let more = subst (TurnsPath world path units c.args.before) c.in-More.is turns in
    let ask = c.in-More.ask in
    let spent = c.spent_since-spent.result in
    let within = subst (λ (spent : Spent). spent.units ≤ cost_at world path) c.spent.ensures.is
    (c.spent.ensures.within world path more.come.0) in
    let all = c.spent_since-spent.ensures ∙ c.spent.ensures.is in
    record {
      turn = goes-on world old path units c.args.before spent ask ready.lacking more.come.0 more.come.1 within all more.in_time more.short;
      done = λ done. absurd cc;
    }
