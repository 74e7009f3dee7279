use Rattle.std.proofs.Common.{◌≤◌, ◌∙◌, Ok, sym, ap, subst, arith}
use Rattle.mk_eval.specs.declared.outcome.Evaluated.{Evaluated}
use Rattle.mk_step.specs.Turn.{RunsOn, StopsInTime}
use Rattle.mk_step.specs.Views.{point_of}
use Rattle.mk_step.proofs.Ending.{turn-more, turn-tells, turn-leaves, stop-tells, stop-leaves, stop-spends}
use Rattle.mk_step.proofs.machine.Machine.turn.Goals as goal

pub returns-in-Ok-true : goal.returns-in-Ok-true
returns-in-Ok-true g c =
    let view = g.F.Names.view in
    let may = g.F.Names.fails_with in
    let old = view c.args.files.now in
    let new = view c.run-ran.new.files in
    let start = point_of c.args.self in
    let end = point_of c.run-ran.new.self in
    let fits : end.meter.spent ≤ end.meter.limit = omega (arith, c.spent-spent.ensures.units, c.spent-spent.ensures.within) in
    let runs = subst (λ over. RunsOn may old new start end c.args.units (Ok over)) c.in-Ok-true.field-0-test c.in-Ok-true.ensures.runs in
    record {
      means = λ settings name flavors asked has. turn-tells may old new settings name flavors asked start end has fits
          c.in-Ok-true.ensures.later runs.0.0 runs.0.1 ∙ ap Ok (sym c.finish.ensures);
      leaves = λ settings name flavors asked has. turn-leaves may old new settings name flavors asked start end has fits
          c.in-Ok-true.ensures.later runs.0.0 runs.0.1;
      spends = subst (λ (evaluated : Evaluated). StopsInTime old.files c.args.units start evaluated.cost) (sym c.finish.ensures) runs.1;
      parses = c.in-Ok-true.ensures.parses;
    }

pub returns-in-Ok-false : goal.returns-in-Ok-false
returns-in-Ok-false g c =
    let view = g.F.Names.view in
    let may = g.F.Names.fails_with in
    let old = view c.args.files.now in
    let new = view c.run-ran.new.files in
    let start = point_of c.args.self in
    let end = point_of c.run-ran.new.self in
    let fits : end.meter.spent ≤ end.meter.limit = omega (arith, c.spent-spent.ensures.units, c.spent-spent.ensures.within) in
    let runs = subst (λ over. RunsOn may old new start end c.args.units (Ok over)) c.in-Ok-false.field-0-test c.in-Ok-false.ensures.runs in
    record {
      means = λ settings name flavors asked has. tt;
      leaves = λ settings name flavors asked has. turn-more may old new settings name flavors asked start end has fits
          c.in-Ok-false.ensures.later runs.0.0;
      spends = (runs.0.1, runs.1);
      parses = c.in-Ok-false.ensures.parses;
    }

pub returns-in-Err : goal.returns-in-Err
returns-in-Err g c =
    let view = g.F.Names.view in
    let may = g.F.Names.fails_with in
    let old = view c.args.files.now in
    let new = view c.run-ran.new.files in
    let start = point_of c.args.self in
    let end = point_of c.run-ran.new.self in
    let fits : end.meter.spent ≤ end.meter.limit = omega (arith, c.spent-spent.ensures.units, c.spent-spent.ensures.within) in
    rw (c.ended.ensures, c.spent-spent.ensures.units) (record {
      means = λ settings name flavors asked has. stop-tells may old new settings name flavors asked start end has fits
          c.in-Err.ensures.later c.args.units c.in-Err.stop c.in-Err.ensures.runs;
      leaves = λ settings name flavors asked has. stop-leaves may old new settings name flavors asked start end has fits
          c.in-Err.ensures.later c.args.units c.in-Err.stop c.in-Err.ensures.runs;
      spends = stop-spends may old new c.args.self end c.args.units c.in-Err.stop c.in-Err.ensures.runs;
      parses = c.in-Err.ensures.parses;
    })
