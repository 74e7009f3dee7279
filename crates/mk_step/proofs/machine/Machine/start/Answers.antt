use Rattle.std.proofs.Common.{ap}
use Rattle.mk_eval.specs.Views.{flavors_in}
use Rattle.mk_step.proofs.Ending.{begin-tells, begin-leaves, begin-new}
use Rattle.mk_base.specs.Meter.{Meter}
use Rattle.mk_step.proofs.machine.Machine.start.Goals as goal

pub returns-in-Ok : goal.returns-in-Ok
returns-in-Ok g c = record {
  means = tt;
  leaves = c.in-Ok.ensures.begins.0;
  free = ap (λ (m : Meter). m.spent) c.in-Ok.ensures.begins.1;
  parses = c.in-Ok.ensures.parses;
}

pub returns-in-Err : goal.returns-in-Err
returns-in-Err g c =
    let view = g.F.Names.view in
    let old = view c.args.files.now in
    let new = view c.begin.new.files in
    let flavors = flavors_in c.args.flavors in
    rw c.ended.ensures (record {
      means = begin-tells g.F.Names.fails_with old new c.args.settings.now c.args.name.now flavors c.in-Err.stop c.in-Err.ensures.begins;
      leaves = begin-leaves g.F.Names.fails_with old new c.args.settings.now c.args.name.now flavors c.in-Err.stop c.in-Err.ensures.begins;
      free = begin-new g.F.Names.fails_with old new c.args.settings.now c.args.name.now flavors c.in-Err.stop;
      parses = c.in-Err.ensures.parses;
    })
