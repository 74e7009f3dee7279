use Rattle.std.proofs.Common.{[], Ok, subst}
use Rattle.mk_eval.specs.Views.{flavors_in}
use Rattle.mk_step.specs.Turn.{Leaves, IsNew}
use Rattle.mk_step.proofs.Evaluating.{under-way, turned-tells, turned-leaves, has-spent, spends-has}
use Rattle.mk_step.proofs.whole_evaluation.in_one_turn.Goals as goal

pub returns-in-Ok-More : goal.returns-in-Ok-More
returns-in-Ok-More g c =
    let view = g.F.Names.view in
    let may = g.F.Names.fails_with in
    let old = view c.args.files.now in
    let middle = view c.start.new.files in
    let new = view c.turn.new.files in
    let settings = c.args.settings.now in
    let name = c.args.name.now in
    let flavors = flavors_in c.args.flavors in
    let machine = c.in-Ok-More.machine in
    let begun = subst (λ turned. Leaves may old middle (old.files, settings) name flavors [] (Ok turned)) c.in-Ok-More.field-0-is
    c.in-Ok-More.ensures.leaves in
    let free = subst (λ turned. IsNew (Ok turned)) c.in-Ok-More.field-0-is c.in-Ok-More.ensures.free in
    let has = under-way may old new settings name flavors middle machine begun in
    record {
      means = turned-tells may old new settings name flavors middle machine begun c.turn.result
          (c.turn.ensures.means settings name flavors begun.more has);
      leaves = turned-leaves may old new settings name flavors middle machine begun c.turn.result
          (c.turn.ensures.leaves settings name flavors begun.more has);
      spent = has-spent machine.budget.spent 50001 c.turn.result (spends-has middle.files 50001 machine c.turn.result c.turn.ensures.spends)
          free;
      parses = g.met.P.Parses.goes_on _ _ _ c.in-Ok-More.ensures.parses c.turn.ensures.parses;
    }
