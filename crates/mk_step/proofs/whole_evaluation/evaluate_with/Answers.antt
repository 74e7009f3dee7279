-- The one turn has the answer.
use Rattle.std.proofs.Common.{◌∙◌, [], Result, Ok, Err, ap, subst}
use Rattle.mk_eval.specs.Meaning.{means}
use Rattle.mk_eval.specs.Views.{flavors_in}
use Rattle.mk_eval.specs.declared.outcome.Evaluated.{Evaluated}
use Rattle.mk_eval.specs.declared.outcome.Failed.{Failed}
use Rattle.mk_step.specs.Turn.{Leaves, TellsIfDone}
use Rattle.mk_step.specs.declared.machine.Turned.TheVariants.{Done}
use Rattle.mk_step.proofs.Evaluating.{asked-all, costs-as}
use Rattle.mk_step.proofs.whole_evaluation.evaluate_with.Goals as goal

pub returns-in-Ok-Done-Ok : goal.returns-in-Ok-Done-Ok
returns-in-Ok-Done-Ok g c =
    let view = g.F.Names.view in
    let may = g.F.Names.fails_with in
    let old = view c.args.files.now in
    let new = view c.in_one_turn.new.files in
    let settings = c.args.settings.now in
    let name = c.args.name.now in
    let flavors = flavors_in c.args.flavors in
    let answer : Result Evaluated Failed = Ok c.in-Ok-Done-Ok.evaluated in
    let done = c.in-Ok-Done-Ok.field-0-is ∙ ap Done c.in-Ok-Done-Ok.field-0-0-is in
    let tells = subst (λ turned. TellsIfDone (Ok turned) (means (old.files, settings) name flavors)) done c.in-Ok-Done-Ok.ensures.means in
    let leaves = subst (λ turned. Leaves may old new (old.files, settings) name flavors [] (Ok turned)) done
    c.in-Ok-Done-Ok.ensures.leaves in
    record {
      means = tells;
      files = asked-all may old new settings name flavors answer tells leaves;
      within = costs-as may old new settings name flavors answer tells;
      parses = c.in-Ok-Done-Ok.ensures.parses;
    }

pub returns-in-Ok-Done-Err : goal.returns-in-Ok-Done-Err
returns-in-Ok-Done-Err g c =
    let view = g.F.Names.view in
    let may = g.F.Names.fails_with in
    let old = view c.args.files.now in
    let new = view c.in_one_turn.new.files in
    let settings = c.args.settings.now in
    let name = c.args.name.now in
    let flavors = flavors_in c.args.flavors in
    let answer : Result Evaluated Failed = Err c.in-Ok-Done-Err.failed in
    let done = c.in-Ok-Done-Err.field-0-is ∙ ap Done c.in-Ok-Done-Err.field-0-0-is in
    let tells = subst (λ turned. TellsIfDone (Ok turned) (means (old.files, settings) name flavors)) done c.in-Ok-Done-Err.ensures.means in
    let leaves = subst (λ turned. Leaves may old new (old.files, settings) name flavors [] (Ok turned)) done
    c.in-Ok-Done-Err.ensures.leaves in
    record {
      means = tells;
      files = asked-all may old new settings name flavors answer tells leaves;
      within = costs-as may old new settings name flavors answer tells;
      parses = c.in-Ok-Done-Err.ensures.parses;
    }
