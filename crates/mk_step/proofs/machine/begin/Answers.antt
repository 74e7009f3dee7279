use Rattle.std.proofs.Common.{◌≡◌, ◌∙◌, ◌++◌, ◌∷◌, [], false, Some, Ok, sym, ap, subst}
use Rattle.std.proofs.lemmas.Result.{err_from_is_err_and}
use Rattle.mk_base.specs.Blame.{IsBlamed}
use Rattle.mk_base.specs.Stops.{StopsPurelyAt}
use Rattle.mk_base.specs.declared.faults.FaultKind.TheVariants as kinds
use Rattle.mk_base.specs.declared.stops.Stop.TheVariants as stops
use Rattle.mk_ast.specs.Parser.{parsed}
use Rattle.mk_eval.specs.Start as starts
use Rattle.mk_eval.specs.Views.{flavors_in}
use Rattle.mk_step.specs.Machine.{read_lines}
use Rattle.mk_step.specs.Views.{frame_of, frames_of}
use Rattle.mk_eval.specs.declared.state.EvalState.{EvalState}
use Rattle.mk_eval.specs.declared.outcome.Kind.TheVariants as roles
use Rattle.mk_step.proofs.Beginning.{look-stops, missing-stops, reading-stops, begins, point-is}
use Rattle.mk_step.proofs.machine.begin.Goals as goal

pub returns-in_err-content-clause-begins : goal.returns-in_err-content-clause-begins
returns-in_err-content-clause-begins g c =
    let view = g.F.Names.view in
    let p = err_from_is_err_and c.from_residual.result c.from_residual.ensures.1 in
    rw (p.1, p.2)
    (look-stops g.F.Names.fails_with (view c.args.files.now) (view c.look_read.new.files) c.args.settings.now c.args.name.now
    (flavors_in c.args.flavors) c.in_err-content.field-0.0 c.in_err-content.ensures.refusal c.in_err-content.ensures.fails)

pub returns-in_default-clause-begins : goal.returns-in_default-clause-begins
returns-in_default-clause-begins g c =
    let view = g.F.Names.view in
    missing-stops g.F.Names.fails_with (view c.args.files.now) (view c.look_read.new.files) c.args.settings.now c.args.name.now
    (flavors_in c.args.flavors) c.in_ok-content.ensures.noted c.blame.result
    (sym c.in_ok-content.ensures.found ∙ c.in_default.is) (subst (λ text. IsBlamed text 0 (stops.Fault kinds.Include) c.blame.result)
    c.as_str.ensures.text c.blame.ensures)

pub returns-in_err-lines-clause-begins : goal.returns-in_err-lines-clause-begins
returns-in_err-lines-clause-begins g c =
    let view = g.F.Names.view in
    let stop = c.in_err-lines.field-0.0 in
    let p = err_from_is_err_and c.from_residual-in_err-lines.result c.from_residual-in_err-lines.ensures.1 in
    rw (p.1, p.2)
    (reading-stops g.F.Names.fails_with (view c.args.files.now) (view c.look_read.new.files) c.args.settings.now c.args.name.now
    (flavors_in c.args.flavors) c.in_ok-content.ensures.noted stop c.in-Some.content
    (sym c.in_ok-content.ensures.found ∙ c.in-Some.is)
    (λ s a. subst (λ name. StopsPurelyAt stop a (read_lines name 16 (parsed c.in-Some.content) s a)) c.in_ok-copy-2.ensures
    (c.in_err-lines.ensures.gives s a)))

pub returns-clause-begins : goal.returns-clause-begins
returns-clause-begins g c =
    let view = g.F.Names.view in
    begins g.F.Names.fails_with (view c.args.files.now) (view c.look_read.new.files) c.args.settings.now c.args.name.now
    (flavors_in c.args.flavors) c.in_ok-content.ensures.noted
    (record {
      makefile = c.in_ok-copy-3.field-0;
      state = record {
        variables = c.in_ok-start.field-0;
        kind = roles.Other;
        shared_asked =
            false;
        path = c.in_ok-copy.field-0;
      };
      budget = c.new.result;
      frames = c.push.new.self;
    })
    (frame_of c.in_ok-lines.lines) c.in-Some.content
    (sym c.in_ok-content.ensures.found ∙ c.in-Some.is)
    (λ s a. subst (λ name. read_lines name 16 (parsed c.in-Some.content) s a ≡ Ok ((s, Some (frame_of c.in_ok-lines.lines)), a))
    c.in_ok-copy-2.ensures (c.in_ok-lines.ensures.gives s a))
    (point-is _ _ _ _ _ _ _ _ c.in_ok-copy-3.ensures
    (ap frames_of (c.in_ok-push.ensures.items ∙ ap (λ frames. frames ++ c.in_ok-lines.lines ∷ []) c.new-frames.ensures.items))
    (ap (λ variables. let state : EvalState = record {
      variables = variables;
      kind = roles.Other;
      shared_asked = false;
      path =
          c.in_ok-copy.field-0;
    } in state) c.in_ok-start.ensures
    ∙ ap (λ path. let state : EvalState = record {
      variables = starts.start c.args.settings.now c.args.name.now (flavors_in c.args.flavors);
      kind = roles.Other;
      shared_asked = false;
      path = path;
    } in state) c.in_ok-copy.ensures) c.new.ensures)
