use Rattle.std.proofs.Common.{inr, subst}
use Rattle.std.proofs.lemmas.Result.{err_from_is_err_and}
use Rattle.ports_core.specs.State.{State}
use Rattle.ports_serve.specs.Rounds.{IsServed}
use Rattle.ports_core.specs.Keys.{is_fit}
use Rattle.portsd_run.proofs.RunFacts.{not_false}
use Rattle.portsd_run.proofs.ServingFacts.{not_listening, listens_on}
use Rattle.portsd_run.proofs.service_run.serve_clients.Goals as goal

pub returns-clause-done : goal.returns-clause-done
returns-clause-done g c = record {
  fit = not_false (is_fit c.args.serving.config) (λ unfit. let refused = c.in_ok-service.ensures.unfit.1 unfit in cc);
  wire = c.in_ok-wire.wire;
  listens = listens_on (g.L.Listen.listens_on c.args.serving.port) c.listen.result c.in_ok-wire.wire
      c.in_ok-wire.ensures.listens c.listen.ensures;
  ready = c.in_ok-say_ready.ensures.said;
  wire_left = c.serve.new.wire;
  left = c.in_ok-_served._served;
  served = subst (λ (state : State). IsServed g.L.Wire.Wire.after c.args.serving.rounds c.in_ok-wire.wire state c.serve.new.wire
      c.in_ok-_served._served) c.in_ok-service.ensures.ok c.in_ok-_served.ensures.served;
}

pub returns-in_err-wire-clause-failed : goal.returns-in_err-wire-clause-failed
returns-in_err-wire-clause-failed g c =
    let fit = not_false (is_fit c.args.serving.config) (λ unfit. let refused = c.in_ok-service.ensures.unfit.1 unfit in cc) in
    let p = err_from_is_err_and c.from_residual-in_err-wire.result c.from_residual-in_err-wire.ensures.1 in
    rw (p.1, p.2) (not_listening (g.L.Listen.listens_on) c.args.serving (g.O.Write.contents c.args.out.now) fit c.listen.result _
    c.in_err-wire.ensures.fails)

pub returns-in_err-say_ready-clause-failed : goal.returns-in_err-say_ready-clause-failed
returns-in_err-say_ready-clause-failed g c =
    let fit = not_false (is_fit c.args.serving.config) (λ unfit. let refused = c.in_ok-service.ensures.unfit.1 unfit in cc) in
    let p = err_from_is_err_and c.from_residual-in_err-say_ready.result c.from_residual-in_err-say_ready.ensures.1 in
    let listens = listens_on (g.L.Listen.listens_on c.args.serving.port) c.listen.result c.in_ok-wire.wire
    c.in_ok-wire.ensures.listens c.listen.ensures in
    rw (p.1, p.2, c.in_err-say_ready.ensures.fails) (fit, (c.in_ok-wire.wire, listens), c.in_err-say_ready.ensures.front)

pub returns-in_err-_served-clause-failed : goal.returns-in_err-_served-clause-failed
returns-in_err-_served-clause-failed g c =
    let fit = not_false (is_fit c.args.serving.config) (λ unfit. let refused = c.in_ok-service.ensures.unfit.1 unfit in cc) in
    let p = err_from_is_err_and c.from_residual-in_err-_served.result c.from_residual-in_err-_served.ensures.1 in
    let listens = listens_on (g.L.Listen.listens_on c.args.serving.port) c.listen.result c.in_ok-wire.wire
    c.in_ok-wire.ensures.listens c.listen.ensures in
    rw (p.1, p.2) (fit, inr ((c.in_ok-wire.wire, listens), c.in_ok-say_ready.ensures.said))
