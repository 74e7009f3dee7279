-- The evaluation goes on in the same world, and has spent what the turn was given, or is at its end.
use Rattle.std.proofs.Common.{◌-◌, ◌+◌, ◌∙◌, ap, arith}
use Rattle.turn_amounts.specs.declared.spent.Spent.{Spent}
use Rattle.plain_service.specs.AnswerCosts.{path_asked}
use Rattle.turn_amounts.specs.Spent.{IsUpFrom}
use Rattle.eval_ask.specs.Ask.{spent_in}
use Rattle.question_turns.specs.Ports.{world_of_ports}
use Rattle.turn_amounts.specs.declared.TheConstants.{TURN_UNITS}
use Rattle.question_turns.proofs.PortLemmas.{few-on, in-time-on}
use Rattle.question_turns.proofs.TurnsLemmas.{enough-looked}
use Rattle.question_turns.proofs.kept_ports.KeptPorts.evaluate_on.Goals as goal

up-on : (first next last : Spent) → IsUpFrom first next → IsUpFrom next last → IsUpFrom first last
up-on first next last up more = record { units = omega (arith, up.units, more.units); checks = omega (arith, up.checks, more.checks) }

pub end_turn-requires : goal.end_turn-requires
end_turn-requires g c =
    let before = c.args.before in
    let units_is = c.left_of-units.ensures ∙ ap (λ (s : Spent). TURN_UNITS - ((s.units - before.units) + (s.checks - before.checks)))
    c.spent.ensures.is in
    record {
      begun = record {
        world = world_of_ports g.F.Names.view c.args.self.now;
        is = c.in_ok-ask.ensures.goes_on c.args.self.now.settings.now (path_asked c.args.question) c.requires.ask;
      };
      up = up-on before (spent_in c.args.ask.came) (spent_in c.in_ok-ask.ask.came) c.requires.up c.in_ok-ask.ensures.turns.up;
      enough = enough-looked before c.args.ask.came c.in_ok-ask.ask.came _ c.requires.looked c.requires.up units_is
          c.in_ok-ask.ensures.turns.enough;
      few = few-on (world_of_ports g.F.Names.view c.args.self.now) c.args.question before c.args.ask c.in_ok-ask.ask.came _ c.requires.ask
          c.requires.looked c.requires.up units_is c.in_ok-ask.ensures.turns;
    }

pub returns-clause-turn : goal.returns-clause-turn
returns-clause-turn g c = λ refresh.
    let world = world_of_ports g.F.Names.view c.args.self.now in
    let before = c.args.before in
    let units_is = c.left_of-units.ensures ∙ ap (λ (s : Spent). TURN_UNITS - ((s.units - before.units) + (s.checks - before.checks)))
    c.spent.ensures.is in
    c.in_ok-end_turn.ensures.turn world refresh
    (c.in_ok-ask.ensures.goes_on c.args.self.now.settings.now (path_asked c.args.question) c.requires.ask)
    (in-time-on world c.args.question before c.args.ask c.in_ok-ask.ask.came _ c.requires.ask c.requires.looked c.requires.up units_is
    c.in_ok-ask.ensures.turns)
