-- An evaluation that goes on stops in time, and tells all that it costs.
use Rattle.std.proofs.Common.{◌≡◌, Some, rules, subst, sym}
use Rattle.read_trace.specs.Recorder.{view_of}
use Rattle.eval_ask.specs.Ask.{EvaluatesInTime, HasComeTo, TellsWhole, pair_for, spent_in}
use Rattle.eval_ask.specs.declared.ask.AskTurned.{AskTurned}
use Rattle.eval_ask.proofs.AnswerLemmas.{in-time, unchecked-turn, whole-turn}
use Rattle.eval_ask.proofs.ask.AskTurned.turn.Goals as goal

pub returns-in_ok-turn-in-More-clause-turns : goal.returns-in_ok-turn-in-More-clause-turns
returns-in_ok-turn-in-More-clause-turns g c =
    let files = (view_of g.F.Names.view c.args.files.now).files in
    let came = c.in_ok-turn-in-More.field-0 in
    let turns = c.in_ok-turn-in-More.ensures.turns in
    record {
      comes = search rules;
      up = search rules;
      unchecked = subst (λ (old : AskTurned). (spent_in came).checks ≡ (spent_in old).checks) (sym c.in-More.is)
          (unchecked-turn files c.args.units c.in-More.ask came turns);
      enough = search rules;
      in_time = λ key come.
          subst (λ (old : AskTurned). EvaluatesInTime (files, key.settings) (Some (pair_for key)) c.args.units (spent_in old)
          (spent_in came)) (sym c.in-More.is)
          (in-time files key c.args.units c.in-More.ask came (subst (HasComeTo files key) c.in-More.is come) turns);
      whole = subst (λ (old : AskTurned). TellsWhole old came) (sym c.in-More.is) (whole-turn files c.args.units c.in-More.ask came turns);
    }
