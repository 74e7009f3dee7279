use Rattle.read_trace.specs.Recorder.{view_of}
use Rattle.eval_ask.specs.Ask.{IsAskUnderWay}
use Rattle.port_cases.proofs.asks.by_turns.Given as goal

-- what is asked for is under way, or at its end
abbrev pub invariant-loop-turns : goal.invariant-loop-turns
invariant-loop-turns g l = IsAskUnderWay (view_of g.F.Names.view l.files).files l.turned
