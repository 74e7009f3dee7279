use Rattle.std.proofs.Common.{inl, inr}
use Rattle.clap.specs.Words.{kind_of}
use Rattle.portsd_run.proofs.RunFacts.{Keeps-same}
use Rattle.portsd_run.proofs.program.run_command.Goals as goal

pub returns-in-Ok-Replay : goal.returns-in-Ok-Replay
returns-in-Ok-Replay g c = inl (
  c.in-Ok-Replay.field-0,
  c.in-Ok-Replay.ensures.fails,
  c.in-Ok-Replay.ensures.read,
  rw c.in-Ok-Replay.field-0-is c.run_config.ensures,
)

pub returns-in-Ok-Serve : goal.returns-in-Ok-Serve
returns-in-Ok-Serve g c = inl (
  c.in-Ok-Serve.field-0,
  c.in-Ok-Serve.ensures.fails,
  c.in-Ok-Serve.ensures.read,
  rw c.in-Ok-Serve.field-0-is
      (Keeps-same (g.R.Read.remaining c.args.reader.now), c.run_serving.ensures),
)

pub returns-in-Err : goal.returns-in-Err
returns-in-Err g c = inr (
  kind_of c.in-Err.error,
  c.in-Err.ensures.fails,
  Keeps-same
      (g.R.Read.remaining c.args.reader.now),
  c.answer.ensures,
)
