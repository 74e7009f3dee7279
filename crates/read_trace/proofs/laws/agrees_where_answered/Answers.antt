-- The two ways to say that files agree with a trace.
use Rattle.read_trace.proofs.AgreeingFiles.{Agrees-agreement, agreement-Agrees}
use Rattle.read_trace.proofs.laws.agrees_where_answered.Goals as goal

pub returns : goal.returns
returns c = λ files questions. (Agrees-agreement files questions, agreement-Agrees files questions)
