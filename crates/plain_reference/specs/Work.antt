-- How much work it takes to learn what paths lead to, counted with 64 bits.
use Rattle.std.specs.Prelude.{◌≡◌, ℕ, ◌+◌, List, length, Result, IfOk}
use Rattle.mk_paths.specs.World.{World}
use Rattle.plain_reference.specs.declared.effort.Effort.{Effort}
use Rattle.port_index.specs.Efforts.{evaluations_for, evaluations_over, cost_over}
use Rattle.turn_amounts.specs.Spent.{counted}
use Rattle.port_index.specs.PathOutcomes.{Finding}
use Rattle.ports_http.specs.Messages.{ReplyMessage}
use Rattle.plain_service.specs.Answers.{port_reply_to}
use Rattle.plain_service.specs.AnswerCosts.{cost_for, rests_for}
use Rattle.plain_service.specs.declared.port_routes.PortQuestion.{PortQuestion}
use Rattle.plain_service.specs.declared.questions.Question.{Question}
use Rattle.plain_service.specs.declared.questions.Question.TheVariants.{OfPort}

abbrev pub no_effort : Effort
no_effort = record { evaluations = 0; units = 0 }

-- the work for one path
abbrev pub effort_of : Finding → Effort
effort_of found = record { evaluations = evaluations_for found.outcome; units = counted found.cost }

-- some work, and more
abbrev pub both : Effort → Effort → Effort
both one more = record { evaluations = counted (one.evaluations + more.evaluations); units = counted (one.units + more.units) }

-- the work for these paths
abbrev pub effort_over : World → List (List ℕ) → Effort
effort_over world paths = record { evaluations = counted (evaluations_over world paths); units = counted (cost_over world paths) }

-- The work for the answer to a question: the makefiles on which it rests, by their number, and what they cost.
abbrev pub effort_for : World → Question → Effort
effort_for world question = record { evaluations = counted (length (rests_for world question)); units = counted (cost_for world question) }

-- where a function succeeds, it gives the reply to a question about a port, with the work that it took
abbrev pub RepliesTo : {E : Type 0} → Result (ReplyMessage × Effort) E → World → PortQuestion → Type 0
RepliesTo result world question = IfOk result (λ told. told.0 ≡ port_reply_to world question)

-- where a function succeeds, it tells the work for the answer to a question about a port
abbrev pub TellsEffort : {E : Type 0} → Result (ReplyMessage × Effort) E → World → PortQuestion → Type 0
TellsEffort result world question = IfOk result (λ told. told.1 ≡ effort_for world (OfPort question))
