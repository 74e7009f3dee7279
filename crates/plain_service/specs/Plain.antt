-- The plain service: the reply to one request over one tenant's world, and the world after it. It knows
-- nothing of connections, of other tenants, of work that waits or is shared.
use Rattle.std.specs.Prelude.{◌≡◌, ◌==◌, false}
use Rattle.mk_paths.specs.World.{World}
use Rattle.ports_http.specs.Messages.{ReplyMessage}
use Rattle.plain_service.specs.declared.questions.Question.{Question}
use Rattle.plain_service.specs.Change.{settle_change}
use Rattle.plain_service.specs.Requests.{PlainRequest}
use Rattle.plain_service.specs.Questions.{question_of}
use Rattle.plain_service.specs.Answers.{answer_to}

-- a reply, and the world after it
abbrev pub Served : Type 0
Served = ReplyMessage × World

-- the reply to a question over a world, and the world after it
abbrev pub served : World → Question → Served
served world question = settle_change world (answer_to world question).0 (answer_to world question).1

-- The plain service: the reply to a request, and the world after it. A request is read as a question, whatever the
-- world is, and the question is answered over the world.
abbrev pub plain : World → PlainRequest → Served
plain world request = served world (question_of request)

-- the plain service never answers 503
abbrev pub NeverAnswers503 : Type 0
NeverAnswers503 = (world : World) (request : PlainRequest) → ((plain world request).0.status == 503) ≡ false
