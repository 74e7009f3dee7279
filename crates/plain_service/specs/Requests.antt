-- A request, and an answer to it.
use Rattle.std.specs.Prelude.{ℕ, List, Option, None}
use Rattle.ports_http.specs.declared.method.Method.{Method}
use Rattle.ports_http.specs.Messages.{ReplyMessage}
use Rattle.plain_service.specs.declared.change.Change.{Change}

-- a request: its method, its target and its body
pub record PlainRequest : Type 0 where
  pub method : Method
  pub target : List ℕ
  pub body : List ℕ

abbrev pub plain_request : Method → List ℕ → List ℕ → PlainRequest
plain_request method target body = record { method = method; target = target; body = body }

-- a reply, and what is to be changed, if anything is
abbrev pub Answer : Type 0
Answer = ReplyMessage × Option Change

-- a reply that changes nothing
abbrev pub reply_alone : ReplyMessage → Answer
reply_alone reply = (reply, None)
