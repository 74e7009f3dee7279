-- What is answered to a request over a tenant's world.
use Rattle.std.specs.Prelude.{◌≡◌, ◌≢◌, ◌⊎◌, ℕ, Bool, List, slice_get, Option, Some, None, Vec}
use Rattle.mk_paths.specs.World.{World}
use Rattle.ports_http.specs.Messages.{RequestMessage, ReplyMessage}
use Rattle.ports_http.specs.Replies.{reply_text, store_failed, IsFixed}
use Rattle.plain_service.specs.Requests.{PlainRequest, plain_request}
use Rattle.plain_service.specs.Plain.{Served, plain}

-- what a request asks of the plain service: its method, its target and its body
abbrev pub plain_request_of : RequestMessage → PlainRequest
plain_request_of request = plain_request request.method request.target request.body

-- what the plain service answers to a request over a world, and the world after it
abbrev pub plain_answer : World → RequestMessage → Served
plain_answer world request = plain world (plain_request_of request)

-- The reply to a request over a world is the plain one, and so is the world after it; or the reply is 503,
-- and the world stays as it was.
abbrev pub AnswersRequest : World → RequestMessage → ReplyMessage → World → Type 0
AnswersRequest old request reply new = (plain_answer old request ≡ (reply, new)) ⊎ ((reply ≡ store_failed) × (new ≡ old))

-- a tenant's request is answered over its world, and no other world changes
pub record AnswersFor (t : ℕ) (request : RequestMessage) (reply : ReplyMessage) (old new : List World) : Type 0 where
  pub world : World
  pub was : slice_get old t ≡ Some world
  pub after : World
  pub becomes : slice_get new t ≡ Some after
  pub answers : AnswersRequest world request reply after
  pub others : (u : ℕ) → u ≢ t → slice_get new u ≡ slice_get old u

-- the bytes of a reply; or none, if the reply fits what is reserved
abbrev pub AreBytesOf : {Z : Type 0} → ReplyMessage → Bool → Option (Vec ℕ Z) → Type 0
AreBytesOf reply close None = IsFixed reply close
AreBytesOf reply close (Some bytes) = bytes.items ≡ reply_text reply close
