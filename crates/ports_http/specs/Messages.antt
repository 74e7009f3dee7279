-- Requests and replies as their readers see them (RFC 9110, section 6).
use Rattle.std.specs.Prelude.{ℕ, Bool, List, Option}
use Rattle.ports_http.specs.declared.method.Method.{Method}
use Rattle.ports_http.specs.declared.reply.Content.{Content}

-- A request. Its key is the value of X-Ports-Key, if there is exactly one. Its close says whether the
-- connection ends after it.
pub record RequestMessage : Type 0 where
  pub method : Method
  pub target : List ℕ
  pub body : List ℕ
  pub key : Option (List ℕ)
  pub close : Bool

-- A reply: status is its status code, content its Content-Type, and allow has the methods of its Allow
-- field. If there is no such field, allow has none.
pub record ReplyMessage : Type 0 where
  pub status : ℕ
  pub body : List ℕ
  pub content : Option Content
  pub allow : List Method
