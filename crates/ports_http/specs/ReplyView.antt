-- What a contract sees of a `Reply`.
use Rattle.std.specs.Prelude.{ℕ, List}
use Rattle.ports_http.specs.declared.reply.Body.{Body}
use Rattle.ports_http.specs.declared.reply.Body.TheVariants.{Fixed, Owned}
use Rattle.ports_http.specs.declared.reply.Reply.TheInside.{Inside}
use Rattle.ports_http.specs.Messages.{ReplyMessage}

-- the bytes of a body
abbrev pub body_bytes : Body → List ℕ
body_bytes (Fixed text) = text.now
body_bytes (Owned bytes) = bytes.items

-- a reply without its place in memory
abbrev pub reply_view : Inside → ReplyMessage
reply_view r =
    record { status = r.status; body = body_bytes r.body; content = r.content; allow = r.allow.now }
