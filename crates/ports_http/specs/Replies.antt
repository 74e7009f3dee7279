-- The bytes of a reply (RFC 9112, sections 2 to 4), and the fixed replies.
use Rattle.std.specs.Prelude.{ℕ, ◌≤◌, Bool, List, [], ◌∷◌, ◌++◌, length, if◌then◌else◌, codes, decimal, Option, Some, None, unwrap_or}
use Rattle.std.specs.List.{flat_map}
use Rattle.http.specs.StatusCode.{code_digits, reason_phrase}
use Rattle.ports_http.specs.declared.method.Method.{Method}
use Rattle.ports_http.specs.declared.fault.HeadFault.{HeadFault}
use Rattle.ports_http.specs.declared.fault.HeadFault.TheVariants as fault
use Rattle.ports_http.specs.declared.reply.Content.{Content}
use Rattle.ports_http.specs.declared.reply.Content.TheVariants.{Json, Octets}
use Rattle.ports_http.specs.Limits.{fixed_limit}
use Rattle.ports_http.specs.Messages.{ReplyMessage}
use Rattle.ports_http.specs.Heads.{method_text}

-- a status code, a blank, and its phrase (RFC 9112, section 4)
unfoldable pub status_text : ℕ → List ℕ
status_text status = code_digits status ++ codes " " ++ unwrap_or (reason_phrase status) []

-- a line of a head
abbrev pub line : List ℕ → List ℕ
line text = text ++ codes "\r\n"

-- the media type of a body
abbrev pub content_text : Content → List ℕ
content_text Json = codes "application/json"
content_text Octets = codes "application/octet-stream"

-- the Content-Type line, if there is a type
abbrev pub content_line : Option Content → List ℕ
content_line None = []
content_line (Some content) = line (codes "Content-Type: " ++ content_text content)

-- a method after another one
abbrev pub next_method : Method → List ℕ
next_method method = codes ", " ++ method_text method

-- the Allow line, if methods are allowed
abbrev pub allow_line : List Method → List ℕ
allow_line [] = []
allow_line (method ∷ methods) = line (codes "Allow: " ++ method_text method ++ flat_map next_method methods)

-- the Connection line, if the connection closes
abbrev pub close_line : Bool → List ℕ
close_line close = if close then line (codes "Connection: close") else []

-- the head of a reply whose body has this many bytes
abbrev pub reply_head : ReplyMessage → Bool → ℕ → List ℕ
reply_head reply close size =
    line (codes "HTTP/1.1 " ++ status_text reply.status)
    ++ content_line reply.content
    ++ line (codes "Content-Length: " ++ decimal size)
    ++ allow_line reply.allow
    ++ close_line close
    ++ line []

-- the bytes of a reply
unfoldable pub reply_text : ReplyMessage → Bool → List ℕ
reply_text reply close = reply_head reply close (length reply.body) ++ reply.body

-- the status that answers a head refusal
abbrev pub fault_status : HeadFault → ℕ
fault_status fault.Malformed = 400
fault_status fault.HeadTooLarge = 431
fault_status fault.UnknownMethod = 501
fault_status fault.TransferEncoding = 501
fault_status fault.HostCount = 400
fault_status fault.ContentLength = 400
fault_status fault.LengthRequired = 411
fault_status fault.BodyTooLarge = 413

-- the reply to a head refusal: no body
abbrev pub fault_reply : HeadFault → ReplyMessage
fault_reply fault = record { status = fault_status fault; body = []; content = None; allow = [] }

-- the reply to a request without a known key
abbrev pub unknown_key : ReplyMessage
unknown_key =
    record { status = 403; body = codes "{\"error\":\"Key\"}"; content = Some Json; allow = [] }

-- the reply if the store or the memory failed
abbrev pub store_failed : ReplyMessage
store_failed = record {
  status = 503;
  body = codes "{\"error\":\"Store\"}";
  content = Some Json;
  allow = [];
}

-- the reply fits the bytes that are kept for a fixed one
abbrev pub IsFixed : ReplyMessage → Bool → Type 0
IsFixed reply close = length (reply_text reply close) ≤ fixed_limit

-- the reply of this status with this body, without a list of methods
abbrev pub plain_reply : ℕ → Option Content → List ℕ → ReplyMessage
plain_reply status content body = record { status = status; body = body; content = content; allow = [] }
