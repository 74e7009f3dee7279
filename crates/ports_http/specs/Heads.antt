-- What the head of a request announces, or why it is refused (RFC 9112, sections 3 and 6).
use Rattle.std.specs.Prelude.{ℕ, ◌==◌, nat_lt, List, [], ◌∷◌, if◌then◌else◌, codes, Option, Some, None, Result, Ok, Err, map, bytes_eq}
use Rattle.std.specs.Str.Parse.{digits_value}
use Rattle.httparse.specs.Grammar.{RequestHead}
use Rattle.httparse.specs.Spans.{name_and_value}
use Rattle.ports_http.specs.declared.method.Method.{Method}
use Rattle.ports_http.specs.declared.method.Method.TheVariants.{Get, Put, Delete}
use Rattle.ports_http.specs.declared.fault.HeadFault.{HeadFault}
use Rattle.ports_http.specs.declared.fault.HeadFault.TheVariants as fault
use Rattle.ports_http.specs.Limits.{body_limit}
use Rattle.ports_http.specs.Fields.{NamedField, field_values, is_length}

-- the fields of a head
abbrev pub fields_of : RequestHead → List NamedField
fields_of head = map name_and_value head.fields

-- what a step gives is handed to the next; the first refusal is the result
infixl 10 ◌>>=◌
abbrev pub ◌>>=◌ : {A B : Type 0} → Result A HeadFault → (A → Result B HeadFault) → Result B HeadFault
(Ok x) >>= next = next x
(Err refusal) >>= next = Err refusal

-- the word of a method
abbrev pub method_text : Method → List ℕ
method_text Get = codes "GET"
method_text Put = codes "PUT"
method_text Delete = codes "DELETE"

-- the method of this word, which is compared with regard to case (RFC 9110, section 9.1)
unfoldable pub method_named : List ℕ → Result Method HeadFault
method_named word =
    if bytes_eq word (codes "GET") then Ok Get else (
    if bytes_eq word (codes "PUT") then Ok Put else (
    if bytes_eq word (codes "DELETE") then Ok Delete else Err fault.UnknownMethod))

-- a head with a transfer coding is refused (RFC 9112, section 6.1)
abbrev pub no_coding : List (List ℕ) → Result (Unit {0}) HeadFault
no_coding [] = Ok tt
no_coding (value ∷ values) = Err fault.TransferEncoding

-- exactly one Host; with HTTP/1.0 it may be missing (RFC 9112, section 3.2)
abbrev pub one_host : ℕ → List (List ℕ) → Result (Unit {0}) HeadFault
one_host minor [] = if minor == 0 then Ok tt else Err fault.HostCount
one_host minor (value ∷ []) = Ok tt
one_host minor (value ∷ other ∷ values) = Err fault.HostCount

-- the Content-Length, of which there may be at most one (RFC 9112, section 6.2)
abbrev pub stated_length : List (List ℕ) → Result (Option ℕ) HeadFault
stated_length [] = Ok None
stated_length (value ∷ []) =
    if is_length value then Ok (Some (digits_value 10 value)) else Err fault.ContentLength
stated_length (value ∷ other ∷ values) = Err fault.ContentLength

-- how many bytes the body has: a PUT must state that, and no body may be over the limit
abbrev pub body_length : Method → Option ℕ → Result ℕ HeadFault
body_length Put None = Err fault.LengthRequired
body_length method None = Ok 0
body_length method (Some n) = if nat_lt body_limit n then Err fault.BodyTooLarge else Ok n

-- what a head of this method, this minor version and these fields announces: the method and the
-- bytes of the body; or the first refusal that fits
unfoldable pub announced : List ℕ → ℕ → List NamedField → Result (Method × ℕ) HeadFault
announced word minor fields = do
  method ← method_named word
  coding ← no_coding (field_values (codes "transfer-encoding") fields)
  host ← one_host minor (field_values (codes "host") fields)
  stated ← stated_length (field_values (codes "content-length") fields)
  length ← body_length method stated
  Ok (method, length)

-- what a head announces
abbrev pub announces : RequestHead → Result (Method × ℕ) HeadFault
announces head = announced head.method head.minor (fields_of head)
