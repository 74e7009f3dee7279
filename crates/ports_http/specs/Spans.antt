-- The parts of a request as places in the unread bytes.
use Rattle.std.specs.Prelude.{◌≡◌, ◌⊎◌, ℕ, ◌+◌, ◌≤◌, ◌<◌, List, [], ◌∷◌, length, drop, map, All, option_map, IfSome}
use Rattle.std.specs.Prelude.{Result, Option, Vec, IfOk}
use Rattle.std.specs.Global.{Global}
use Rattle.httparse.specs.Grammar.{RequestHead}
use Rattle.httparse.specs.Spans.{span_bytes, IsWithin, IsHeaderWithin, header_bytes}
use Rattle.httparse.specs.declared.spans.Span.{Span}
use Rattle.httparse.specs.declared.spans.HeaderSpan.{HeaderSpan}
use Rattle.httparse.specs.declared.spans.RequestSpans.{RequestSpans}
use Rattle.ports_http.specs.declared.fields.Occurs.{Occurs}
use Rattle.ports_http.specs.declared.fields.Occurs.TheVariants.{Never, Once, Often}
use Rattle.ports_http.specs.declared.first.Whole.{Whole}
use Rattle.ports_http.specs.declared.first.First.{First}
use Rattle.ports_http.specs.declared.first.First.TheVariants as first
use Rattle.ports_http.specs.Messages.{RequestMessage}
use Rattle.ports_http.specs.Fields.{NamedField, field_values}
use Rattle.ports_http.specs.Heads.{fields_of}
use Rattle.ports_http.specs.Streams.{HeadAt, RequestAt, Refuses, Waits, LacksBody}

-- the names and values that the spans cover
abbrev pub named : List ℕ → List HeaderSpan → List NamedField
named buf fields = map (header_bytes buf) fields

-- how often a field occurs: the values are none, the one that the span covers, or more
abbrev pub OccursAs : List ℕ → Occurs → List (List ℕ) → Type 0
OccursAs buf Never values = values ≡ []
OccursAs buf (Once value) values = IsWithin (length buf) value × (values ≡ span_bytes buf value ∷ [])
OccursAs buf Often values = 1 < length values

-- how often a field occurs, with one more that has this value
abbrev pub with_one : Occurs → Span → Occurs
with_one Never value = Once value
with_one (Once other) value = Often
with_one Often value = Often

-- the spans cover the parts of this head, which comes first
pub record CoversHead
    (stream : List ℕ) (spans : RequestSpans) (fields : List HeaderSpan) (head : RequestHead) : Type 0 where
  pub stands : HeadAt stream head (drop spans.len stream)
  pub size : spans.len ≤ length stream
  pub method : span_bytes stream spans.method ≡ head.method
  pub method_within : IsWithin (length stream) spans.method
  pub target : span_bytes stream spans.path ≡ head.target
  pub target_within : IsWithin (length stream) spans.path
  pub version : spans.version ≡ head.minor
  pub fields_are : named stream fields ≡ fields_of head
  pub fields_within : All (IsHeaderWithin (length stream)) fields

-- the request whose parts the spans cover
abbrev pub message_at : List ℕ → Whole → RequestMessage
message_at stream whole = record {
  method = whole.method;
  target = span_bytes stream whole.target;
  body = span_bytes stream whole.body;
  key = option_map (span_bytes stream) whole.key;
  close = whole.close;
}

-- each part is within the stream
pub record IsWholeWithin (stream : List ℕ) (whole : Whole) : Type 0 where
  pub target : IsWithin (length stream) whole.target
  pub body : IsWithin (length stream) whole.body
  pub key : IfSome whole.key (IsWithin (length stream))

-- a head comes first, and so many bytes of its body are missing; or that isn't known (0)
abbrev pub IsMissing : List ℕ → ℕ → Type 0
IsMissing stream missing = (missing ≡ 0) ⊎ ((lacks : LacksBody stream) × (missing + length lacks.rest ≡ lacks.size))

-- what comes first in the stream
abbrev pub ComesFirst : List ℕ → First → Type 0
ComesFirst stream (first.Waiting missing) = Waits stream × IsMissing stream missing
ComesFirst stream (first.Refused fault) = Refuses stream fault
ComesFirst stream (first.Ready whole) =
    RequestAt stream (message_at stream whole) (drop whole.body.end stream) × IsWholeWithin stream whole

-- the values of the field of this name, as spans of these bytes give the fields
abbrev pub values_in : List ℕ → List HeaderSpan → List ℕ → List (List ℕ)
values_in bytes fields name = field_values name (named bytes fields)

-- where a function succeeds, it gives the bytes of a key that stands there, if there is one
abbrev pub GivesKey : {F : Type 0} → Result (Option (Vec ℕ Global)) F → List ℕ → Option Span → Type 0
GivesKey result bytes key = IfOk result (λ given. option_map (λ (k : Vec ℕ Global). k.items) given ≡ option_map (span_bytes bytes) key)
