-- What comes first in a stream, from what the parser says of its front.
use Rattle.std.proofs.Common.{◌≡◌, ℕ, ◌+◌, ◌-◌, ◌<◌, ◌≤◌, List, [], ◌∷◌, ◌++◌, length, take, drop, slice_range, All, refl, ap, sym, ◌∙◌}
use Rattle.std.proofs.Common.{subst, arith, inl, inr, length-append, Ok, Option, option_map, IfSome, Bool}
use Rattle.std.proofs.lemmas.List.{length-take, length-take-le, length-drop, take-append-drop, drop-append-le, take-append-le, take_all}
use Rattle.std.proofs.lemmas.List.{drop-drop, length-map}
use Rattle.std.proofs.lemmas.List.Elements.{All-head, All-tail}
use Rattle.httparse.specs.Grammar.{RequestHead, ReadsRequest}
use Rattle.httparse.specs.Spans.{span_bytes, IsWithin, IsHeaderWithin, header_bytes, name_and_value, IsRequestAt, IsRequestWithin}
use Rattle.httparse.specs.declared.spans.Span.{Span}
use Rattle.httparse.specs.declared.spans.HeaderSpan.{HeaderSpan}
use Rattle.httparse.specs.declared.spans.RequestSpans.{RequestSpans}
use Rattle.httparse.proofs.GrammarLemmas.{ReadsRequest-append}
use Rattle.ports_http.specs.declared.method.Method.{Method}
use Rattle.ports_http.specs.Limits.{head_limit, field_limit}
use Rattle.ports_http.specs.Fields.{request_key, ends_connection}
use Rattle.ports_http.specs.Heads.{announced, announces}
use Rattle.ports_http.specs.Streams.{RequestAt, LacksBody, IsUnfinished, BeginsOneMoreOpen, Waits}
use Rattle.ports_http.specs.Spans.{named, CoversHead, message_at, IsWholeWithin, IsMissing}
use Rattle.ports_http.specs.declared.first.Whole.{Whole}

-- a part of the front is that part of the whole
pub span_front : (front back : List ℕ) (s : Span) → IsWithin (length front) s
    → span_bytes (front ++ back) s ≡ span_bytes front s
span_front front back s within =
    let inside : s.start ≤ length front = omega arith in
    let fits : s.end - s.start ≤ length (drop s.start front) = omega (arith, length-drop s.start front) in
    rw (drop-append-le s.start front back inside, take-append-le (s.end - s.start) (drop s.start front) back fits)

pub named_front : (front back : List ℕ) (fields : List HeaderSpan) → All (IsHeaderWithin (length front)) fields
    → named (front ++ back) fields ≡ named front fields
named_front front back [] within = refl
named_front front back (x ∷ xs) within =
    let here = All-head (IsHeaderWithin (length front)) x xs within in
    let later = named_front front back xs (All-tail (IsHeaderWithin (length front)) x xs within) in
    rw (span_front front back x.name here.0, span_front front back x.value here.1, later)

-- what lies in the first n bytes lies in no fewer
pub within_more : (m n : ℕ) (s : Span) → m ≤ n → IsWithin m s → IsWithin n s
within_more m n s more within = (within.0, omega arith)

pub headers_within_more : (m n : ℕ) (fields : List HeaderSpan) → m ≤ n → All (IsHeaderWithin m) fields
    → All (IsHeaderWithin n) fields
headers_within_more m n fields more within =
    λ k d h. (within_more m n _ more (within k d h).0, within_more m n _ more (within k d h).1)

-- the head that the parser found in the front comes first in the stream
pub head_in_front : (front back : List ℕ) (headers : List HeaderSpan) (r : RequestSpans) (h : RequestHead)
    → length front ≤ head_limit → length headers ≡ field_limit → IsRequestWithin front headers r
    → IsRequestAt front headers r h → CoversHead (front ++ back) r (take r.headers headers) h
head_in_front front back headers r h short room within at =
    let len : r.len ≤ length front = within.section.len_fits in
    let more : r.len ≤ length (front ++ back) = omega (arith, length-append front back) in
    let reads = ReadsRequest-append front h (drop r.len front) back at.reads in
    let fields = take r.headers headers in
    let inside = headers_within_more r.len (length front) fields len within.section.headers_fit in
    let count : length fields ≡ length h.fields =
    sym (length-map fields (header_bytes front)) ∙ ap length at.fields ∙ length-map h.fields name_and_value in
    record {
      stands = record {
        reads = rw (drop-append-le r.len front back len) reads;
        size = omega (arith, at.len, len, short);
        lines = omega (arith, count, length-take r.headers headers, room);
      };
      size = more;
      method = span_front front back r.method (within_more r.len (length front) r.method len within.method) ∙ at.method;
      method_within = within_more r.len (length (front ++ back)) r.method more within.method;
      target = span_front front back r.path (within_more r.len (length front) r.path len within.path) ∙ at.path;
      target_within = within_more r.len (length (front ++ back)) r.path more within.path;
      version = at.version;
      fields_are = named_front front back fields inside ∙ at.fields;
      fields_within = headers_within_more r.len (length (front ++ back)) fields more within.section.headers_fit;
    }

-- what is announced by the parts that the spans cover is what the head announces
pub announces_covered : (stream : List ℕ) (spans : RequestSpans) (fields : List HeaderSpan) (head : RequestHead)
    → CoversHead stream spans fields head
    → announced (span_bytes stream spans.method) spans.version (named stream fields) ≡ announces head
announces_covered stream spans fields head covers = rw (covers.method, covers.version, covers.fields_are) refl

-- the body follows the head, and the rest follows the body
pub body_cut : (stream : List ℕ) (at size : ℕ) → at ≤ length stream → size ≤ length stream - at
    → (drop at stream ≡ slice_range stream at (at + size) ++ drop (at + size) stream)
    × (length (slice_range stream at (at + size)) ≡ size)
body_cut stream at size inside fits =
    let width : at + size - at ≡ size = omega arith in
    let enough : size ≤ length (drop at stream) = omega (arith, length-drop at stream) in (
      rw (width, ← drop-drop size at stream) (sym (take-append-drop size (drop at stream))),
      rw width (length-take-le size (drop at stream) enough),
    )

-- the places of a request's parts
abbrev pub whole_at : RequestSpans → Method → ℕ → Option Span → Bool → Whole
whole_at spans method size key close = record {
  method = method;
  target = spans.path;
  body = record { start = spans.len; end = spans.len + size };
  key = key;
  close = close;
}

-- the request whose head the spans cover, where its body is whole
pub ready_request : (stream : List ℕ) (spans : RequestSpans) (fields : List HeaderSpan) (head : RequestHead)
    (method : Method) (size : ℕ) (key : Option Span) (close : Bool) → CoversHead stream spans fields head
    → announced (span_bytes stream spans.method) spans.version (named stream fields) ≡ Ok (method, size)
    → size ≤ length stream - spans.len → option_map (span_bytes stream) key ≡ request_key (named stream fields)
    → close ≡ ends_connection spans.version (named stream fields)
    → RequestAt stream (message_at stream (whole_at spans method size key close)) (drop (spans.len + size) stream)
ready_request stream spans fields head method size key close covers says fits key_is close_is =
    let cut = body_cut stream spans.len size covers.size fits in
    record {
      head = head;
      stands = record {
        reads = subst (λ r. ReadsRequest stream head r) cut.0 covers.stands.reads;
        size = covers.stands.size;
        lines = covers.stands.lines;
      };
      announced =
          sym (announces_covered stream spans fields head covers) ∙ says ∙ ap (λ n. Ok (method, n)) (sym cut.1);
      target = covers.target;
      key = key_is ∙ ap request_key covers.fields_are;
      close = rw (covers.version, covers.fields_are) at close_is;
    }

pub ready_within : (stream : List ℕ) (spans : RequestSpans) (fields : List HeaderSpan) (head : RequestHead)
    (method : Method) (size : ℕ) (key : Option Span) (close : Bool) → CoversHead stream spans fields head
    → size ≤ length stream - spans.len → IfSome key (IsWithin (length stream))
    → IsWholeWithin stream (whole_at spans method size key close)
ready_within stream spans fields head method size key close covers fits key_within =
    let inside : spans.len ≤ length stream = covers.size in
    record { target = covers.target_within; body = (omega arith, omega arith); key = key_within }

-- the same, where the front is what a head may take of the stream
pub covers_front : (stream : List ℕ) (headers : List HeaderSpan) (r : RequestSpans) (h : RequestHead)
    → length headers ≡ field_limit → IsRequestWithin (take head_limit stream) headers r
    → IsRequestAt (take head_limit stream) headers r h → CoversHead stream r (take r.headers headers) h
covers_front stream headers r h room within at =
    let covers = head_in_front (take head_limit stream) (drop head_limit stream) headers r h
    (omega (arith, length-take head_limit stream)) room within at in
    subst (λ s. CoversHead s r (take r.headers headers) h) (take-append-drop head_limit stream) covers

-- a stream that is no whole head yet, and begins no line too many, waits
pub head_waits : (stream : List ℕ) → length stream < head_limit → IsUnfinished (take head_limit stream)
    → (¬ BeginsOneMoreOpen stream) → Waits stream
head_waits stream short unfinished few =
    let all : take head_limit stream ≡ stream = take_all head_limit stream (omega arith) in
    inl record { short = short; unfinished = subst IsUnfinished all unfinished; few_lines = few }

-- a head comes first whose body isn't whole
pub missing_body : (stream : List ℕ) (spans : RequestSpans) (fields : List HeaderSpan) (head : RequestHead)
    (method : Method) (size : ℕ) → CoversHead stream spans fields head
    → announced (span_bytes stream spans.method) spans.version (named stream fields) ≡ Ok (method, size)
    → length stream - spans.len < size → Waits stream × IsMissing stream (size - (length stream - spans.len))
missing_body stream spans fields head method size covers says short =
    let come = length-drop spans.len stream in
    let lacks : LacksBody stream = record {
      head = head;
      rest = drop spans.len stream;
      method = method;
      size = size;
      stands = covers.stands;
      announced = sym (announces_covered stream spans fields head covers) ∙ says;
      short = omega (arith, come, short);
    } in
    (inr lacks, inr (lacks, omega (arith, come, short)))
