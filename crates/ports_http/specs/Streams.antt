-- A connection's bytes as requests (RFC 9112, sections 2.2, 6.3 and 9).
use Rattle.std.specs.Prelude.{◌≡◌, ◌⊎◌, ℕ, ◌<◌, ◌≤◌, ◌==◌, not, false, MatchBool, List, [], ◌∷◌, ◌++◌, length, take, Ok, Err}
use Rattle.httparse.specs.Ascii.{line_feed}
use Rattle.httparse.specs.Pieces.{Stops, is_newline}
use Rattle.httparse.specs.Grammar.{AllPass, RequestHead, print_request, ReadsRequest}
use Rattle.httparse.specs.Grammar.{HasNoRequest, NeverHasRequest, MayBecomeRequest, EndsInTarget}
use Rattle.httparse.specs.Spans.{RequestOverflows, RequestExceeds}
use Rattle.ports_http.specs.declared.method.Method.{Method}
use Rattle.ports_http.specs.declared.fault.HeadFault.{HeadFault}
use Rattle.ports_http.specs.declared.fault.HeadFault.TheVariants.{Malformed, HeadTooLarge}
use Rattle.ports_http.specs.Limits.{head_limit, field_limit}
use Rattle.ports_http.specs.Messages.{RequestMessage}
use Rattle.ports_http.specs.Fields.{request_key, ends_connection}
use Rattle.ports_http.specs.Heads.{announces, fields_of}

-- a head within the limits comes first in the stream, and rest follows it
pub record HeadAt (stream : List ℕ) (head : RequestHead) (rest : List ℕ) : Type 0 where
  pub reads : ReadsRequest stream head rest
  pub size : length (print_request head) ≤ head_limit
  pub lines : length head.fields ≤ field_limit

-- a whole request comes first in the stream, and rest follows it
pub record RequestAt (stream : List ℕ) (request : RequestMessage) (rest : List ℕ) : Type 0 where
  pub head : RequestHead
  pub stands : HeadAt stream head (request.body ++ rest)
  pub announced : announces head ≡ Ok (request.method, length request.body)
  pub target : request.target ≡ head.target
  pub key : request.key ≡ request_key (fields_of head)
  pub close : request.close ≡ ends_connection head.minor (fields_of head)

-- there is no head, and bytes may follow that make one, or the target goes on
abbrev pub IsUnfinished : List ℕ → Type 0
IsUnfinished bytes = HasNoRequest bytes × MayBecomeRequest bytes

-- there are more field lines than the limit, and no head within the limit begins in this way
abbrev pub HasTooManyLines : List ℕ → Type 0
HasTooManyLines bytes = RequestOverflows field_limit bytes × RequestExceeds field_limit bytes

-- the bytes are a head with as many field lines as the limit
pub record IsFullHead (bytes : List ℕ) : Type 0 where
  pub head : RequestHead
  pub reads : ReadsRequest bytes head []
  pub lines : length head.fields ≡ field_limit

-- the bytes up to a line feed, and then an empty line, are such a head; but another line begins there
pub record BeginsOneMore (bytes : List ℕ) : Type 0 where
  pub before : List ℕ
  pub line : List ℕ
  pub cut : bytes ≡ before ++ line_feed ∷ line
  pub full : IsFullHead (before ++ line_feed ∷ line_feed ∷ [])
  pub begins : Stops is_newline line

-- the same, and that line isn't finished
pub record BeginsOneMoreOpen (bytes : List ℕ) : Type 0 where
  pub more : BeginsOneMore bytes
  pub unfinished : AllPass (λ b. not (b == line_feed)) more.line

-- a head comes first, but its body isn't whole yet
pub record LacksBody (stream : List ℕ) : Type 0 where
  pub head : RequestHead
  pub rest : List ℕ
  pub method : Method
  pub size : ℕ
  pub stands : HeadAt stream head rest
  pub announced : announces head ≡ Ok (method, size)
  pub short : length rest < size

-- no whole head comes first, but one may with more bytes; and no line begins that is one too many
pub record LacksHead (stream : List ℕ) : Type 0 where
  pub short : length stream < head_limit
  pub unfinished : IsUnfinished stream
  pub few_lines : ¬ BeginsOneMoreOpen stream

-- what comes first is no whole request yet, and isn't refused
abbrev pub Waits : List ℕ → Type 0
Waits stream = LacksHead stream ⊎ LacksBody stream

-- the head that comes first is refused for what it announces
pub record RefusesHead (stream : List ℕ) (fault : HeadFault) : Type 0 where
  pub head : RequestHead
  pub rest : List ℕ
  pub stands : HeadAt stream head rest
  pub announced : announces head ≡ Err fault

-- the bytes of a greatest head hold no whole head, or too many field lines, or begin one too many
abbrev pub IsTooLarge : List ℕ → Type 0
IsTooLarge stream =
    ((head_limit ≤ length stream) × IsUnfinished (take head_limit stream))
    ⊎ (HasTooManyLines (take head_limit stream) ⊎ BeginsOneMore (take head_limit stream))

-- The head refusal that comes first. The bytes of a greatest head begin no head; or they hold none, or too
-- many field lines; or the head that is there is refused.
abbrev pub Refuses : List ℕ → HeadFault → Type 0
Refuses stream fault =
    ((fault ≡ Malformed) × NeverHasRequest (take head_limit stream))
    ⊎ (((fault ≡ HeadTooLarge) × IsTooLarge stream)
    ⊎ RefusesHead stream fault)

-- how a stream ends after its requests: bytes that are no whole request yet, a head refusal, or nothing
-- more, since the last request closes
pub data End : Type 0 where
  waiting : List ℕ → End
  refused : HeadFault → End
  closed : End

-- how a stream ends that begins with no whole request
abbrev pub EndsAs : List ℕ → End → Type 0
EndsAs stream (waiting unread) = (stream ≡ unread) × Waits stream
EndsAs stream (refused fault) = Refuses stream fault
EndsAs stream closed = ⊥

-- The stream is these requests, one after the other, and then its end. What follows a
-- request that closes isn't read.
abbrev pub Cuts : List ℕ → List RequestMessage → End → Type 0
Cuts stream [] end = EndsAs stream end
Cuts stream (request ∷ requests) end =
    (rest : List ℕ) × RequestAt stream request rest
    × MatchBool request.close ((requests ≡ []) × (end ≡ closed)) (Cuts rest requests end)

-- the stream is these requests, none of which closes, and then rest
abbrev pub Begins : List ℕ → List RequestMessage → List ℕ → Type 0
Begins stream [] rest = stream ≡ rest
Begins stream (request ∷ requests) rest =
    (behind : List ℕ) × RequestAt stream request behind × (request.close ≡ false) × Begins behind requests rest

-- 400, 431 and waiting are all allowed: too many field lines begin, or the bytes end in a target
abbrev pub LeftOpen : List ℕ → Type 0
LeftOpen stream =
    EndsInTarget (take head_limit stream)
    ⊎ (RequestExceeds field_limit (take head_limit stream) ⊎ BeginsOneMore (take head_limit stream))
