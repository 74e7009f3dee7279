-- Streams that are cut into requests: the proofs of the laws.
use Rattle.std.proofs.Common.{◌≡◌, ◌≢◌, ◌⊎◌, ℕ, ◌+◌, ◌<◌, ◌≤◌, Bool, true, false, if◌then◌else◌, nat_lt, codes, MatchBool, zero, suc, List}
use Rattle.std.proofs.Common.{[], ◌∷◌, ◌++◌, length, take, drop, refl, ap, sym, ◌∙◌, subst, arith, inl, inr, length-append, append_assoc}
use Rattle.std.proofs.Common.{Option, Some, None, Result, Ok, Err}
use Rattle.std.proofs.lemmas.List.{take-append-le, take_all}
use borrow.Author.Tests.{ltb-false}
use Rattle.std.proofs.Math.Seq.{take-append_seam, drop-append_seam}
use Rattle.httparse.specs.Grammar.{RequestHead, print_request, ReadsRequest, HasNoRequest, NeverHasRequest, MayBecomeRequest}
use Rattle.httparse.proofs.GrammarLemmas.{ReadsRequest-append, request_unique}
use Rattle.ports_http.specs.declared.method.Method.{Method}
use Rattle.ports_http.specs.declared.method.Method.TheVariants.{Get, Put, Delete}
use Rattle.ports_http.specs.declared.fault.HeadFault.{HeadFault}
use Rattle.ports_http.specs.declared.fault.HeadFault.TheVariants.{BodyTooLarge}
use Rattle.ports_http.specs.Limits.{head_limit, body_limit, unread_limit}
use Rattle.ports_http.specs.Messages.{RequestMessage}
use Rattle.ports_http.specs.Fields.{NamedField, field_values, request_key, ends_connection}
use Rattle.ports_http.specs.Heads.{◌>>=◌, announced, announces, fields_of, method_named, no_coding, one_host, stated_length, body_length}
use Rattle.ports_http.specs.Streams.{HeadAt, RequestAt, LacksBody, Refuses, IsTooLarge, HasTooManyLines, IsUnfinished, Waits, End, waiting}
use Rattle.ports_http.specs.Streams.{refused, closed, EndsAs, Cuts, Begins, LeftOpen}
use Rattle.ports_http.proofs.OneMoreLemmas.{one_more_overflows, one_more_stays}
use Rattle.ports_http.specs.Laws.{RequestStays, RefusalStays, WaitingHasRoom, OneCutting, RequestsStay, NextRequest, CutsOn, CutsFrom}

-- a head that comes first does so with more after it
pub head_stays : (stream : List ℕ) (head : RequestHead) (rest more : List ℕ) → HeadAt stream head rest
    → HeadAt (stream ++ more) head (rest ++ more)
head_stays stream head rest more at = record {
  reads = ReadsRequest-append stream head rest more at.reads;
  size = at.size;
  lines = at.lines;
}

pub request_stays : RequestStays
request_stays stream request rest more at = record {
  head = at.head;
  stands = subst (HeadAt (stream ++ more) at.head) (append_assoc request.body rest more)
      (head_stays stream at.head (request.body ++ rest) more at.stands);
  announced = at.announced;
  target = at.target;
  key = at.key;
  close = at.close;
}

-- the front of a longer stream goes on
front_goes_on : (n : ℕ) (stream more : List ℕ) → (x : List ℕ) × (take n (stream ++ more) ≡ take n stream ++ x)
front_goes_on zero stream more = ([], refl)
front_goes_on (suc n) [] more = (take (suc n) more, refl)
front_goes_on (suc n) (b ∷ stream) more =
    let later = front_goes_on n stream more in (later.0, ap (λ t. b ∷ t) later.1)

-- a front holds what is within it
front_holds : (n : ℕ) (first rest : List ℕ) → length first ≤ n → (x : List ℕ) × (take n (first ++ rest) ≡ first ++ x)
front_holds n [] rest h = (take n rest, refl)
front_holds zero (b ∷ first) rest h = absurd (omega arith)
front_holds (suc n) (b ∷ first) rest h =
    let later = front_holds n first rest (omega arith) in (later.0, ap (λ t. b ∷ t) later.1)

-- what has no head however it goes on has none with more after it
never_stays : (front x whole : List ℕ) → whole ≡ front ++ x → NeverHasRequest front → NeverHasRequest whole
never_stays front x whole e never = λ more.
    let same : front ++ (x ++ more) ≡ whole ++ more = sym (append_assoc front x more) ∙ ap (λ t. t ++ more) (sym e) in
    subst HasNoRequest same (never (x ++ more))

-- too many field lines stay too many with more after them
lines_stay : (front x whole : List ℕ) → whole ≡ front ++ x → HasTooManyLines front → HasTooManyLines whole
lines_stay front x whole e lines = (
  λ more h rest reads.
      let same : whole ++ more ≡ front ++ (x ++ more) = ap (λ t. t ++ more) e ∙ append_assoc front x more in
      lines.0 (x ++ more) h rest (subst (λ t. ReadsRequest t h rest) same reads),
  (
    lines.1.0,
    lines.1.1 ++ x,
    e ∙ ap (λ t. t ++ x) lines.1.2 ∙ append_assoc lines.1.0 lines.1.1 x,
    lines.1.3,
    lines.1.4,
    lines.1.5,
  ),
)

too_large_stays : (stream more : List ℕ) → IsTooLarge stream → IsTooLarge (stream ++ more)
too_large_stays stream more (inl full) =
    let bigger : head_limit ≤ length (stream ++ more) = omega (arith, full.0, length-append stream more) in
    let same = take-append-le head_limit stream more full.0 in
    inl (bigger, subst IsUnfinished (sym same) full.1)
too_large_stays stream more (inr (inl lines)) =
    let on = front_goes_on head_limit stream more in
    inr (inl (lines_stay (take head_limit stream) on.0 (take head_limit (stream ++ more)) on.1 lines))
too_large_stays stream more (inr (inr one)) =
    let on = front_goes_on head_limit stream more in
    inr (inr (one_more_stays (take head_limit stream) on.0 (take head_limit (stream ++ more)) on.1 one))

pub refusal_stays : RefusalStays
refusal_stays stream fault more (inl never) =
    let on = front_goes_on head_limit stream more in
    inl (never.0, never_stays (take head_limit stream) on.0 (take head_limit (stream ++ more)) on.1 never.1)
refusal_stays stream fault more (inr (inl large)) = inr (inl (large.0, too_large_stays stream more large.1))
refusal_stays stream fault more (inr (inr told)) = inr (inr record {
  head = told.head;
  rest = told.rest ++ more;
  stands = head_stays stream told.head told.rest more told.stands;
  announced = told.announced;
})

-- the head that comes first comes first in the front, too
head_in_take : (stream : List ℕ) (head : RequestHead) (rest : List ℕ) → HeadAt stream head rest
    → (behind : List ℕ) × ReadsRequest (take head_limit stream) head behind
head_in_take stream head rest at =
    let held = front_holds head_limit (print_request head) rest at.size in
    (held.0, (at.reads.0, ap (λ t. take head_limit t) at.reads.1 ∙ held.1))

-- one head comes first
one_head : (stream : List ℕ) (h k : RequestHead) (r q : List ℕ) → HeadAt stream h r → HeadAt stream k q → (h ≡ k) × (r ≡ q)
one_head stream h k r q x y = request_unique stream h k r q x.reads y.reads

same_split : (a b r q : List ℕ) → length a ≡ length b → a ++ r ≡ b ++ q → (a ≡ b) × (r ≡ q)
same_split a b r q n e = (
  sym (take-append_seam a r) ∙ (λ i. take (n i) (e i)) ∙ take-append_seam b q,
  sym (drop-append_seam a r) ∙ (λ i. drop (n i) (e i)) ∙ drop-append_seam b q,
)

ok_inj : {A E : Type 0} {a b : A} → ◌≡◌ {A = Result A E} (Ok a) (Ok b) → a ≡ b
ok_inj e = cc

err_inj : {A E : Type 0} {a b : E} → ◌≡◌ {A = Result A E} (Err a) (Err b) → a ≡ b
err_inj e = cc

ok_not_err : {A E : Type 0} {a : A} {b : E} → ◌≡◌ {A = Result A E} (Ok a) (Err b) → ⊥
ok_not_err e = cc

-- one request comes first
pub one_request : (stream : List ℕ) (a b : RequestMessage) (r q : List ℕ) → RequestAt stream a r → RequestAt stream b q
    → (a ≡ b) × (r ≡ q)
one_request stream a b r q x y =
    let heads = one_head stream x.head y.head (a.body ++ r) (b.body ++ q) x.stands y.stands in
    let says = ok_inj (sym x.announced ∙ ap announces heads.0 ∙ y.announced) in
    let bodies = same_split a.body b.body r q (ap (λ (p : Method × ℕ). p.1) says) heads.1 in
    let methods : a.method ≡ b.method = ap (λ (p : Method × ℕ). p.0) says in
    let targets : a.target ≡ b.target = x.target ∙ ap (λ (h : RequestHead). h.target) heads.0 ∙ sym y.target in
    let keys : a.key ≡ b.key = x.key ∙ ap (λ (h : RequestHead). request_key (fields_of h)) heads.0 ∙ sym y.key in
    let closing : a.close ≡ b.close =
    x.close ∙ ap (λ (h : RequestHead). ends_connection h.minor (fields_of h)) heads.0 ∙ sym y.close in (
      λ i. record { method = methods i; target = targets i; body = bodies.0 i; key = keys i; close = closing i },
      bodies.1,
    )

-- a head within the limits and what says that there is none
head_not_never : (stream : List ℕ) (head : RequestHead) (rest : List ℕ) → HeadAt stream head rest
    → NeverHasRequest (take head_limit stream) → ⊥
head_not_never stream head rest at never =
    let front = head_in_take stream head rest at in
    let longer = ReadsRequest-append (take head_limit stream) head front.0 [] front.1 in
    never [] head (front.0 ++ []) longer

head_not_large : (stream : List ℕ) (head : RequestHead) (rest : List ℕ) → HeadAt stream head rest → IsTooLarge stream → ⊥
head_not_large stream head rest at (inl full) =
    let front = head_in_take stream head rest at in full.1.0 head front.0 front.1
head_not_large stream head rest at (inr (inl lines)) =
    let front = head_in_take stream head rest at in
    let longer = ReadsRequest-append (take head_limit stream) head front.0 [] front.1 in
    let over = lines.0 [] head (front.0 ++ []) longer in
    absurd (omega (arith, over, at.lines))
head_not_large stream head rest at (inr (inr one)) =
    let front = head_in_take stream head rest at in
    let longer = ReadsRequest-append (take head_limit stream) head front.0 [] front.1 in
    let over = one_more_overflows (take head_limit stream) [] head (front.0 ++ []) one longer in
    absurd (omega (arith, over, at.lines))

-- a request that comes first isn't refused
pub request_not_refused : (stream : List ℕ) (request : RequestMessage) (rest : List ℕ) (fault : HeadFault)
    → RequestAt stream request rest → Refuses stream fault → ⊥
request_not_refused stream request rest fault at (inl never) = head_not_never stream at.head _ at.stands never.1
request_not_refused stream request rest fault at (inr (inl large)) = head_not_large stream at.head _ at.stands large.1
request_not_refused stream request rest fault at (inr (inr told)) =
    let heads = one_head stream at.head told.head _ told.rest at.stands told.stands in
    ok_not_err (sym at.announced ∙ ap announces heads.0 ∙ told.announced)

-- a request that comes first doesn't wait
pub request_not_waits : (stream : List ℕ) (request : RequestMessage) (rest : List ℕ) → RequestAt stream request rest
    → Waits stream → ⊥
request_not_waits stream request rest at (inl none) = none.unfinished.0 at.head (request.body ++ rest) at.stands.reads
request_not_waits stream request rest at (inr lacks) =
    let heads = one_head stream at.head lacks.head (request.body ++ rest) lacks.rest at.stands lacks.stands in
    let says = ok_inj (sym at.announced ∙ ap announces heads.0 ∙ lacks.announced) in
    let size : length request.body ≡ lacks.size = ap (λ (p : Method × ℕ). p.1) says in
    let whole = ap length heads.1 in
    absurd (omega (arith, size, whole, lacks.short, length-append request.body rest))

-- what may become a head and never does ends in a target
open_front : (stream : List ℕ) → NeverHasRequest (take head_limit stream) → MayBecomeRequest (take head_limit stream)
    → LeftOpen stream
open_front stream never (inl becomes) = absurd (never becomes.0 becomes.1 [] becomes.2)
open_front stream never (inr target) = inl target

-- a stream that waits and is refused, too, is one that is left open
waits_refused : (stream : List ℕ) (fault : HeadFault) → Waits stream → Refuses stream fault → LeftOpen stream
waits_refused stream fault (inl none) (inl never) =
    let all : take head_limit stream ≡ stream = take_all head_limit stream (omega (arith, none.short)) in
    open_front stream never.1 (subst MayBecomeRequest (sym all) none.unfinished.1)
waits_refused stream fault (inl none) (inr (inl (is, inl full))) = absurd (omega (arith, none.short, full.0))
waits_refused stream fault (inl none) (inr (inl (is, inr (inl lines)))) = inr (inl lines.1)
waits_refused stream fault (inl none) (inr (inl (is, inr (inr one)))) = inr (inr one)
waits_refused stream fault (inl none) (inr (inr told)) =
    absurd (none.unfinished.0 told.head told.rest told.stands.reads)
waits_refused stream fault (inr lacks) (inl never) = absurd (head_not_never stream lacks.head lacks.rest lacks.stands never.1)
waits_refused stream fault (inr lacks) (inr (inl large)) =
    absurd (head_not_large stream lacks.head lacks.rest lacks.stands large.1)
waits_refused stream fault (inr lacks) (inr (inr told)) =
    let heads = one_head stream lacks.head told.head lacks.rest told.rest lacks.stands told.stands in
    absurd (ok_not_err (sym lacks.announced ∙ ap announces heads.0 ∙ told.announced))

-- two refusals of a stream are one, but where it is left open
never_large : (stream : List ℕ) → NeverHasRequest (take head_limit stream) → IsTooLarge stream → LeftOpen stream
never_large stream never (inl full) = open_front stream never full.1.1
never_large stream never (inr (inl lines)) = inr (inl lines.1)
never_large stream never (inr (inr one)) = inr (inr one)

one_refusal : (stream : List ℕ) (fault other : HeadFault) → Refuses stream fault → Refuses stream other
    → (fault ≡ other) ⊎ LeftOpen stream
one_refusal stream fault other (inl a) (inl b) = inl (a.0 ∙ sym b.0)
one_refusal stream fault other (inl a) (inr (inl b)) = inr (never_large stream a.1 b.1)
one_refusal stream fault other (inl a) (inr (inr b)) = absurd (head_not_never stream b.head b.rest b.stands a.1)
one_refusal stream fault other (inr (inl a)) (inl b) = inr (never_large stream b.1 a.1)
one_refusal stream fault other (inr (inl a)) (inr (inl b)) = inl (a.0 ∙ sym b.0)
one_refusal stream fault other (inr (inl a)) (inr (inr b)) = absurd (head_not_large stream b.head b.rest b.stands a.1)
one_refusal stream fault other (inr (inr a)) (inl b) = absurd (head_not_never stream a.head a.rest a.stands b.1)
one_refusal stream fault other (inr (inr a)) (inr (inl b)) = absurd (head_not_large stream a.head a.rest a.stands b.1)
one_refusal stream fault other (inr (inr a)) (inr (inr b)) =
    let heads = one_head stream a.head b.head a.rest b.rest a.stands b.stands in
    inl (err_inj (sym a.announced ∙ ap announces heads.0 ∙ b.announced))

-- two ends of a stream are one, but where it is left open
one_end : (stream : List ℕ) (a b : End) → EndsAs stream a → EndsAs stream b → (a ≡ b) ⊎ LeftOpen stream
one_end stream (waiting u) (waiting v) x y = inl (ap waiting (sym x.0 ∙ y.0))
one_end stream (waiting u) (refused f) x y = inr (waits_refused stream f x.1 y)
one_end stream (waiting u) closed x y = absurd y
one_end stream (refused f) (waiting v) x y = inr (waits_refused stream f y.1 x)
one_end stream (refused f) (refused g) x y = refused_ends (one_refusal stream f g x y)
  where
    refused_ends : (f ≡ g) ⊎ LeftOpen stream → (refused f ≡ refused g) ⊎ LeftOpen stream
    refused_ends (inl same) = inl (ap refused same)
    refused_ends (inr left) = inr left
one_end stream (refused f) closed x y = absurd y
one_end stream closed b x y = absurd x

-- a stream that begins with a request doesn't end there
request_not_end : (stream : List ℕ) (request : RequestMessage) (rest : List ℕ) (end : End)
    → RequestAt stream request rest → EndsAs stream end → ⊥
request_not_end stream request rest (waiting u) at ends = request_not_waits stream request rest at ends.1
request_not_end stream request rest (refused f) at ends = request_not_refused stream request rest f at ends
request_not_end stream request rest closed at ends = ends

-- the outcome of OneCutting
abbrev SameCutting : List ℕ → List RequestMessage → List RequestMessage → End → End → Type 0
SameCutting stream requests others end other_end =
    (requests ≡ others) × ((end ≡ other_end) ⊎ ((rest : List ℕ) × Begins stream requests rest × LeftOpen rest))

left_open : (stream : List ℕ) (a b : End) → (a ≡ b) ⊎ LeftOpen stream
    → (a ≡ b) ⊎ ((rest : List ℕ) × Begins stream [] rest × LeftOpen rest)
left_open stream a b (inl same) = inl same
left_open stream a b (inr left) = inr (stream, refl, left)

-- one more request in front
after_one : (stream rest : List ℕ) (request : RequestMessage) (requests others : List RequestMessage) (a b : End)
    → RequestAt stream request rest → request.close ≡ false → SameCutting rest requests others a b
    → SameCutting stream (request ∷ requests) (request ∷ others) a b
after_one stream rest request requests others a b at stays (same, inl ends) = (ap (λ l. request ∷ l) same, inl ends)
after_one stream rest request requests others a b at stays (same, inr left) =
    (ap (λ l. request ∷ l) same, inr (left.0, (rest, at, stays, left.1), left.2))

-- what follows the first request, in two cuttings
abbrev pub Behind : List ℕ → Bool → List RequestMessage → End → Type 0
Behind rest close requests end = MatchBool close ((requests ≡ []) × (end ≡ closed)) (Cuts rest requests end)

both_after : (stream rest : List ℕ) (request : RequestMessage) (requests others : List RequestMessage) (a b : End)
    → RequestAt stream request rest → (close : Bool) → request.close ≡ close → Behind rest close requests a
    → Behind rest close others b → (Cuts rest requests a → Cuts rest others b → SameCutting rest requests others a b)
    → SameCutting stream (request ∷ requests) (request ∷ others) a b
both_after stream rest request requests others a b at true closing x y later =
    (ap (λ l. request ∷ l) (x.0 ∙ sym y.0), inl (x.1 ∙ sym y.1))
both_after stream rest request requests others a b at false stays x y later =
    after_one stream rest request requests others a b at stays (later x y)

pub one_cutting : OneCutting
one_cutting stream [] [] end other_end x y = (refl, left_open stream end other_end (one_end stream end other_end x y))
one_cutting stream [] (other ∷ others) end other_end x y = absurd (request_not_end stream other y.0 end y.1 x)
one_cutting stream (request ∷ requests) [] end other_end x y =
    absurd (request_not_end stream request x.0 other_end x.1 y)
one_cutting stream (request ∷ requests) (other ∷ others) end other_end x y =
    let same = one_request stream request other x.0 y.0 x.1 y.1 in
    let there = subst (λ (r : RequestMessage). Behind y.0 r.close others other_end) (sym same.0) y.2 in
    let here = subst (λ (rest : List ℕ). Behind rest request.close others other_end) (sym same.1) there in
    let found = both_after stream x.0 request requests others end other_end x.1 request.close refl x.2 here
    (λ p q. one_cutting x.0 requests others end other_end p q) in
    (found.0 ∙ ap (λ r. r ∷ others) same.0, found.1)

pub requests_stay : RequestsStay
requests_stay stream [] rest more begins = ap (λ t. t ++ more) begins
requests_stay stream (request ∷ requests) rest more begins = (
  begins.0 ++ more,
  request_stays stream request begins.0 more begins.1,
  begins.2,
  requests_stay begins.0 requests rest more begins.3,
)

pub next_request : NextRequest
next_request stream [] rest request behind begins at stays =
    (behind, subst (λ s. RequestAt s request behind) (sym begins) at, stays, refl)
next_request stream (first ∷ requests) rest request behind begins at stays =
    (begins.0, begins.1, begins.2, next_request begins.0 requests rest request behind begins.3 at stays)

-- a request that doesn't close has the cutting of the rest after it
stays_after : (rest : List ℕ) (close : Bool) (requests : List RequestMessage) (end : End) → close ≡ false
    → Cuts rest requests end → Behind rest close requests end
stays_after rest close requests end stays cuts = rw stays cuts

after_stays : (rest : List ℕ) (close : Bool) (requests : List RequestMessage) (end : End) → close ≡ false
    → Behind rest close requests end → Cuts rest requests end
after_stays rest true requests end stays behind = cc
after_stays rest false requests end stays behind = behind

pub cuts_on : CutsOn
cuts_on stream [] rest later end begins cuts = subst (λ s. Cuts s later end) (sym begins) cuts
cuts_on stream (request ∷ requests) rest later end begins cuts = (
  begins.0,
  begins.1,
  stays_after begins.0 request.close (requests ++ later) end begins.2
      (cuts_on begins.0 requests rest later end begins.3 cuts),
)

pub cuts_from : CutsFrom
cuts_from stream [] rest all end begins cuts = (all, refl, subst (λ s. Cuts s all end) begins cuts)
cuts_from stream (request ∷ requests) rest [] end begins cuts =
    absurd (request_not_end stream request begins.0 end begins.1 cuts)
cuts_from stream (request ∷ requests) rest (other ∷ all) end begins cuts =
    let same = one_request stream request other begins.0 cuts.0 begins.1 cuts.1 in
    let there = subst (λ (r : RequestMessage). Behind cuts.0 r.close all end) (sym same.0) cuts.2 in
    let here = subst (λ (b : List ℕ). Behind b request.close all end) (sym same.1) there in
    let later = cuts_from begins.0 requests rest all end begins.3
    (after_stays begins.0 request.close all end begins.2 here) in
    (later.0, (λ i. sym same.0 i ∷ later.1 i), later.2)

bind_ok : {A B : Type 0} (r : Result A HeadFault) (next : A → Result B HeadFault) (y : B) → (r >>= next) ≡ Ok y
    → (x : A) × (r ≡ Ok x) × (next x ≡ Ok y)
bind_ok (Ok x) next y e = (x, refl, e)
bind_ok (Err fault) next y e = absurd (ok_not_err (sym e))

-- nothing is read after a request that closes
pub closes_after : (rest : List ℕ) (close : Bool) → close ≡ true → Behind rest close [] closed
closes_after rest close closing = rw closing (refl, refl)

after_goes_on : (rest : List ℕ) (close : Bool) (requests : List RequestMessage) (end : End) (more : List ℕ)
    → Behind rest close requests end → (Cuts rest requests end → Cuts (rest ++ more) requests end)
    → Behind (rest ++ more) close requests end
after_goes_on rest true requests end more behind on = behind
after_goes_on rest false requests end more behind on = on behind

-- what has ended otherwise than by waiting has ended so with more after it
pub cuts_stay : (stream : List ℕ) (requests : List RequestMessage) (end : End) (more : List ℕ)
    → ((unread : List ℕ) → end ≢ waiting unread) → Cuts stream requests end → Cuts (stream ++ more) requests end
cuts_stay stream [] (waiting unread) more other cuts = absurd (other unread refl)
cuts_stay stream [] (refused fault) more other cuts = refusal_stays stream fault more cuts
cuts_stay stream [] closed more other cuts = cuts
cuts_stay stream (request ∷ requests) end more other cuts = (
  cuts.0 ++ more,
  request_stays stream request cuts.0 more cuts.1,
  after_goes_on cuts.0 request.close requests end more cuts.2 (λ later. cuts_stay cuts.0 requests end more other later),
)

-- no body is over the limit
length_within : (method : Method) (stated : Option ℕ) (size : ℕ) → body_length method stated ≡ Ok size → size ≤ body_limit
length_within Put None size e = absurd (ok_not_err (sym e))
length_within Get None size e = let n = ok_inj e in omega (arith, n)
length_within Delete None size e = let n = ok_inj e in omega (arith, n)
length_within method (Some n) size e = by_test (nat_lt body_limit n) refl e
  where
    by_test : (over : Bool) → nat_lt body_limit n ≡ over
        → (if over then Err BodyTooLarge else Ok n) ≡ Ok size → size ≤ body_limit
    by_test true over e = absurd (ok_not_err (sym e))
    by_test false fits e = let same = ok_inj e in omega (arith, same, ltb-false body_limit n fits)

announced_within : (word : List ℕ) (minor : ℕ) (fields : List NamedField) (method : Method) (size : ℕ)
    → announced word minor fields ≡ Ok (method, size) → size ≤ body_limit
unfolding announced
announced_within word minor fields method size e =
    let sized = λ (m : Method) (stated : Option ℕ). body_length m stated >>= (λ n. Ok (m, n)) in
    let stated = λ (m : Method). stated_length (field_values (codes "content-length") fields) >>= sized m in
    let hosted = λ (m : Method). one_host minor (field_values (codes "host") fields) >>= (λ host. stated m) in
    let coded = λ (m : Method). no_coding (field_values (codes "transfer-encoding") fields) >>= (λ coding. hosted m) in
    let a = bind_ok (method_named word) coded (method, size) e in
    let b = bind_ok (no_coding (field_values (codes "transfer-encoding") fields)) (λ coding. hosted a.0) (method, size) a.2 in
    let c = bind_ok (one_host minor (field_values (codes "host") fields)) (λ host. stated a.0) (method, size) b.2 in
    let d = bind_ok (stated_length (field_values (codes "content-length") fields)) (sized a.0) (method, size) c.2 in
    let f = bind_ok (body_length a.0 d.0) (λ n. Ok (a.0, n)) (method, size) d.2 in
    let n : f.0 ≡ size = ap (λ (p : Method × ℕ). p.1) (ok_inj f.2) in
    let within = length_within a.0 d.0 f.0 f.1 in
    omega (arith, n, within)

lacks_has_room : (stream : List ℕ) → LacksBody stream → length stream < head_limit + body_limit
lacks_has_room stream lacks =
    let head = lacks.head in
    let whole = ap length lacks.stands.reads.1 in
    let within = announced_within head.method head.minor (fields_of head) lacks.method lacks.size lacks.announced in
    omega (arith, whole, within, lacks.short, lacks.stands.size, length-append (print_request head) lacks.rest)

pub waiting_has_room : WaitingHasRoom
unfolding head_limit body_limit unread_limit
waiting_has_room stream (inl none) = omega (arith, none.short)
waiting_has_room stream (inr lacks) = lacks_has_room stream lacks
