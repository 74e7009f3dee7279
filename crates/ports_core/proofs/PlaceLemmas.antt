-- The places in which requests wait: they suffice, and each event keeps what is true of them.
use Rattle.std.proofs.Common.{◌≡◌, ◌≢◌, ◌<◌, ◌≤◌, ◌+◌, ℕ, zero, suc, Bool, true, false, not, List, [], ◌∷◌, ◌++◌, length, refl, sym, ap}
use Rattle.std.proofs.Common.{subst, ◌∙◌, arith, eq-eqb, ⊎_elim, append-nil, Option, Some, None, filter}
use Rattle.std.specs.Prelude.{◌==◌, All, MatchBool, Result, Ok, Err, IfOk, is_err, replicate, is_some, option_map, option_and_then}
use Rattle.std.specs.Prelude.{slice_get, if◌then◌else◌, unwrap_or}
use Rattle.std.specs.Ordering.{nat_cmp, is_eq}
use Rattle.std.proofs.Math.ListN.{set}
use Rattle.std.proofs.lemmas.Bool.{false≢true, cases_eq, and_parts}
use Rattle.std.proofs.lemmas.Map.Entries.{lookup_head, lookup_tail}
use Rattle.std.proofs.lemmas.Option.{slice_get_cases, unwrap_or-slice_get}
use Rattle.general_facts.specs.Options.{None_from_is_none}
use Rattle.ports_http.specs.Messages.{RequestMessage, ReplyMessage}
use Rattle.ports_http.specs.UnreadBytes.{Incoming}
use Rattle.ports_core.specs.declared.connection.Connection.{Connection}
use Rattle.ports_core.specs.declared.event.Event.{Event}
use Rattle.ports_core.specs.declared.event.Event.TheVariants.{Open, Piece, End, Fault, Wrote, Turn}
use Rattle.ports_core.specs.declared.event.Told.{Told}
use Rattle.ports_core.specs.declared.queue.QueuedRequest.{QueuedRequest}
use Rattle.ports_core.specs.Keys.{tenant_of}
use Rattle.ports_core.specs.Slices.{Queue}
use Rattle.ports_core.specs.Connections.{hears, answered, kept, is_done, is_ready}
use Rattle.ports_core.specs.Intake.{Taken, Nothing, Whole, Refusal, Lost, TakesOff, IsTaken, connection_with, connection_after, entering_of}
use Rattle.ports_core.specs.Intake.{entering, Joins}
use Rattle.ports_core.specs.Opened.{connection_in, book_in, OpenAnd}
use Rattle.ports_core.specs.Books.{HearsOn}
use Rattle.ports_core.specs.Places.{HasPlace, count_from, may_wait, may_wait_on, AreSeated}
use Rattle.ports_core.proofs.Numbers.{other_number}
use Rattle.ports_core.proofs.Lists.{slice_get-set_same, slice_get-set_other, none_some, some_same, option_from}
use Rattle.ports_core.proofs.OpenedLemmas.{is_eq-nat_cmp_other, is_eq-nat_cmp_same}
use Rattle.ports_core.proofs.QueueLemmas.{queued_requests_after}

-- one where a test passes
abbrev one_if : Bool → ℕ
one_if b = if b then 1 else 0

count-cons : (b : Bool) (w : QueuedRequest) (xs : List QueuedRequest) → length (if b then w ∷ xs else xs) ≡ one_if b + length xs
count-cons true w xs = omega arith
count-cons false w xs = omega arith

count-step : (c : ℕ) (w : QueuedRequest) (ws : List QueuedRequest) → count_from c (w ∷ ws) ≡ one_if (w.conn == c) + count_from c ws
count-step c w ws = count-cons (w.conn == c) w (filter (λ (v : QueuedRequest). v.conn == c) ws)

count-own : (w : QueuedRequest) (ws : List QueuedRequest) → count_from w.conn (w ∷ ws) ≡ 1 + count_from w.conn ws
count-own w ws = count-step w.conn w ws ∙ ap (λ b. one_if b + count_from w.conn ws) (eq-eqb w.conn w.conn refl)

count-joined : (c : ℕ) (w : QueuedRequest) (ws : List QueuedRequest) → count_from c (ws ++ w ∷ []) ≡ count_from c ws + one_if (w.conn == c)
count-joined c w [] = count-step c w [] ∙ omega arith
count-joined c w (x ∷ ws) =
    let ih = count-joined c w ws in
    let a = count-step c x (ws ++ w ∷ []) in
    let b = count-step c x ws in
    omega (arith, ih, a, b)

-- the requests of other connections
abbrev others : ℕ → List QueuedRequest → List QueuedRequest
others k ws = filter (λ (w : QueuedRequest). not (w.conn == k)) ws

split-cons : (b : Bool) (w : QueuedRequest) (xs ys : List QueuedRequest) (n : ℕ) → n ≡ length xs + length ys
    → n + 1 ≡ length (if b then w ∷ xs else xs) + length (if not b then w ∷ ys else ys)
split-cons true w xs ys n e = omega arith
split-cons false w xs ys n e = omega arith

count-split : (k : ℕ) (ws : List QueuedRequest) → length ws ≡ count_from k ws + length (others k ws)
count-split k [] = omega arith
count-split k (w ∷ ws) =
    let ih = count-split k ws in
    let both = split-cons (w.conn == k) w (filter (λ (v : QueuedRequest). v.conn == k) ws) (others k ws) (length ws) ih in
    omega (arith, both)

fewer-cons : (b : Bool) (c : ℕ) (w : QueuedRequest) (os : List QueuedRequest) (n : ℕ) → count_from c os ≤ n
    → count_from c (if not b then w ∷ os else os) ≤ one_if (w.conn == c) + n
fewer-cons true c w os n h = omega arith
fewer-cons false c w os n h = let step = count-step c w os in omega (arith, step, h)

count-others : (k c : ℕ) (ws : List QueuedRequest) → count_from c (others k ws) ≤ count_from c ws
count-others k c [] = omega arith
count-others k c (w ∷ ws) =
    let all = fewer-cons (w.conn == k) c w (others k ws) (count_from c ws) (count-others k c ws) in
    let step = count-step c w ws in
    omega (arith, all, step)

none-cons : (b : Bool) (k : ℕ) (w : QueuedRequest) (os : List QueuedRequest) → (w.conn == k) ≡ b → count_from k os ≡ 0
    → count_from k (if not b then w ∷ os else os) ≡ 0
none-cons true k w os e h = h
none-cons false k w os e h = count-step k w os ∙ ap (λ b. one_if b + count_from k os) e ∙ omega (arith, h)

count-others_same : (k : ℕ) (ws : List QueuedRequest) → count_from k (others k ws) ≡ 0
count-others_same k [] = refl
count-others_same k (w ∷ ws) = none-cons (w.conn == k) k w (others k ws) refl (count-others_same k ws)

-- how many of these connections wait for a tenant
total : ℕ → List (ℕ × Connection) → ℕ
total t [] = 0
total t (e ∷ es) = may_wait t (e.1).waits + total t es

connection_here : (e : ℕ × Connection) (es : List (ℕ × Connection)) → connection_in e.0 (e ∷ es) ≡ Some e.1
connection_here e es = lookup_head (λ k. is_eq (nat_cmp e.0 k)) e es (is_eq-nat_cmp_same e.0)

connection_there : (c : ℕ) (e : ℕ × Connection) (es : List (ℕ × Connection)) → c ≢ e.0 → connection_in c (e ∷ es) ≡ connection_in c es
connection_there c e es ne = lookup_tail (λ k. is_eq (nat_cmp c k)) e es (is_eq-nat_cmp_other c e.0 (λ same. ne (sym same)))

-- what waits for a tenant is no more than the connections that wait for it
bound : (t : ℕ) (es : List (ℕ × Connection)) (ws : List QueuedRequest) → ((c : ℕ) → count_from c ws ≤ may_wait_on t (connection_in c es))
    → length ws ≤ total t es
unfolding total
bound t [] [] h = omega arith
bound t [] (w ∷ ws) h = let here = h w.conn in let own = count-own w ws in absurd (omega (arith, here, own))
bound t (e ∷ es) ws h =
    let own : count_from e.0 ws ≤ may_wait t (e.1).waits = subst (λ o. count_from e.0 ws ≤ may_wait_on t o)
    (connection_here e es) (h e.0) in
    let ih = bound t es (others e.0 ws) (λ c.
    ⊎_elim
    (λ same. let none = ap (λ k. count_from c (others k ws)) (sym same) ∙ count-others_same c ws in omega (arith, none))
    (λ ne. let fewer = count-others e.0 c ws in let all = subst (λ o. count_from c ws ≤ may_wait_on t o) (connection_there c e es ne) (h c)
    in omega (arith, fewer, all))
    (cases_eq c e.0)) in
    let split = count-split e.0 ws in
    omega (arith, own, ih, split)

may_wait-one : (t : ℕ) (waits : Option ℕ) → may_wait t waits ≤ 1
may_wait-one t None = omega arith
may_wait-one t (Some u) = elim (u == t) as (λ b. one_if b ≤ 1) [ true ↦ omega arith | false ↦ omega arith ]

total-le : (t : ℕ) (es : List (ℕ × Connection)) → total t es ≤ length es
unfolding total
total-le t [] = omega arith
total-le t (e ∷ es) = let one = may_wait-one t (e.1).waits in let ih = total-le t es in omega (arith, one, ih)

-- a connection that waits for nothing leaves a place
total-lt : (t c : ℕ) (connection : Connection) (es : List (ℕ × Connection)) → connection_in c es ≡ Some connection → connection.waits ≡ None
    → total t es < length es
unfolding total
total-lt t c connection [] at none = absurd (none_some at)
total-lt t c connection (e ∷ es) at none =
    ⊎_elim
    (λ same.
    let here : Some e.1 ≡ Some connection = sym (connection_here e es) ∙ ap (λ k. connection_in k (e ∷ es)) (sym same) ∙ at in
    let zero_here : may_wait t (e.1).waits ≡ 0 = ap (λ (l : Connection). may_wait t l.waits) (some_same here) ∙ ap (may_wait t) none in
    let le = total-le t es in
    omega (arith, zero_here, le))
    (λ ne. let ih = total-lt t c connection es (sym (connection_there c e es ne) ∙ at) none in let one = may_wait-one t (e.1).waits
    in omega (arith, ih, one))
    (cases_eq c e.0)

-- where a connection waits for nothing, each tenant has a place
pub places_left : (queues : List Queue) (es : List (ℕ × Connection)) (c : ℕ) (connection : Connection) → length es ≤ 16
    → AreSeated queues es → connection_in c es ≡ Some connection → connection.waits ≡ None → All HasPlace queues
places_left queues es c connection few seated at none = λ k d within.
    let fits : (queue : Queue) → slice_get queues k ≡ Some queue → HasPlace queue = λ queue was.
    (let all = bound k es queue (λ q. seated k q queue was) in let lt = total-lt k c connection es at none in omega (arith, all, lt, few))
    in
    ⊎_elim
    (λ found. subst HasPlace (sym (ap (λ o. unwrap_or o d) found.2) ∙ unwrap_or-slice_get queues k d) (fits found.0 found.2))
    (λ past. absurd (let above = past.0 in omega (arith, above, within)))
    ((slice_get_cases queues k).1)

-- a connection that isn't open waits for nothing
shut_waits : (t : ℕ) (o : Option Connection) → is_some o ≡ false → may_wait_on t o ≡ 0
shut_waits t None e = refl
shut_waits t (Some connection) e = absurd (false≢true (sym e))

-- a connection opens
pub opened_seats : (queues : List Queue) (connections after : List (ℕ × Connection)) (n : ℕ) → is_some (connection_in n connections) ≡ false
    → ((d : ℕ) → d ≢ n → connection_in d after ≡ connection_in d connections) → AreSeated queues connections → AreSeated queues after
opened_seats queues connections after n shut same seated = λ t c queue was.
    ⊎_elim
    (λ here. let none = ap (λ k. may_wait_on t (connection_in k connections)) here ∙ shut_waits t (connection_in n connections) shut
    in let all = seated t c queue was in omega (arith, none, all))
    (λ ne. subst (λ o. count_from c queue ≤ may_wait_on t o) (sym (same c ne)) (seated t c queue was))
    (cases_eq c n)

pub opened_fresh : (connections after : List (ℕ × Connection)) (n : ℕ)
    → ((d : ℕ) → d ≢ n → connection_in d after ≡ connection_in d connections)
    → ((c : ℕ) → n ≤ c → is_some (connection_in c connections) ≡ false)
    → (c : ℕ) → n + 1 ≤ c → is_some (connection_in c after) ≡ false
opened_fresh connections after n same fresh c above = ap is_some (same c (λ e. absurd (omega (arith, e, above))))
    ∙ fresh c (omega (arith, above))

-- an event leaves what its connection waits for
pub hears_waits : (event : Event) (connection : Connection) → (hears event connection).waits ≡ connection.waits
hears_waits (Open c) connection = refl
hears_waits (Piece c bytes) connection = refl
hears_waits (End c) connection = refl
hears_waits (Fault c) connection = refl
hears_waits (Wrote c None) connection = refl
hears_waits (Wrote c (Some count)) connection = refl
hears_waits (Turn t) connection = refl

pub ready_waits : (connection : Connection) → is_ready connection ≡ true → connection.waits ≡ None
ready_waits connection ready = None_from_is_none connection.waits (and_parts _ _ (and_parts _ _ ready).0).0

pub ready_after : (event : Event) (connection : Connection) → is_ready (hears event connection) ≡ true → connection.waits ≡ None
ready_after event connection ready = sym (hears_waits event connection) ∙ ready_waits (hears event connection) ready

-- a connection that closes waits for nothing
kept_waits : (t : ℕ) (connection : Connection) → may_wait_on t (kept connection) ≡ may_wait t connection.waits
kept_waits t connection =
    elim (is_done connection) as (λ b. is_done connection ≡ b → may_wait_on t (if b then None else Some connection) ≡
    may_wait t connection.waits) [
      | true ↦ λ done. sym (ap (may_wait t) (None_from_is_none connection.waits (and_parts _ _ (and_parts _ _ done).0).0))
      | false ↦ λ open_still. refl
    ] refl

-- a request that is taken waits in its tenant's queue alone
joins_seats : (c t : ℕ) (place : Option ℕ) (request : RequestMessage) (queue : Queue) → count_from c queue ≡ 0
    → (connection : Connection) → connection.waits ≡ None → count_from c (queue ++ entering_of place c t request) ≤ may_wait t
    (connection_with place request.close connection).waits
joins_seats c t None request queue none connection free = let same = ap (count_from c) (append-nil queue) in omega (arith, none, same)
joins_seats c t (Some u) request queue none connection free =
    elim (u == t) as (λ b. count_from c (queue ++ (if b then record { conn = c; request = request } ∷ [] else [])) ≤ one_if b) [
      | true ↦
          let joins = count-joined c (record { conn = c; request = request }) queue in
          let own : one_if (c == c) ≡ 1 = ap one_if (eq-eqb c c refl) in
          omega (arith, joins, own, none)
      | false ↦ let same = ap (count_from c) (append-nil queue) in omega (arith, none, same)
    ]

module _ (keys : List (List ℕ)) (c t : ℕ) (connection : Connection) (queue : Queue)
    (seated : count_from c queue ≤ may_wait t connection.waits) where
  -- nothing enters
  stays_seated : count_from c (queue ++ []) ≤ may_wait t connection.waits
  stays_seated = subst (λ q. count_from c q ≤ may_wait t connection.waits) (sym (append-nil queue)) seated

  -- what is taken, and what waits then
  taken_ready : (taken : Taken) (stream : Incoming) → connection.waits ≡ None → count_from c (queue ++ entering keys c taken t) ≤ may_wait t
      (connection_after keys taken (record connection { stream = stream })).waits
  taken_ready Nothing stream free = stays_seated
  taken_ready (Whole request) stream free =
      let zero_here : may_wait t connection.waits ≡ 0 = ap (may_wait t) free in
      joins_seats c t (tenant_of keys request.key) request queue (omega (arith, seated, zero_here))
      (record connection { stream = stream }) free
  taken_ready (Refusal fault) stream free = stays_seated
  taken_ready (Lost close) stream free = stays_seated

  taken_seats : (taken : Taken) (stream : Incoming) → IsTaken connection taken stream → count_from c (queue ++ entering keys c taken t) ≤
      may_wait t (connection_after keys taken (record connection { stream = stream })).waits
  taken_seats taken stream stands =
      let Q : Taken → Type 0 = λ k. count_from c (queue ++ entering keys c k t) ≤ may_wait t
      (connection_after keys k (record connection { stream = stream })).waits in
      let P : Bool → Type 0 = λ b. is_ready connection ≡ b → MatchBool b (TakesOff connection.stream taken stream) ((taken ≡ Nothing)
      × (stream ≡ connection.stream)) → Q taken in
      elim (is_ready connection) as P [
        | true ↦ λ ready off. taken_ready taken stream (ready_waits connection ready)
        | false ↦ λ busy off. subst Q (sym off.0) stays_seated
      ] refl stands

-- an event of an open connection, which may close then
module _ (keys : List (List ℕ)) (event : Event) (c : ℕ) (told : Told) (old new : List (ℕ × Connection)) (queues queues_after : List Queue)
    (all : (taken : Taken) × HearsOn keys event c told taken (book_in old) (book_in new) × Joins keys c taken queues queues_after) where
  pub heard_seats : AreSeated queues old → AreSeated queues_after new
  heard_seats seated = λ t d queue was.
      let taken = all.0 in
      let h = all.1 in
      let from = option_from (λ (q : Queue). q ++ entering keys c taken t) (slice_get queues t) queue (sym (all.2 t) ∙ was) in
      ⊎_elim
      (λ same.
      let heard : Connection = hears event h.connection in
      let after : Connection = connection_after keys taken (record heard { stream = h.takes.stream }) in
      let before : count_from c from.0 ≤ may_wait t heard.waits =
      subst (λ w. count_from c from.0 ≤ may_wait t w) (sym (hears_waits event h.connection))
      (subst (λ o. count_from c from.0 ≤ may_wait_on t o) h.was_open (seated t c from.0 from.1)) in
      let then_seated : count_from c (from.0 ++ entering keys c taken t) ≤ may_wait t after.waits =
      taken_seats keys c t heard from.0 before taken h.takes.stream h.takes.stands in
      let seats : may_wait_on t (connection_in c new) ≡ may_wait t after.waits =
      ap (may_wait_on t) h.connection_is ∙ kept_waits t h.after ∙ ap (λ (l : Connection). may_wait t l.waits) h.takes.connection_is in
      let here : count_from c queue ≤ may_wait_on t (connection_in c new) =
      subst (λ n. count_from c queue ≤ n) (sym seats) (subst (λ (q : Queue). count_from c q ≤ may_wait t after.waits) from.2 then_seated) in
      subst (λ k. count_from k queue ≤ may_wait_on t (connection_in k new)) (sym same) here)
      (λ ne.
      let same_count : count_from d queue ≡ count_from d from.0 =
      ap (count_from d) (sym from.2) ∙ ap length (queued_requests_after keys d c taken t from.0 (λ e. ne (sym e))) in
      let connection : connection_in d old ≡ connection_in d new = sym (h.others d ne) in
      subst (λ n. n ≤ may_wait_on t (connection_in d new)) (sym same_count) (subst (λ o. count_from d from.0 ≤ may_wait_on t o) connection
      (seated t d from.0 from.1)))
      (cases_eq d c)

  pub heard_fresh : (next : ℕ) → ((d : ℕ) → next ≤ d → is_some (connection_in d old) ≡ false) → (d : ℕ) → next ≤ d
      → is_some (connection_in d new) ≡ false
  heard_fresh next fresh d above =
      ap is_some ((all.1).others d apart) ∙ fresh d above
    where
      apart : d ≢ c
      apart same = false≢true (sym (fresh d above) ∙ ap (λ k. is_some (connection_in k old)) same ∙ ap is_some (all.1).was_open)

-- one request of a connection waits for one tenant
one_tenant : (t u : ℕ) (waits : Option ℕ) → u ≢ t → 1 ≤ may_wait t waits → may_wait u waits ≡ 0
one_tenant t u None ne h = refl
one_tenant t u (Some v) ne h =
    ⊎_elim
    (λ same. ap one_if (other_number v u (λ e. ne (sym e ∙ same))))
    (λ apart. let none : one_if (v == t) ≡ 0 = ap one_if (other_number v t apart) in absurd (omega (arith, none, h)))
    (cases_eq v t)

one_tenant_on : (t u : ℕ) (o : Option Connection) → u ≢ t → 1 ≤ may_wait_on t o → may_wait_on u o ≡ 0
one_tenant_on t u None ne h = refl
one_tenant_on t u (Some connection) ne h = one_tenant t u connection.waits ne h

may_wait_on-one : (t : ℕ) (o : Option Connection) → may_wait_on t o ≤ 1
may_wait_on-one t None = omega arith
may_wait_on-one t (Some connection) = may_wait-one t connection.waits

is_some-answered : (reply : ReplyMessage) (o : Option Connection) → is_some o ≡ false
    → is_some (option_and_then kept (option_map (answered reply) o)) ≡ false
is_some-answered reply None e = refl
is_some-answered reply (Some connection) e = absurd (false≢true (sym e))

-- a turn that answers the first request of a tenant
module _ (t : ℕ) (queues : List Queue) (queue after : Queue) (first : QueuedRequest) (reply : ReplyMessage)
    (connections new : List (ℕ × Connection))
    (within : t < length queues) (was : slice_get queues t ≡ Some queue) (waited : queue ≡ first ∷ after)
    (connection_is : connection_in first.conn new ≡ option_and_then kept
    (option_map (answered reply) (connection_in first.conn connections)))
    (others_are : (d : ℕ) → d ≢ first.conn → connection_in d new ≡ connection_in d connections) where
  module _ (seated : AreSeated queues connections) where
    its_seat : 1 + count_from first.conn after ≤ may_wait_on t (connection_in first.conn connections)
    its_seat =
        let all = seated t first.conn queue was in
        let own = ap (count_from first.conn) waited ∙ count-own first after in
        omega (arith, all, own)

    -- none of that connection's requests is left
    none_left : (u : ℕ) (s : Queue) → slice_get (set queues t after) u ≡ Some s → count_from first.conn s ≡ 0
    none_left u s is =
        ⊎_elim
        (λ same.
        let mine : after ≡ s = some_same (sym (slice_get-set_same queues t after within)
        ∙ ap (slice_get (set queues t after)) (sym same) ∙ is) in
        let one = may_wait_on-one t (connection_in first.conn connections) in
        let seat = its_seat in
        ap (λ q. count_from first.conn q) (sym mine) ∙ omega (arith, one, seat))
        (λ ne.
        let seat = its_seat in
        let all = seated u first.conn s (sym (slice_get-set_other queues t u after ne) ∙ is) in
        let none = one_tenant_on t u (connection_in first.conn connections) ne (omega (arith, seat)) in
        omega (arith, all, none))
        (cases_eq u t)

    -- those of another connection are at most as many as before
    no_more : (u d : ℕ) (s : Queue) → slice_get (set queues t after) u ≡ Some s
        → count_from d s ≤ may_wait_on u (connection_in d connections)
    no_more u d s is =
        ⊎_elim
        (λ same.
        let mine : after ≡ s = some_same (sym (slice_get-set_same queues t after within)
        ∙ ap (slice_get (set queues t after)) (sym same) ∙ is) in
        let all = seated t d queue was in
        let step = ap (count_from d) waited ∙ count-step d first after in
        let fewer : count_from d after ≤ may_wait_on t (connection_in d connections) = omega (arith, all, step) in
        subst (λ k. count_from d s ≤ may_wait_on k (connection_in d connections)) (sym same)
        (subst (λ q. count_from d q ≤ may_wait_on t (connection_in d connections)) mine fewer))
        (λ ne. seated u d s (sym (slice_get-set_other queues t u after ne) ∙ is))
        (cases_eq u t)

    pub answered_seats : AreSeated (set queues t after) new
    answered_seats = λ u d s is.
        ⊎_elim
        (λ same. let none = ap (λ k. count_from k s) same ∙ none_left u s is in omega (arith, none))
        (λ ne. subst (λ o. count_from d s ≤ may_wait_on u o) (sym (others_are d ne)) (no_more u d s is))
        (cases_eq d first.conn)

  pub answered_fresh : (next : ℕ) → ((d : ℕ) → next ≤ d → is_some (connection_in d connections) ≡ false) → (d : ℕ) → next ≤ d
      → is_some (connection_in d new) ≡ false
  answered_fresh next fresh d above =
      ⊎_elim
      (λ same. ap (λ k. is_some (connection_in k new)) same ∙ ap is_some connection_is
      ∙ is_some-answered reply (connection_in first.conn connections) (fresh first.conn (subst (λ k. next ≤ k) same above)))
      (λ ne. ap is_some (others_are d ne) ∙ fresh d above)
      (cases_eq d first.conn)

-- the same queues
pub same_seats : (queues after : List Queue) (connections : List (ℕ × Connection)) → ((u : ℕ) → slice_get after u ≡ slice_get queues u)
    → AreSeated queues connections → AreSeated after connections
same_seats queues after connections same seated = λ t c queue was. seated t c queue (sym (same t) ∙ was)

-- an open connection that waits for nothing leaves a place in each queue
pub open_places : (queues lent : List Queue) (es : List (ℕ × Connection)) (c : ℕ) (P : Connection → Type 0) → lent ≡ queues → length es ≤ 16
    → AreSeated queues es → OpenAnd (connection_in c es) P
    → OpenAnd (connection_in c es) (λ connection. connection.waits ≡ None → All HasPlace lent)
open_places queues lent es c P same few seated is_open =
    elim (connection_in c es) as (λ o. connection_in c es ≡ o → OpenAnd o P
    → OpenAnd o (λ connection. connection.waits ≡ None → All HasPlace lent)) [
      | None ↦ λ at shut. shut
      | Some connection ↦ λ at fits none. subst (λ ss. All HasPlace ss) (sym same) (places_left queues es c connection few seated at none)
    ] refl is_open

-- one more connection at most
pub one_more : {A E : Type 0} (r : Result (Option A) E) (n m : ℕ) → is_err r ≡ false
    → IfOk r (λ old. n ≡ m + (if is_some old then 0 else 1)) → n ≤ m + 1
one_more (Ok (Some x)) n m fine h = omega (arith, h)
one_more (Ok None) n m fine h = omega (arith, h)
one_more (Err e) n m fine h = absurd (cc)

-- no connection is open, and nothing waits
pub begun_seats : (n : ℕ) (queues : List Queue) (es : List (ℕ × Connection)) → queues ≡ replicate n [] → AreSeated queues es
begun_seats n queues es is = λ t c queue was.
    let none : queue ≡ [] = empty_in n t queue (sym (ap (λ qs. slice_get qs t) is) ∙ was) in
    let zero_here = ap (count_from c) none in omega (arith, zero_here)
  where
    empty_in : (n t : ℕ) (queue : Queue) → slice_get (replicate n []) t ≡ Some queue → queue ≡ []
    empty_in zero t queue was = absurd (none_some was)
    empty_in (suc n) zero queue was = sym (some_same was)
    empty_in (suc n) (suc t) queue was = empty_in n t queue was

pub begun_fresh : (es : List (ℕ × Connection)) → es ≡ [] → (c : ℕ) → is_some (connection_in c es) ≡ false
begun_fresh es none c = ap (λ ls. is_some (connection_in c ls)) none
