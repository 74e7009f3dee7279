-- The fields of a `Conn` and what is seen of them.
use Rattle.std.proofs.Common.{◌≡◌, ℕ, ◌+◌, ◌-◌, ◌≤◌, Bool, true, false, MatchBool, if◌then◌else◌, List, ◌++◌, length, take, drop, refl, ap}
use Rattle.std.proofs.Common.{subst, inl, inr, nat_lt, ◌∙◌, arith, length-append, Vec, vec_len, vec_capacity}
use Rattle.std.proofs.lemmas.List.{length-drop, drop-append-le, take_rest}
use Rattle.std.specs.declared.alloc.Global.{Global}
use Rattle.ports_http.specs.declared.conn.Conn.TheInside.{Inside}
use Rattle.ports_http.specs.Limits.{unread_limit}
use Rattle.ports_http.specs.UnreadBytes.{Incoming, room_of, fed, ended, passed, Removes}
use Rattle.ports_http.specs.Messages.{RequestMessage}
use Rattle.ports_http.specs.Streams.{RequestAt, Waits}
use Rattle.ports_http.specs.Spans.{IsMissing}
use Rattle.ports_http.proofs.StreamLaws.{head_stays}
use borrow.Author.Tests.{ltb-true, ltb-false}
use Rattle.ports_http.specs.ConnView.{conn_view, IsConn}

-- the room, where the stream isn't over
pub room_left : (c : Inside) → c.over ≡ false → unread_limit - (vec_len c.buffer - c.start) ≡ room_of (conn_view c)
room_left c e = rw (e, length-drop c.start c.buffer.items) (ap (λ n. unread_limit - (n - c.start)) c.buffer.ok.0)

-- what comes within the room stays within the limit
pub within_limit : (over : Bool) (limit held more : ℕ) → held ≤ limit → more ≤ (if over then 0 else limit - held)
    → held + more ≤ limit
within_limit true limit held more h fits = omega arith
within_limit false limit held more h fits = omega arith

-- the unread bytes of a `Conn`
pub unread_held : (c : Inside) → IsConn c → length (drop c.start c.buffer.items) + c.start ≡ vec_len c.buffer
unread_held c ok = omega (arith, ok.start, c.buffer.ok.0, length-drop c.start c.buffer.items)

-- what is fed within the room
pub fed_within : (c : Inside) (more : ℕ) → IsConn c → more ≤ room_of (conn_view c)
    → length (drop c.start c.buffer.items) + more ≤ unread_limit
fed_within c more ok fits =
    within_limit c.over unread_limit (length (drop c.start c.buffer.items)) more
    (omega (arith, ok.held, unread_held c ok)) fits

-- what is fed comes last
pub fed_view : (c : Inside) (buffer new : Vec ℕ Global) (start missing : ℕ) (bytes : List ℕ) → start ≤ vec_len buffer
    → drop start buffer.items ≡ drop c.start c.buffer.items → new.items ≡ buffer.items ++ bytes
    → conn_view (record { buffer = new; start = start; missing = missing; over = c.over }) ≡ fed (conn_view c) bytes
fed_view c buffer new start missing bytes within kept items =
    let inside : start ≤ length buffer.items = omega (arith, within, buffer.ok.0) in
    let behind : drop start new.items ≡ drop c.start c.buffer.items ++ bytes =
    rw (items, drop-append-le start buffer.items bytes inside, kept) refl in
    λ i. record { unread = behind i; over = c.over }

-- what is fed isn't missing any longer
missing_on : (stream bytes : List ℕ) (missing : ℕ) → IsMissing stream missing
    → IsMissing (stream ++ bytes) (missing - length bytes)
missing_on stream bytes missing (inl none) = inl (omega (arith, none))
missing_on stream bytes missing (inr some) = by_test (nat_lt (length bytes) missing) refl
  where
    by_test : (more : Bool) → nat_lt (length bytes) missing ≡ more → IsMissing (stream ++ bytes) (missing - length bytes)
    by_test false all = inl (omega (arith, ltb-false (length bytes) missing all))
    by_test true more =
        let fewer = ltb-true (length bytes) missing more in
        let lacks = some.0 in
        let size = length-append lacks.rest bytes in
        inr (
          record {
            head = lacks.head;
            rest = lacks.rest ++ bytes;
            method = lacks.method;
            size = lacks.size;
            stands = head_stays stream lacks.head lacks.rest bytes lacks.stands;
            announced = lacks.announced;
            short = omega (arith, some.1, fewer, size);
          },
          omega (arith, some.1, fewer, size),
        )

-- and the fields stay right
pub fed_ok : (c : Inside) (buffer new : Vec ℕ Global) (start missing : ℕ) (bytes : List ℕ) → IsConn c
    → length bytes ≤ room_of (conn_view c) → start ≤ vec_len buffer
    → drop start buffer.items ≡ drop c.start c.buffer.items → new.items ≡ buffer.items ++ bytes
    → vec_capacity c.buffer ≤ vec_capacity new → missing ≡ c.missing - length bytes
    → IsConn (record { buffer = new; start = start; missing = missing; over = c.over })
fed_ok c buffer new start missing bytes ok fits within kept items room fewer =
    let sum = fed_within c (length bytes) ok fits in
    let size = ap length items in
    let unread = ap length kept in
    let total : vec_len new ≡ vec_len buffer + length bytes =
    omega (arith, size, new.ok.0, buffer.ok.0, length-append buffer.items bytes) in
    let held : length (drop start buffer.items) + start ≡ vec_len buffer =
    omega (arith, within, buffer.ok.0, length-drop start buffer.items) in
    let inside : start ≤ length buffer.items = omega (arith, within, buffer.ok.0) in
    let behind : drop c.start c.buffer.items ++ bytes ≡ drop start new.items =
    rw (items, drop-append-le start buffer.items bytes inside, kept) refl in
    let on = missing_on (drop c.start c.buffer.items) bytes c.missing ok.missing in
    record {
      start = omega (arith, within, total);
      held = omega (arith, sum, unread, total, held);
      missing = rw fewer (subst (λ s. IsMissing s (c.missing - length bytes)) behind on);
      reserved = omega (arith, ok.reserved, room);
    }

-- a slice from a place on
pub slice_from : (xs ys : List ℕ) (i : ℕ) → xs ≡ ys → take (length xs - i) (drop i xs) ≡ drop i ys
slice_from xs ys i e = rw e (take_rest ys i)

-- what is passed over after a request was found is the request taken off
pub removes : (old new : Incoming) (stream : List ℕ) (request : RequestMessage) (size : ℕ) → old.over ≡ false
    → old.unread ≡ stream → RequestAt stream request (drop size stream) → new ≡ passed old size request.close
    → Removes old request new
removes old new stream request size begun same stands after = record {
  begun = begun;
  rest = drop size stream;
  stands = rw same stands;
  after = after ∙ passed_after request.close;
}
  where
    passed_after : (close : Bool) → passed old size close
        ≡ (if close then ended else record { unread = drop size stream; over = false })
    passed_after true = refl
    passed_after false = λ i. record { unread = drop size (same i); over = begun i }

-- a connection that isn't over waits as its unread bytes do
pub waits_unless_over : (incoming : Incoming) (stream : List ℕ) → incoming.over ≡ false → incoming.unread ≡ stream
    → Waits stream → MatchBool incoming.over (Unit {0}) (Waits incoming.unread)
waits_unless_over incoming stream begun same waits = rw (begun, same) waits
