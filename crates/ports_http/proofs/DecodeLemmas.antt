-- A stream that is decoded one request after another.
use Rattle.std.proofs.Common.{◌≡◌, ◌≢◌, ℕ, zero, suc, ◌==◌, ◌+◌, ◌<◌, Bool, true, false, if◌then◌else◌, MatchBool, List, [], ◌∷◌, ◌++◌}
use Rattle.std.proofs.Common.{length, take, flat_map, get_or, refl, ap, sym, subst, arith, length-append, append-nil, Some, Result, Ok, Err}
use Rattle.std.proofs.lemmas.List.{take_more}
use Rattle.std.proofs.lemmas.Grind.{flat_map-append}
use Rattle.httparse.specs.Grammar.{RequestHead, print_request}
use Rattle.ports_http.specs.declared.fault.HeadFault.{HeadFault}
use Rattle.ports_http.specs.declared.stream.StreamEnd.{StreamEnd}
use Rattle.ports_http.specs.declared.stream.StreamEnd.TheVariants as ends
use Rattle.ports_http.specs.Messages.{RequestMessage}
use Rattle.ports_http.specs.Streams.{RequestAt, Waits, waiting, refused, closed, Cuts, Begins}
use Rattle.ports_http.specs.UnreadBytes.{Incoming, room_of, ended, fed, Takes}
use Rattle.ports_http.specs.DecodedStream.{end_of, Decodes, with_found, end_after, WaitsOrIsOver, DecodedSoFar}
use Rattle.ports_http.proofs.StreamLaws.{requests_stay, next_request, cuts_on, cuts_stay, closes_after, waiting_has_room}

-- a head has bytes
head_has_bytes : (head : RequestHead) → 0 < length (print_request head)
unfolding print_request
head_has_bytes head = grind (arith, length-append)

-- a request takes bytes off
pub request_takes : (stream : List ℕ) (request : RequestMessage) (rest : List ℕ) → RequestAt stream request rest
    → length rest < length stream
request_takes stream request rest at =
    let whole = ap length at.stands.reads.1 in
    omega (
      arith,
      whole,
      head_has_bytes at.head,
      length-append (print_request at.head) (request.body ++ rest),
      length-append request.body rest,
    )

-- the bytes unread, and one where the stream isn't over
abbrev pub left_of : Incoming → ℕ
left_of incoming = length incoming.unread + (if incoming.over then 0 else 1)

removed_falls : (old : Incoming) (request : RequestMessage) (rest : List ℕ) (close : Bool) → old.over ≡ false
    → length rest < length old.unread
    → left_of (if close then ended else record { unread = rest; over = false }) < left_of old
removed_falls old request rest true begun takes = rw begun (omega arith)
removed_falls old request rest false begun takes = rw begun (omega (arith, takes))

pub found_falls : (old : Incoming) (found : Result RequestMessage HeadFault) (new : Incoming) → Takes old (Some found) new
    → left_of new < left_of old
found_falls old (Ok request) new takes =
    rw takes.after
    (removed_falls old request takes.rest request.close takes.begun (request_takes old.unread request takes.rest takes.stands))
found_falls old (Err fault) new takes = rw (takes.2, takes.0) (omega arith)

begun_so_far : (stream : List ℕ) (old : Incoming) (requests : List RequestMessage) (end : StreamEnd) → old.over ≡ false
    → DecodedSoFar stream old requests end → (end ≡ ends.Waiting) × Begins stream requests old.unread
begun_so_far stream old requests end begun so_far =
    subst (λ b. MatchBool b ((end ≢ ends.Waiting) × Cuts stream requests (end_of end []))
    ((end ≡ ends.Waiting) × Begins stream requests old.unread)) begun so_far

request_on : (stream : List ℕ) (unread : List ℕ) (request : RequestMessage) (rest : List ℕ) (requests : List RequestMessage)
    (close : Bool) → request.close ≡ close → Begins stream requests unread → RequestAt unread request rest
    → DecodedSoFar stream (if close then ended else record { unread = rest; over = false }) (requests ++ request ∷ [])
    (if close then ends.Closed else ends.Waiting)
request_on stream unread request rest requests true closing begins at =
    let last : Cuts unread (request ∷ []) closed =
    (rest, at, closes_after rest request.close closing) in
    (λ e. cc, cuts_on stream requests unread (request ∷ []) closed begins last)
request_on stream unread request rest requests false stays begins at =
    (refl, next_request stream requests unread request rest begins at stays)

-- what was found is decoded, too
pub so_far_on : (stream : List ℕ) (old new : Incoming) (found : Result RequestMessage HeadFault)
    (requests : List RequestMessage) (end : StreamEnd) → Takes old (Some found) new → DecodedSoFar stream old requests end
    → DecodedSoFar stream new (with_found requests found) (end_after found)
so_far_on stream old new (Ok request) requests end takes so_far =
    let before = begun_so_far stream old requests end takes.begun so_far in
    subst (λ (n : Incoming). DecodedSoFar stream n (requests ++ request ∷ []) (end_after (Ok request))) (sym takes.after)
    (request_on stream old.unread request takes.rest requests request.close refl before.1 takes.stands)
so_far_on stream old new (Err fault) requests end takes so_far =
    let before = begun_so_far stream old requests end takes.0 so_far in
    let cut = cuts_on stream requests old.unread [] (refused fault) before.1 takes.1 in
    subst (λ (n : Incoming). DecodedSoFar stream n requests (ends.Refused fault)) (sym takes.2)
    (λ e. cc, subst (λ l. Cuts stream l (refused fault)) (append-nil requests) cut)

-- a connection that has settled and isn't over has room
pub settled_has_room : (incoming : Incoming) → incoming.over ≡ false → WaitsOrIsOver incoming → 0 < room_of incoming
settled_has_room incoming begun settled =
    let waits = subst (λ b. MatchBool b (Unit {0}) (Waits incoming.unread)) begun settled in
    let room = waiting_has_room incoming.unread waits in
    rw begun (omega (arith, room))

-- what is fed is decoded, too
pub fed_on : (stream : List ℕ) (incoming : Incoming) (requests : List RequestMessage) (end : StreamEnd) (bytes : List ℕ)
    → incoming.over ≡ false → DecodedSoFar stream incoming requests end
    → DecodedSoFar (stream ++ bytes) (fed incoming bytes) requests end
fed_on stream incoming requests end bytes begun so_far =
    let before = begun_so_far stream incoming requests end begun so_far in
    rw begun (before.0, requests_stay stream requests incoming.unread bytes before.1)

not_waiting : (end : StreamEnd) → end ≢ ends.Waiting → (unread : List ℕ) → end_of end [] ≢ waiting unread
not_waiting ends.Waiting other unread e = other refl
not_waiting (ends.Refused fault) other unread e = cc
not_waiting ends.Closed other unread e = cc

-- where the stream is over, more bytes change nothing
pub over_stays : (stream : List ℕ) (incoming : Incoming) (requests : List RequestMessage) (end : StreamEnd) (more : List ℕ)
    → incoming.over ≡ true → DecodedSoFar stream incoming requests end → DecodedSoFar (stream ++ more) incoming requests end
over_stays stream incoming requests end more over so_far =
    let cuts = subst (λ b. MatchBool b ((end ≢ ends.Waiting) × Cuts stream requests (end_of end []))
    ((end ≡ ends.Waiting) × Begins stream requests incoming.unread)) over so_far in
    rw over (cuts.0, cuts_stay stream requests (end_of end []) more (not_waiting end cuts.0) cuts.1)

-- the whole stream, once the connection has settled
pub settled_decodes : (stream : List ℕ) (incoming : Incoming) (requests : List RequestMessage) (end : StreamEnd)
    → WaitsOrIsOver incoming → DecodedSoFar stream incoming requests end → Decodes stream requests end
settled_decodes stream incoming requests end settled so_far = by_over incoming.over refl
  where
    by_over : (over : Bool) → incoming.over ≡ over → Decodes stream requests end
    by_over true over =
        let cuts = subst (λ b. MatchBool b ((end ≢ ends.Waiting) × Cuts stream requests (end_of end []))
        ((end ≡ ends.Waiting) × Begins stream requests incoming.unread)) over so_far in
        ([], cuts.1)
    by_over false begun =
        let waits = subst (λ b. MatchBool b (Unit {0}) (Waits incoming.unread)) begun settled in
        let before = begun_so_far stream incoming requests end begun so_far in
        let all = cuts_on stream requests incoming.unread [] (waiting incoming.unread) before.1 (refl, waits) in
        let cut = subst (λ l. Cuts stream l (waiting incoming.unread)) (append-nil requests) all in
        (incoming.unread, subst (λ e. Cuts stream requests (end_of e incoming.unread)) (sym before.0) cut)

-- a piece that isn't empty, by its test
pub not_empty : (n : ℕ) → false ≡ (n == 0) → 0 < n
not_empty zero e = cc
not_empty (suc n) e = omega arith

-- the bytes of the pieces up to the next one
pub pieces_next : {X : Type 0} (f : X → List ℕ) (xs : List X) (i : ℕ) (d : X) (bytes : List ℕ) → i < length xs
    → bytes ≡ f (get_or xs i d) → flat_map f (take i xs) ++ bytes ≡ flat_map f (take (i + 1) xs)
pieces_next f xs i d bytes h e =
    rw (take_more xs i d h, flat_map-append f (take i xs) (get_or xs i d ∷ []), append-nil (f (get_or xs i d)), e) refl
