-- What events take off connections is read off the events and what was told: there is one such list.
use Rattle.std.proofs.Common.{◌≡◌, ℕ, Bool, true, false, List, [], ◌∷◌, ◌++◌, Option, Some, None, refl, sym, ap, subst, ◌∙◌, arith, ⊎_elim}
use Rattle.std.specs.Prelude.{MatchBool, MatchOption, option_map, option_and_then}
use Rattle.std.proofs.lemmas.Bool.{cases_eq}
use Rattle.ports_http.specs.declared.fault.HeadFault.{HeadFault}
use Rattle.ports_http.specs.declared.fault.HeadFault.TheVariants as fault
use Rattle.ports_http.specs.Messages.{RequestMessage, ReplyMessage}
use Rattle.ports_http.specs.Streams.{Waits}
use Rattle.ports_http.specs.UnreadBytes.{Incoming, behind, Removes}
use Rattle.ports_http.specs.Replies.{reply_text, fault_status, fault_reply, unknown_key, store_failed}
use Rattle.ports_http.proofs.StreamLaws.{one_request, request_not_waits, request_not_refused}
use Rattle.ports_core.specs.declared.connection.Connection.{Connection}
use Rattle.ports_core.specs.declared.event.Event.{Event}
use Rattle.ports_core.specs.declared.event.Event.TheVariants.{Open, Piece, End, Fault, Wrote, Turn}
use Rattle.ports_core.specs.declared.event.Told.{Told}
use Rattle.ports_core.specs.declared.event.Tell.{Tell}
use Rattle.ports_core.specs.declared.event.Refused.{Refused}
use Rattle.ports_core.specs.declared.queue.QueuedRequest.{QueuedRequest}
use Rattle.ports_core.specs.Effects.{Effect}
use Rattle.ports_core.specs.Keys.{tenant_of}
use Rattle.ports_core.specs.Connections.{new_connection, hears, answered, kept, is_ready, with_pending}
use Rattle.ports_core.specs.Tell.{at_once}
use Rattle.ports_core.specs.Intake.{Taken, Nothing, Whole, Refusal, Lost, TakesOff, IsTaken, told_of_tenant, refused_at_once}
use Rattle.ports_core.specs.Intake.{connection_after, entering}
use Rattle.ports_core.specs.Opened.{Book, KeepsConnections, KeepsOthers}
use Rattle.ports_core.specs.Books.{HearsOn, TellsOn, BookStep, conn_of, TakesIn, OneListIsTaken}
use Rattle.ports_core.proofs.Lists.{none_some, some_same}

-- a head refusal isn't 503
refusal_not_failed : (why : HeadFault) → fault_status why ≡ 503 → ⊥
refusal_not_failed fault.Malformed e = absurd (omega (arith, e))
refusal_not_failed fault.HeadTooLarge e = absurd (omega (arith, e))
refusal_not_failed fault.UnknownMethod e = absurd (omega (arith, e))
refusal_not_failed fault.TransferEncoding e = absurd (omega (arith, e))
refusal_not_failed fault.HostCount e = absurd (omega (arith, e))
refusal_not_failed fault.ContentLength e = absurd (omega (arith, e))
refusal_not_failed fault.LengthRequired e = absurd (omega (arith, e))
refusal_not_failed fault.BodyTooLarge e = absurd (omega (arith, e))

status_told : (c : ℕ) (reply other : ReplyMessage) → ◌≡◌ {A = Option Tell} (Some (at_once c reply)) (Some (at_once c other))
    → reply.status ≡ other.status
status_told c reply other e = ap (λ (t : Tell). t.reply.status) (some_same e)

-- a request in a queue, or of an unknown key, isn't told 503
whole_not_lost : (c : ℕ) (place : Option ℕ) → told_of_tenant c place ≡ Some (at_once c store_failed) → ⊥
whole_not_lost c None e = let status : 403 ≡ 503 = status_told c unknown_key store_failed e in absurd (omega (arith, status))
whole_not_lost c (Some tenant) e = none_some e

refused_not_lost : (c : ℕ) (why : HeadFault) → ◌≡◌ {A = Option Tell} (Some (at_once c (fault_reply why))) (Some (at_once c store_failed))
    → ⊥
refused_not_lost c why e = refusal_not_failed why (status_told c (fault_reply why) store_failed e)

-- what waits isn't a request
nothing_not_whole : (s new after : Incoming) (request : RequestMessage) → (new ≡ s) × MatchBool s.over (Unit {0}) (Waits s.unread)
    → Removes s request after → ⊥
nothing_not_whole s new after request none some =
    request_not_waits s.unread request some.rest some.stands (subst (λ b. MatchBool b (Unit {0}) (Waits s.unread)) some.begun none.1)

-- one request is first, and this comes after it
one_removed : (s new after : Incoming) (request other : RequestMessage) → Removes s request new → Removes s other after
    → (request ≡ other) × (new ≡ after)
one_removed s new after request other a b =
    let same = one_request s.unread request other a.rest b.rest a.stands b.stands in
    (same.0, a.after ∙ ap (behind request) same.1 ∙ ap (λ r. behind r b.rest) same.0 ∙ sym b.after)

-- two takings leave the same
pub record SameTaking (keys : List (List ℕ)) (c : ℕ) (connection : Connection) (taken other : Taken) (new after : Incoming) : Type 0 where
  pub enters : (t : ℕ) → entering keys c taken t ≡ entering keys c other t
  pub connection_is : connection_after keys taken (record connection { stream = new }) ≡ connection_after keys other
      (record connection { stream = after })

module _ (keys : List (List ℕ)) (c : ℕ) (connection : Connection) (new after : Incoming) where
  both_take : (taken other : Taken) → TakesOff connection.stream taken new → TakesOff connection.stream other after
      → refused_at_once keys c taken ≡ refused_at_once keys c other
      → SameTaking keys c connection taken other new after
  both_take Nothing Nothing a b told =
      record { enters = λ t. refl; connection_is = ap (λ s. record connection { stream = s }) (a.0 ∙ sym b.0) }
  both_take Nothing (Whole request) a b told = absurd (nothing_not_whole connection.stream new after request a b)
  both_take Nothing (Refusal why) a b told = absurd (none_some told)
  both_take Nothing (Lost close) a b told = absurd (none_some told)
  both_take (Whole request) Nothing a b told = absurd (nothing_not_whole connection.stream after new request b a)
  both_take (Whole request) (Whole other) a b told =
      let same = one_removed connection.stream new after request other a b in
      record {
        enters = λ t. ap (λ r. entering keys c (Whole r) t) same.0;
        connection_is = ap (λ s. connection_after keys (Whole request) (record connection { stream = s })) same.1
            ∙ ap (λ r. connection_after keys (Whole r) (record connection { stream = after })) same.0;
      }
  both_take (Whole request) (Refusal why) a b told = absurd (request_not_refused connection.stream.unread request a.rest why a.stands b.1)
  both_take (Whole request) (Lost close) a b told = absurd (whole_not_lost c (tenant_of keys request.key) told)
  both_take (Refusal why) Nothing a b told = absurd (none_some (sym told))
  both_take (Refusal why) (Whole request) a b told = absurd (request_not_refused connection.stream.unread request b.rest why b.stands a.1)
  both_take (Refusal why) (Refusal other) a b told =
      let reply : fault_reply why ≡ fault_reply other = ap (λ (t : Tell). t.reply) (some_same told) in
      record {
        enters = λ t. refl;
        connection_is = ap (λ s. with_pending (reply_text (fault_reply why) true) (record connection { stream = s })) (a.2 ∙ sym b.2)
            ∙ ap (λ r. with_pending (reply_text r true) (record connection { stream = after })) reply;
      }
  both_take (Refusal why) (Lost close) a b told = absurd (refused_not_lost c why told)
  both_take (Lost close) Nothing a b told = absurd (none_some (sym told))
  both_take (Lost close) (Whole request) a b told = absurd (whole_not_lost c (tenant_of keys request.key) (sym told))
  both_take (Lost close) (Refusal why) a b told = absurd (refused_not_lost c why (sym told))
  both_take (Lost close) (Lost other) a b told =
      let same = one_removed connection.stream new after a.0 b.0 a.1 b.1 in
      let closes : close ≡ other = sym a.2 ∙ ap (λ (r : RequestMessage). r.close) same.0 ∙ b.2 in
      record {
        enters = λ t. refl;
        connection_is = ap (λ s. with_pending (reply_text store_failed close) (record connection { stream = s })) same.1
            ∙ ap (λ k. with_pending (reply_text store_failed k) (record connection { stream = after })) closes;
      }

  same_taking : (taken other : Taken) → IsTaken connection taken new → IsTaken connection other after
      → refused_at_once keys c taken ≡ refused_at_once keys c other
      → SameTaking keys c connection taken other new after
  same_taking taken other a b told =
      let P : Bool → Type 0 = λ k. MatchBool k (TakesOff connection.stream taken new) ((taken ≡ Nothing) × (new ≡ connection.stream))
      → MatchBool k (TakesOff connection.stream other after) ((other ≡ Nothing) × (after ≡ connection.stream))
      → SameTaking keys c connection taken other new after in
      elim (is_ready connection) as P [
        | true ↦ λ x y. both_take taken other x y told
        | false ↦ λ x y. record {
          enters = λ t. ap (λ k. entering keys c k t) (x.0 ∙ sym y.0);
          connection_is = ap (λ s. connection_after keys taken (record connection { stream = s })) (x.1 ∙ sym y.1)
              ∙ ap (λ k. connection_after keys k (record connection { stream = after })) (x.0 ∙ sym y.0);
        }
      ] a b

-- one event does the same to two books that are the same
pub record SameStep (keys : List (List ℕ)) (event : Event) (taken other : Taken) (new after : Book) : Type 0 where
  pub enters : (t : ℕ) → entering keys (conn_of event) taken t ≡ entering keys (conn_of event) other t
  pub books : (d : ℕ) → new d ≡ after d

-- books that agree on one connection, and keep the others, agree
agree : (c : ℕ) (old was new after : Book) → ((d : ℕ) → old d ≡ was d) → KeepsOthers c old new → KeepsOthers c was after → new c ≡ after c
    → (d : ℕ) → new d ≡ after d
agree c old was new after same keeps kept_there here d =
    ⊎_elim (λ e. ap new e ∙ here ∙ ap after (sym e)) (λ apart. keeps d apart ∙ same d ∙ sym (kept_there d apart)) (cases_eq d c)

same_hears : (keys : List (List ℕ)) (event : Event) (c : ℕ) (told : Told) (taken other : Taken) (old was new after : Book)
    → ((d : ℕ) → old d ≡ was d)
    → HearsOn keys event c told taken old new → HearsOn keys event c told other was after
    → ((t : ℕ) → entering keys c taken t ≡ entering keys c other t) × ((d : ℕ) → new d ≡ after d)
same_hears keys event c told taken other old was new after same h k =
    let connection : k.connection ≡ h.connection = some_same (sym k.was_open ∙ sym (same c) ∙ h.was_open) in
    let stands : IsTaken (hears event h.connection) other k.takes.stream = subst (λ l. IsTaken (hears event l) other k.takes.stream)
    connection k.takes.stands in
    let told_same : refused_at_once keys c taken ≡ refused_at_once keys c other = sym h.takes.told_is ∙ k.takes.told_is in
    let takes = same_taking keys c (hears event h.connection) h.takes.stream k.takes.stream taken other h.takes.stands stands told_same in
    let after_is : h.after ≡ k.after =
    h.takes.connection_is ∙ takes.connection_is ∙ ap (λ l. connection_after keys other (record (hears event l) { stream = k.takes.stream }))
    (sym connection) ∙ sym k.takes.connection_is in
    (takes.enters, agree c old was new after same h.others k.others (h.connection_is ∙ ap kept after_is ∙ sym k.connection_is))

same_opens : (c : ℕ) (refused : Option Refused) (old was new after : Book) → ((d : ℕ) → old d ≡ was d)
    → MatchOption refused ((new c ≡ Some new_connection) × KeepsOthers c old new) (λ why. KeepsConnections old new)
    → MatchOption refused ((after c ≡ Some new_connection) × KeepsOthers c was after) (λ why. KeepsConnections was after)
    → (d : ℕ) → new d ≡ after d
same_opens c None old was new after same h k = agree c old was new after same h.1 k.1 (h.0 ∙ sym k.0)
same_opens c (Some why) old was new after same h k = λ d. h d ∙ same d ∙ sym (k d)

same_turns : (reply : Option Tell) (old was new after : Book) → ((d : ℕ) → old d ≡ was d)
    → MatchOption reply (KeepsConnections old new) (λ tell. TellsOn tell old new)
    → MatchOption reply (KeepsConnections was after) (λ tell. TellsOn tell was after)
    → (d : ℕ) → new d ≡ after d
same_turns None old was new after same h k = λ d. h d ∙ same d ∙ sym (k d)
same_turns (Some tell) old was new after same h k =
    agree tell.conn old was new after same h.others k.others
    (h.connection_is ∙ ap (λ o. option_and_then kept (option_map (answered tell.reply) o)) (same tell.conn) ∙ sym k.connection_is)

same_step : (keys : List (List ℕ)) (event : Event) (told : Told) (taken other : Taken) (old was new after : Book)
    → ((d : ℕ) → old d ≡ was d)
    → BookStep keys event told taken old new → BookStep keys event told other was after → SameStep keys event taken other new after
same_step keys (Open c) told taken other old was new after same h k =
    record { enters = λ t. ap (λ x. entering keys c x t) (h.0 ∙ sym k.0); books = same_opens c told.refused old was new after same h.1 k.1 }
same_step keys (Piece c bytes) told taken other old was new after same h k =
    let both = same_hears keys (Piece c bytes) c told taken other old was new after same h k in record { enters = both.0; books = both.1 }
same_step keys (End c) told taken other old was new after same h k =
    let both = same_hears keys (End c) c told taken other old was new after same h k in record { enters = both.0; books = both.1 }
same_step keys (Fault c) told taken other old was new after same h k =
    let both = same_hears keys (Fault c) c told taken other old was new after same h k in record { enters = both.0; books = both.1 }
same_step keys (Wrote c count) told taken other old was new after same h k =
    let both = same_hears keys (Wrote c count) c told taken other old was new after same h k in record { enters = both.0; books = both.1 }
same_step keys (Turn t) told taken other old was new after same h k =
    record { enters = λ u. ap (λ x. entering keys 0 x u) (h.0 ∙ sym k.0); books = same_turns told.reply old was new after same h.1 k.1 }

same_lists : (keys : List (List ℕ)) (t : ℕ) (events : List Event) (steps : List Effect) (old was : Book) (all others : List QueuedRequest)
    → ((d : ℕ) → old d ≡ was d)
    → TakesIn keys t old events steps all → TakesIn keys t was events steps others → all ≡ others
same_lists keys t [] [] old was all others same a b = a ∙ sym b
same_lists keys t [] (step ∷ steps) old was all others same a b = absurd a
same_lists keys t (event ∷ events) [] old was all others same a b = absurd a
same_lists keys t (event ∷ events) (step ∷ steps) old was all others same (taken, next, rest, does, all_is, later)
    (other, after, left, did, others_is, after_it) =
    let one = same_step keys event step.told taken other old was next after same does did in
    all_is ∙ ap (λ xs. xs ++ rest) (one.enters t)
    ∙ ap (λ xs. entering keys (conn_of event) other t ++ xs) (same_lists keys t events steps next after rest left one.books later after_it)
    ∙ sym others_is

pub one_list : OneListIsTaken
one_list keys t book events steps all others a b = same_lists keys t events steps book book all others (λ d. refl) a b
