-- What one connection asked and was told, as far as a run has come.
use Rattle.std.proofs.Common.{◌≡◌, ◌≢◌, ℕ, true, false, List, [], ◌∷◌, ◌++◌, refl, sym, ap, subst, ◌∙◌, append_assoc, append-nil}
use Rattle.std.specs.Prelude.{map, if◌then◌else◌}
use Rattle.std.specs.List.{flat_map}
use Rattle.std.proofs.lemmas.Bool.{false≢true}
use Rattle.std.proofs.lemmas.Grind.{flat_map-append}
use Rattle.ports_http.specs.declared.fault.HeadFault.{HeadFault}
use Rattle.ports_http.specs.Messages.{RequestMessage, ReplyMessage}
use Rattle.ports_http.specs.Streams.{End, waiting, refused, closed, Begins, Refuses, RequestAt}
use Rattle.ports_http.specs.UnreadBytes.{Incoming, opening_stream, ended, fed, behind, Removes}
use Rattle.ports_http.specs.Replies.{reply_text, fault_reply}
use Rattle.ports_http.proofs.StreamLaws.{requests_stay, next_request, cuts_on, closes_after}
use Rattle.ports_core.specs.declared.event.Tell.{Tell}
use Rattle.ports_core.specs.declared.queue.QueuedRequest.{QueuedRequest}
use Rattle.ports_core.specs.Tell.{at_once}
use Rattle.ports_core.specs.Plainly.{IsFrontOf}
use Rattle.ports_core.specs.Conversations.{Exchange, written, refusal_told, refusal_written, stream_left, IsCutTo, IsAnsweredOn}
use Rattle.ports_core.specs.Conversations.{AreAnsweredOn}

-- the requests of these exchanges
abbrev pub requests_in : List Exchange → List RequestMessage
requests_in exchanges = map (λ (exchange : Exchange). exchange.request) exchanges

-- their replies
abbrev pub tells_in : List Exchange → List Tell
tells_in exchanges = map (λ (exchange : Exchange). exchange.tell) exchanges

requests-more : (exchanges : List Exchange) (exchange : Exchange) → requests_in (exchanges ++ exchange ∷ []) ≡ requests_in exchanges
    ++ exchange.request ∷ []
requests-more [] exchange = refl
requests-more (e ∷ exchanges) exchange = ap (λ rs. e.request ∷ rs) (requests-more exchanges exchange)

tells-more : (exchanges : List Exchange) (exchange : Exchange) → tells_in (exchanges ++ exchange ∷ []) ≡ tells_in
    exchanges ++ exchange.tell ∷ []
tells-more [] exchange = refl
tells-more (e ∷ exchanges) exchange = ap (λ ts. e.tell ∷ ts) (tells-more exchanges exchange)

answers-more : (keys : List (List ℕ)) (Plain : ℕ → QueuedRequest → ReplyMessage → Type 0) (c : ℕ)
    (exchanges : List Exchange) (exchange : Exchange)
    → AreAnsweredOn keys Plain c exchanges → IsAnsweredOn keys Plain c exchange → AreAnsweredOn keys Plain c (exchanges ++ exchange ∷ [])
answers-more keys Plain c [] exchange all one = (one, tt)
answers-more keys Plain c (e ∷ exchanges) exchange all one = (all.0, answers-more keys Plain c exchanges exchange all.1 one)

-- no head refusal ended the stream
pub record IsUnrefused (c : ℕ) (end : End) : Type 0 where
  pub told : refusal_told c end ≡ []
  pub written_is : refusal_written end ≡ []

-- a stream that isn't over goes on
goes_on : (end : End) (left : Incoming) → left ≡ stream_left end → left.over ≡ false → end ≡ waiting left.unread
goes_on (waiting unread) left is open_end = ap (λ (s : Incoming). waiting s.unread) (sym is)
goes_on (refused fault) left is open_end = absurd (false≢true (sym open_end ∙ ap (λ (s : Incoming). s.over) is))
goes_on closed left is open_end = absurd (false≢true (sym open_end ∙ ap (λ (s : Incoming). s.over) is))

-- a request is taken off a stream that goes on
pub record NextCut (c : ℕ) (came : List ℕ) (requests : List RequestMessage) (request : RequestMessage) (left : Incoming) : Type 0 where
  pub end : End
  pub left_is : left ≡ stream_left end
  pub cut : IsCutTo came (requests ++ request ∷ []) end
  pub unrefused : IsUnrefused c end

next_cut : (c : ℕ) (came : List ℕ) (requests : List RequestMessage) (unread : List ℕ) (request : RequestMessage) (rest : List ℕ)
    → Begins came requests unread → RequestAt unread request rest
    → NextCut c came requests request (behind request rest)
next_cut c came requests unread request rest begins stands =
    elim (request.close) as (λ b. request.close ≡ b
    → NextCut c came requests request (if b then ended else record { unread = rest; over = false })) [
      | true ↦ λ closing. record {
        end = closed;
        left_is = refl;
        cut = cuts_on came requests unread (request ∷ []) closed begins (rest, stands, closes_after rest request.close closing);
        unrefused = record { told = refl; written_is = refl };
      }
      | false ↦ λ stays. record {
        end = waiting rest;
        left_is = refl;
        cut = next_request came requests unread request rest begins stands stays;
        unrefused = record { told = refl; written_is = refl };
      }
    ] refl

-- the bytes that came, the bytes that were sent, the replies that were told, the bytes that are pending, the
-- request that waits, and what is left of the stream
pub record Talk (keys : List (List ℕ)) (Plain : ℕ → QueuedRequest → ReplyMessage → Type 0) (c : ℕ) (came sent : List ℕ) (tells : List Tell)
    (pending : List ℕ) (waits : List RequestMessage) (left : Incoming) : Type 0 where
  pub exchanges : List Exchange
  pub end : End
  pub left_is : left ≡ stream_left end
  pub cut : IsCutTo came (requests_in exchanges ++ waits) end
  pub told : tells ≡ tells_in exchanges ++ refusal_told c end
  pub answers : AreAnsweredOn keys Plain c exchanges
  pub bytes : sent ++ pending ≡ flat_map written exchanges ++ refusal_written end
  pub still : waits ≢ [] → IsUnrefused c end

some_waits : (request : RequestMessage) → request ∷ [] ≢ []
some_waits request e = cc

-- one more reply in the bytes
bytes-more : (exchanges : List Exchange) (exchange : Exchange) (end : End) → refusal_written end ≡ []
    → (flat_map written exchanges ++ refusal_written end) ++ written exchange ≡ flat_map written
    (exchanges ++ exchange ∷ []) ++ refusal_written end
bytes-more exchanges exchange end none =
    ap (λ bs. bs ++ written exchange) (ap (λ bs. flat_map written exchanges ++ bs) none ∙ append-nil (flat_map written exchanges))
    ∙ ap (λ bs. flat_map written exchanges ++ bs) (sym (append-nil (written exchange)))
    ∙ sym (flat_map-append written exchanges (exchange ∷ []))
    ∙ sym (ap (λ bs. flat_map written (exchanges ++ exchange ∷ []) ++ bs) none ∙ append-nil (flat_map written (exchanges ++ exchange ∷ [])))

-- and among what was told
told-more : (c : ℕ) (exchanges : List Exchange) (exchange : Exchange) (end : End) (tells : List Tell) → refusal_told c end ≡ []
    → tells ≡ tells_in exchanges ++ refusal_told c end
    → tells ++ exchange.tell ∷ [] ≡ tells_in (exchanges ++ exchange ∷ []) ++ refusal_told c end
told-more c exchanges exchange end tells none told =
    ap (λ ts. ts ++ exchange.tell ∷ []) (told ∙ ap (λ ts. tells_in exchanges ++ ts) none ∙ append-nil (tells_in exchanges))
    ∙ sym (tells-more exchanges exchange)
    ∙ sym (ap (λ ts. tells_in (exchanges ++ exchange ∷ []) ++ ts) none ∙ append-nil (tells_in (exchanges ++ exchange ∷ [])))

module _ (keys : List (List ℕ)) (Plain : ℕ → QueuedRequest → ReplyMessage → Type 0) (c : ℕ) (came sent : List ℕ) (tells : List Tell) where
  pub none_came : (left : Incoming) → left ≡ opening_stream → came ≡ [] → sent ≡ [] → tells ≡ []
      → Talk keys Plain c came sent tells [] [] left
  none_came left is no_bytes none_sent none_told = record {
    exchanges = [];
    end = waiting [];
    left_is = is;
    cut = no_bytes;
    told = none_told;
    answers = tt;
    bytes = ap (λ bs. bs ++ []) none_sent;
    still = λ some. record { told = refl; written_is = refl };
  }

  -- if the stream isn't over, it goes on after the requests
  module _ (pending : List ℕ) (waits : List RequestMessage) (left : Incoming) (talk : Talk keys Plain c came sent tells pending waits left)
      (open_end : left.over ≡ false) where
    end_is : talk.end ≡ waiting left.unread
    end_is = goes_on talk.end left talk.left_is open_end

    begins : Begins came (requests_in talk.exchanges ++ waits) left.unread
    begins = subst (λ e. IsCutTo came (requests_in talk.exchanges ++ waits) e) end_is talk.cut

    told_open : tells ≡ tells_in talk.exchanges
    told_open = talk.told ∙ ap (λ e. tells_in talk.exchanges ++ refusal_told c e) end_is ∙ append-nil (tells_in talk.exchanges)

    bytes_open : sent ++ pending ≡ flat_map written talk.exchanges
    bytes_open = talk.bytes ∙ ap (λ e. flat_map written talk.exchanges ++ refusal_written e) end_is
        ∙ append-nil (flat_map written talk.exchanges)

    -- the same before another end
    ends_told : (end : End) → IsUnrefused c end → tells ≡ tells_in talk.exchanges ++ refusal_told c end
    ends_told end none = told_open ∙ sym (ap (λ ts. tells_in talk.exchanges ++ ts) none.told ∙ append-nil (tells_in talk.exchanges))

    ends_bytes : (end : End) → IsUnrefused c end → sent ++ pending ≡ flat_map written talk.exchanges ++ refusal_written end
    ends_bytes end none = bytes_open ∙ sym (ap (λ bs. flat_map written talk.exchanges ++ bs) none.written_is
        ∙ append-nil (flat_map written talk.exchanges))

  -- bytes come, unless the stream is over
  pub talk_fed : (pending : List ℕ) (waits : List RequestMessage) (left : Incoming) (more : List ℕ) → left.over ≡ false
      → Talk keys Plain c came sent tells pending waits left → Talk keys Plain c (came ++ more) sent tells pending waits (fed left more)
  talk_fed pending waits left more open_end talk =
      let none : IsUnrefused c (waiting (left.unread ++ more)) = record { told = refl; written_is = refl } in
      record {
        exchanges = talk.exchanges;
        end = waiting (left.unread ++ more);
        left_is = ap (λ b. let s : Incoming = record { unread = left.unread ++ more; over = b } in s) open_end;
        cut = requests_stay came (requests_in talk.exchanges ++ waits) left.unread more (begins pending waits left talk open_end);
        told = ends_told pending waits left talk open_end (waiting (left.unread ++ more)) none;
        answers = talk.answers;
        bytes = ends_bytes pending waits left talk open_end (waiting (left.unread ++ more)) none;
        still = λ some. none;
      }

  pub talk_quiet : (pending : List ℕ) (waits : List RequestMessage) (left : Incoming)
      → Talk keys Plain c came sent tells pending waits left → Talk keys Plain c (came ++ []) sent tells pending waits left
  talk_quiet pending waits left talk = subst (λ bs. Talk keys Plain c bs sent tells pending waits left) (sym (append-nil came)) talk

  -- bytes are sent
  pub talk_sent : (front back : List ℕ) (waits : List RequestMessage) (left : Incoming)
      → Talk keys Plain c came sent tells (front ++ back) waits left → Talk keys Plain c came (sent ++ front) tells back waits left
  talk_sent front back waits left talk = record {
    exchanges = talk.exchanges;
    end = talk.end;
    left_is = talk.left_is;
    cut = talk.cut;
    told = talk.told;
    answers = talk.answers;
    bytes = append_assoc sent front back ∙ talk.bytes;
    still = talk.still;
  }

  -- where nothing waits, a request is taken off the stream
  module _ (pending : List ℕ) (left new : Incoming) (request : RequestMessage) (takes : Removes left request new)
      (talk : Talk keys Plain c came sent tells pending [] left) where
    cut_next : NextCut c came (requests_in talk.exchanges) request (behind request takes.rest)
    cut_next =
        next_cut c came (requests_in talk.exchanges) left.unread request takes.rest
        (subst (λ rs. Begins came rs left.unread) (append-nil (requests_in talk.exchanges)) (begins pending [] left talk takes.begun))
        takes.stands

  -- a request is taken, and waits
  pub talk_waits : (left new : Incoming) (request : RequestMessage) → Removes left request new
      → Talk keys Plain c came sent tells [] [] left → Talk keys Plain c came sent tells [] (request ∷ []) new
  talk_waits left new request takes talk =
      let next = cut_next [] left new request takes talk in
      record {
        exchanges = talk.exchanges;
        end = next.end;
        left_is = takes.after ∙ next.left_is;
        cut = next.cut;
        told = ends_told [] [] left talk takes.begun next.end next.unrefused;
        answers = talk.answers;
        bytes = ends_bytes [] [] left talk takes.begun next.end next.unrefused;
        still = λ some. next.unrefused;
      }

  -- the request that waited is answered
  pub talk_answered : (left : Incoming) (request : RequestMessage) (tell : Tell)
      → IsAnsweredOn keys Plain c (record { request = request; tell = tell })
      → Talk keys Plain c came sent tells [] (request ∷ []) left → Talk keys Plain c came sent (tells ++ tell ∷ [])
      (reply_text tell.reply request.close) [] left
  talk_answered left request tell answers talk =
      let exchange : Exchange = record { request = request; tell = tell } in
      let none = talk.still (some_waits request) in
      record {
        exchanges = talk.exchanges ++ exchange ∷ [];
        end = talk.end;
        left_is = talk.left_is;
        cut = subst (λ rs. IsCutTo came rs talk.end) (sym (append-nil _ ∙ requests-more talk.exchanges exchange)) talk.cut;
        told = told-more c talk.exchanges exchange talk.end tells none.told talk.told;
        answers = answers-more keys Plain c talk.exchanges exchange talk.answers answers;
        bytes = ap (λ bs. bs ++ written exchange) (sym (append-nil sent) ∙ talk.bytes) ∙ bytes-more talk.exchanges exchange
            talk.end none.written_is;
        still = λ some. none;
      }

  -- a request is taken and answered at once
  pub talk_told : (left new : Incoming) (request : RequestMessage) (tell : Tell) → Removes left request new
      → IsAnsweredOn keys Plain c (record { request = request; tell = tell })
      → Talk keys Plain c came sent tells [] [] left → Talk keys Plain c came sent (tells ++ tell ∷ [])
      (reply_text tell.reply request.close) [] new
  talk_told left new request tell takes answers talk = talk_answered new request tell answers (talk_waits left new request takes talk)

  -- a head refusal is taken and told at once
  pub talk_refused : (left new : Incoming) (fault : HeadFault) → left.over ≡ false → Refuses left.unread fault → new ≡ ended
      → Talk keys Plain c came sent tells [] [] left → Talk keys Plain c came sent (tells ++ at_once c (fault_reply fault) ∷ [])
      (reply_text (fault_reply fault) true) [] new
  talk_refused left new fault open_end refuses is talk = record {
    exchanges = talk.exchanges;
    end = refused fault;
    left_is = is;
    cut = subst (λ rs. IsCutTo came rs (refused fault)) (append-nil (requests_in talk.exchanges ++ []))
        (cuts_on came (requests_in talk.exchanges ++ []) left.unread [] (refused fault) (begins [] [] left talk open_end) refuses);
    told = ap (λ ts. ts ++ at_once c (fault_reply fault) ∷ []) (told_open [] [] left talk open_end);
    answers = talk.answers;
    bytes = ap (λ bs. bs ++ reply_text (fault_reply fault) true) (sym (append-nil sent) ∙ bytes_open [] [] left talk open_end);
    still = λ some. absurd (some refl);
  }

-- what was asked and told on a lost connection, of which a front was sent
pub record LostTalk (keys : List (List ℕ)) (Plain : ℕ → QueuedRequest → ReplyMessage → Type 0) (c : ℕ) (came sent : List ℕ)
    (tells : List Tell) (waits : List RequestMessage) : Type 0 where
  pub exchanges : List Exchange
  pub end : End
  pub cut : IsCutTo came (requests_in exchanges ++ waits) end
  pub told : tells ≡ tells_in exchanges ++ refusal_told c end
  pub answers : AreAnsweredOn keys Plain c exchanges
  pub front : IsFrontOf sent (flat_map written exchanges ++ refusal_written end)
  pub still : waits ≢ [] → IsUnrefused c end

module _ (keys : List (List ℕ)) (Plain : ℕ → QueuedRequest → ReplyMessage → Type 0) (c : ℕ) (came sent : List ℕ) (tells : List Tell) where
  -- the connection is lost
  pub talk_lost : (pending : List ℕ) (waits : List RequestMessage) (left : Incoming) → Talk keys Plain c came sent tells pending waits left
      → LostTalk keys Plain c came sent tells waits
  talk_lost pending waits left talk = record {
    exchanges = talk.exchanges;
    end = talk.end;
    cut = talk.cut;
    told = talk.told;
    answers = talk.answers;
    front = (pending, talk.bytes);
    still = talk.still;
  }

  -- the request that waited is answered, and nothing is written
  pub lost_answered : (request : RequestMessage) (tell : Tell) → IsAnsweredOn keys Plain c (record { request = request; tell = tell })
      → LostTalk keys Plain c came sent tells (request ∷ []) → LostTalk keys Plain c came sent (tells ++ tell ∷ []) []
  lost_answered request tell answers talk =
      let exchange : Exchange = record { request = request; tell = tell } in
      let none = talk.still (some_waits request) in
      record {
        exchanges = talk.exchanges ++ exchange ∷ [];
        end = talk.end;
        cut = subst (λ rs. IsCutTo came rs talk.end) (sym (append-nil _ ∙ requests-more talk.exchanges exchange)) talk.cut;
        told = told-more c talk.exchanges exchange talk.end tells none.told talk.told;
        answers = answers-more keys Plain c talk.exchanges exchange talk.answers answers;
        front = (
          talk.front.0 ++ written exchange,
          sym (append_assoc sent talk.front.0 (written exchange)) ∙ ap (λ bs. bs ++ written exchange) talk.front.1
              ∙ bytes-more talk.exchanges exchange talk.end none.written_is,
        );
        still = λ some. none;
      }
