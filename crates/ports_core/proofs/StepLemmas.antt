-- What an event does to a service, put together from what its parts do.
use Rattle.std.proofs.Common.{◌≡◌, ◌≢◌, ◌<◌, ◌+◌, ◌-◌, ◌^◌, ℕ, zero, suc, false, List, [], ◌∷◌, length, drop, Option, Some, None, refl, sym}
use Rattle.std.proofs.Common.{ap, subst, ◌∙◌, arith}
use Rattle.std.specs.Prelude.{Result, Ok, Err, OnOk, is_err, option_map, option_and_then, slice_get, nat_le, ◌||◌, String, replicate, map}
use Rattle.std.proofs.Math.ListN.{set}
use Rattle.std.proofs.lemmas.Bool.Decides.{nat_tests}
use Rattle.ports_http.specs.Messages.{ReplyMessage}
use Rattle.ports_core.specs.declared.connection.Connection.{Connection}
use Rattle.ports_core.specs.declared.event.Event.{Event}
use Rattle.ports_core.specs.declared.event.Told.{Told}
use Rattle.ports_core.specs.declared.queue.QueuedRequest.{QueuedRequest}
use Rattle.mk_paths.specs.World.{World, opening_world}
use Rattle.ports_core.specs.Answers.{AnswersFor}
use Rattle.ports_core.specs.Slices.{Queue}
use Rattle.ports_core.specs.Jobs.{TenantJob, first_of}
use Rattle.ports_core.specs.Connections.{new_connection, answered, kept, closing_number}
use Rattle.ports_core.specs.Tell.{in_turn}
use Rattle.ports_core.specs.Intake.{Taken, Joins}
use Rattle.ports_core.specs.Opened.{connection_in, book_in}
use Rattle.ports_core.specs.Books.{HearsOn}
use Rattle.ports_core.specs.Sharing.{Sharing, Sizes, unused}
use Rattle.ports_core.specs.State.{State, keys_of, new_state}
use Rattle.ports_core.specs.Keys.{key_texts}
use Rattle.ports_core.proofs.KeyLemmas.{length_texts}
use Rattle.ports_core.specs.Steps.{IsOpened, Hears, IsIdleTurn, IsPending, IsAnsweringTurn}
use Rattle.ports_core.proofs.Lists.{slice_get-set_same, slice_get-set_other, map-same}
use Rattle.ports_core.proofs.JobLemmas.{first_rest}

-- a fact of an Ok where there is no error
pub on_ok : {A E : Type 0} (P : Type 0) (r : Result A E) → is_err r ≡ false → OnOk r P → P
on_ok P (Ok x) fine h = h
on_ok P (Err e) fine h = cc

-- the same value, written where it was, changes nothing
pub slice_get-set_kept : {X : Type 0} (xs : List X) (i : ℕ) (x y : X) → slice_get xs i ≡ Some x → y ≡ x → (j : ℕ)
    → slice_get (set xs i y) j ≡ slice_get xs j
slice_get-set_kept [] i x y at same j = refl
slice_get-set_kept (z ∷ xs) zero x y at same zero = ap Some same ∙ sym at
slice_get-set_kept (z ∷ xs) zero x y at same (suc j) = refl
slice_get-set_kept (z ∷ xs) (suc i) x y at same zero = refl
slice_get-set_kept (z ∷ xs) (suc i) x y at same (suc j) = slice_get-set_kept xs i x y at same j

module _ (keys : List (List ℕ)) (next : ℕ) (jobs : List (Option TenantJob)) (shared : Sharing) where
  pub opened : (told : Told) (worlds : List World) (queues : List Queue) (connections connections_after : List (ℕ × Connection))
      (connection : Connection)
      → length connections < 16 → next < 2 ^ 64 - 1 → told.reply ≡ None → told.refused ≡ None → told.closed ≡ None
      → connection ≡ new_connection
      → connection_in next connections_after ≡ Some connection
      → ((d : ℕ) → d ≢ next → connection_in d connections_after ≡ connection_in d connections)
      → IsOpened told (keys, worlds, queues, connections, next, jobs, shared)
      (keys, worlds, queues, connections_after, next + 1, jobs, shared)
  opened told worlds queues connections connections_after connection few low reply refused closed connection_is at others = record {
    fits = room connections few low;
    reply = reply;
    refused = refused;
    closed = closed;
    keys = refl;
    next = refl;
    connection = at ∙ ap Some connection_is;
    connections = others;
    worlds = λ t. refl;
    queues = λ t. refl;
  }
    where
      room : (xs : List (ℕ × Connection)) → length xs < 16 → next < 2 ^ 64 - 1 → (nat_le 16 (length xs) || nat_le (2 ^ 64 - 1) next) ≡ false
      room xs few low = grind (arith, nat_tests)

  -- the queues, and the keys' texts, are lent
  pub heard : (event : Event) (c : ℕ) (told : Told) (worlds : List World) (queues lent queues_after after : List Queue)
      (connections connections_after : List (ℕ × Connection)) (texts : List (List ℕ))
      → texts ≡ keys → lent ≡ queues → after ≡ queues_after
      → ((taken : Taken) × HearsOn texts event c told taken (book_in connections) (book_in connections_after)
      × Joins texts c taken lent queues_after)
      → Hears event c told (keys, worlds, queues, connections, next, jobs, shared)
      (keys, worlds, after, connections_after, next, jobs, shared)
  heard event c told worlds queues lent queues_after after connections connections_after texts texts_are lent_are after_is h = record {
    taken = h.0;
    hears = subst (λ ks. HearsOn ks event c told h.0 (book_in connections) (book_in connections_after)) texts_are h.1;
    queues = subst (λ (qs : List Queue). Joins keys c h.0 queues qs) (sym after_is)
        (subst (λ (qs : List Queue). Joins keys c h.0 qs queues_after) lent_are
        (subst (λ ks. Joins ks c h.0 lent queues_after) texts_are h.2));
    worlds = λ t. refl;
    keeps = record { keys = refl; next = refl };
  }

  pub idle : (t : ℕ) (told : Told) (worlds : List World) (queues : List Queue) (queue after : Queue) (connections : List (ℕ × Connection))
      → slice_get queues t ≡ Some queue → queue ≡ [] → after ≡ queue → told.reply ≡ None → told.refused ≡ None → told.closed ≡ None
      → IsIdleTurn t told (keys, worlds, queues, connections, next, jobs, shared)
      (keys, worlds, set queues t after, connections, next, jobs, shared)
  idle t told worlds queues queue after connections was empty same reply refused closed = record {
    nothing_waits = was ∙ ap Some empty;
    reply = reply;
    refused = refused;
    closed = closed;
    same = record {
      keeps = record { keys = refl; next = refl };
      connections = λ c. refl;
      worlds = λ u. refl;
      queues = slice_get-set_kept queues t queue after was same;
    };
  }

  -- what waits goes on
  pub pending_in_turn : (t : ℕ) (told : Told) (worlds worlds_after : List World) (queues : List Queue) (queue after : Queue)
      (first : QueuedRequest) (connections : List (ℕ × Connection)) (jobs_after : List (Option TenantJob)) (shared_after : Sharing)
      → slice_get queues t ≡ Some queue → Some first ≡ first_of queue → after ≡ queue → worlds_after ≡ worlds → told.reply ≡ None
      → told.refused ≡ None → told.closed ≡ None
      → IsPending t told (keys, worlds, queues, connections, next, jobs, shared) (
        keys,
        worlds_after,
        set queues t after,
        connections,
        next,
        jobs_after,
        shared_after,
      )
  pending_in_turn t told worlds worlds_after queues queue after first connections jobs_after shared_after was first_is same same_worlds
      reply refused closed = record {
        first = first;
        rest = drop 1 queue;
        waits = was ∙ ap Some (first_rest queue first first_is);
        reply = reply;
        refused = refused;
        closed = closed;
        same = record {
          keeps = record { keys = refl; next = refl };
          connections = λ c. refl;
          worlds = λ u. ap (λ (ws : List World). slice_get ws u) same_worlds;
          queues = slice_get-set_kept queues t queue after was same;
        };
      }

  pub answered_in_turn : (t : ℕ) (told : Told) (worlds worlds_after : List World) (queues : List Queue) (queue rest : Queue)
      (first : QueuedRequest) (reply : ReplyMessage) (closed : Option ℕ) (connections mid connections_after : List (ℕ × Connection))
      (jobs_after : List (Option TenantJob)) (shared_after : Sharing)
      → t < length queues → slice_get queues t ≡ Some queue → queue ≡ first ∷ rest
      → AnswersFor t first.request reply worlds worlds_after
      → connection_in first.conn mid ≡ option_map (answered reply) (connection_in first.conn connections)
      → ((d : ℕ) → d ≢ first.conn → connection_in d mid ≡ connection_in d connections)
      → closed ≡ option_and_then (closing_number first.conn) (connection_in first.conn mid) → connection_in first.conn connections_after ≡
      option_and_then kept (connection_in first.conn mid)
      → ((d : ℕ) → d ≢ first.conn → connection_in d connections_after ≡ connection_in d mid)
      → told.reply ≡ Some (in_turn t first.conn reply) → told.refused ≡ None → told.closed ≡ closed
      → IsAnsweringTurn t told (keys, worlds, queues, connections, next, jobs, shared)
      (keys, worlds_after, set queues t rest, connections_after, next, jobs_after, shared_after)
  answered_in_turn t told worlds worlds_after queues queue rest first reply closed connections mid connections_after jobs_after shared_after
      within was waited answers mid_is mid_others closed_is connection_is others told_is refused closed_told = record {
        first = first;
        rest = rest;
        waited = was ∙ ap Some waited;
        leaves = slice_get-set_same queues t rest within;
        queues = λ u ne. slice_get-set_other queues t u rest ne;
        replied = reply;
        answers = answers;
        reply = told_is;
        refused = refused;
        closed = closed_told ∙ closed_is ∙ ap (option_and_then (closing_number first.conn)) mid_is;
        tells = record {
          connection_is = connection_is ∙ ap (option_and_then kept) mid_is;
          others = λ d ne. others d ne ∙ mid_others d ne;
        };
        keeps = record { keys = refl; next = refl };
      }

-- a tenant with a key has a world and a queue
pub within_keys : {Z X : Type 0} (t : ℕ) (now : State) (keys : List (String Z)) (worlds : List World) (queues : List Queue)
    (connections : List (ℕ × Connection)) (next : ℕ) (jobs : List (Option TenantJob)) (shared : Sharing) (xs : List X)
    → (key_texts keys, worlds, queues, connections, next, jobs, shared) ≡ now → length xs ≡ length keys
    → t < length (keys_of now) → t < length xs
within_keys t now keys worlds queues connections next jobs shared xs is same lt =
    let h : t < length (key_texts keys) = subst (λ (s : State). t < length (keys_of s)) (sym is) lt in
    omega (arith, length_texts keys, same, h)

-- a service that has just begun
pub new_state_is : {Z : Type 0} (keys : List (String Z)) (worlds : List World) (queues : List Queue) (jobs : List (Option TenantJob))
    (shared : Sharing) (sizes : Sizes) (n : ℕ) (connections : List (ℕ × Connection)) → worlds ≡ replicate n opening_world
    → queues ≡ replicate n [] → jobs ≡ replicate n None → n ≡ length keys → connections ≡ [] → shared ≡ unused sizes
    → ◌≡◌ {A = State} (key_texts keys, worlds, queues, connections, 0, jobs, shared) (new_state (key_texts keys) sizes)
new_state_is keys worlds queues jobs shared sizes n connections worlds_are queues_are jobs_are n_is none unused_is =
    let count : n ≡ length (key_texts keys) = n_is ∙ sym (length_texts keys) in
    let same_worlds : worlds ≡ map (λ (key : List ℕ). opening_world) (key_texts keys) = worlds_are ∙ ap (λ k. replicate k opening_world)
    count ∙ sym (map-same opening_world (key_texts keys)) in
    let empty : Queue = [] in
    let same_queues : queues ≡ map (λ (key : List ℕ). empty) (key_texts keys) = queues_are ∙ ap (λ k. replicate k empty) count
    ∙ sym (map-same empty (key_texts keys)) in
    let no_job : Option TenantJob = None in
    let same_jobs : jobs ≡ map (λ (key : List ℕ). no_job) (key_texts keys) = jobs_are ∙ ap (λ k. replicate k no_job) count
    ∙ sym (map-same no_job (key_texts keys)) in
    ap (λ (ws : List World). let s : State = (key_texts keys, ws, queues, connections, 0, jobs, shared) in s) same_worlds
    ∙ ap (λ (qs : List Queue). let s : State = (
      key_texts keys,
      map (λ (key : List ℕ). opening_world) (key_texts keys),
      qs,
      connections,
      0,
      jobs,
      shared,
    ) in s) same_queues
    ∙ ap (λ (ls : List (ℕ × Connection)). let s : State = (
      key_texts keys,
      map (λ (key : List ℕ). opening_world) (key_texts keys),
      map
          (λ (key : List ℕ). empty) (key_texts keys),
      ls,
      0,
      jobs,
      shared,
    ) in s) none
    ∙ ap (λ (js : List (Option TenantJob)). let s : State = (
      key_texts keys,
      map (λ (key : List ℕ). opening_world) (key_texts keys),
      map
          (λ (key : List ℕ). empty) (key_texts keys),
      [],
      0,
      js,
      shared,
    ) in s) same_jobs
    ∙ ap (λ (sh : Sharing). let s : State = (
      key_texts keys,
      map (λ (key : List ℕ). opening_world) (key_texts keys),
      map
          (λ (key : List ℕ). empty) (key_texts keys),
      [],
      0,
      map (λ (key : List ℕ). no_job) (key_texts keys),
      sh,
    ) in s) unused_is
