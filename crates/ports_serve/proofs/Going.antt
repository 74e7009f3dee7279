-- A wire and a service that go through one course after another.
use Rattle.std.proofs.Common.{◌≡◌, ◌≢◌, ◌⊎◌, inl, inr, ℕ, zero, suc, ◌<◌, ◌≤◌, ◌-◌, List, [], ◌∷◌, ◌++◌, Some, None, map, refl, sym, ap}
use Rattle.std.proofs.Common.{subst, ◌∙◌, append_assoc, arith, length, ◌+◌, ◌==◌, Bool, true, false, not, ◌||◌, is_some, min, get_or, drop}
use Rattle.std.proofs.Common.{drop-cons}
use Rattle.std.proofs.lemmas.Bool.{false≢true}
use Rattle.std.proofs.lemmas.List.{append-nil, drop_all, nil_from_length}
use Rattle.std.proofs.lemmas.List.Folds.{list_any-append}
use Rattle.std.proofs.Math.Bool.{or-false}
use Rattle.std.specs.List.{list_any}
use Rattle.std.specs.Option.{option_to_list}
use Rattle.ports_core.specs.declared.event.Event.{Event}
use Rattle.ports_core.specs.declared.event.Told.{Told}
use Rattle.ports_core.specs.Effects.{Effect}
use Rattle.ports_core.specs.declared.event.Event.TheVariants as events
use Rattle.ports_core.specs.State.{State, keys_of, connections_of, next_of, room_at, pending_at}
use Rattle.ports_core.specs.Steps.{keys_stay}
use Rattle.ports_core.specs.Runs.{Happens, Run, sent_by}
use Rattle.ports_serve.specs.declared.wire.Outcome.{Outcome}
use Rattle.ports_serve.specs.declared.wire.Outcome.TheVariants.{Nothing, Got, End, Fault}
use Rattle.ports_serve.specs.Calls.{Call, Accept, Read, Write, Shut, Leads}
use Rattle.ports_serve.specs.Rounds.{Course, quiet, joined_courses, called, unopened, opening, writing, Follows, HappensOn, HearsPiece}
use Rattle.ports_serve.specs.Rounds.{Each, Accepts, ReadsOnce, Writes, TakesTurn, IsRound, Goes, numbers_from, most_at_once, comes, replies}
use Rattle.ports_serve.specs.Rounds.{brings, waits, Rounds}
use Rattle.ports_serve.specs.CourseReports.{Brought, Rested}

joined_courses-assoc : (a b c : Course) → joined_courses (joined_courses a b) c ≡ joined_courses a (joined_courses b c)
joined_courses-assoc a b c =
    ap (λ (calls : List Call). record {
      calls = calls;
      events = (a.events ++ b.events) ++ c.events;
      steps = (a.steps ++ b.steps) ++ c.steps;
    }) (append_assoc a.calls b.calls c.calls)
    ∙ ap (λ (events : List Event). record {
      calls = a.calls ++ (b.calls ++ c.calls);
      events = events;
      steps = (a.steps ++ b.steps) ++
          c.steps;
    }) (append_assoc a.events b.events c.events)
    ∙ ap (λ (steps : List Effect). record {
      calls = a.calls ++ (b.calls ++ c.calls);
      events = a.events ++ (b.events ++ c.events);
      steps =
          steps;
    }) (append_assoc a.steps b.steps c.steps)

or_swap : (a b c d : Bool) → ((a || b) || (c || d)) ≡ ((a || c) || (b || d))
or_swap true b c d = refl
or_swap false true true d = refl
or_swap false true false d = refl
or_swap false false true d = refl
or_swap false false false d = refl

-- two courses bring something together if one of them does
pub brings-joined : (a b : Course) → brings (joined_courses a b) ≡ (brings a || brings b)
brings-joined a b =
    ap (λ x. x || list_any replies (a.steps ++ b.steps)) (list_any-append comes a.events b.events)
    ∙ ap (λ x. (list_any comes a.events || list_any comes b.events) || x) (list_any-append replies a.steps b.steps)
    ∙ or_swap (list_any comes a.events) (list_any comes b.events) (list_any replies a.steps) (list_any replies b.steps)

both_bring : (first second : Bool) (a b : Course) → first ≡ brings a → second ≡ brings b → (first || second) ≡ brings (joined_courses a b)
both_bring first second a b is also = ap (λ x. x || second) is ∙ ap (λ x. brings a || x) also ∙ sym (brings-joined a b)

or_right : (a b c d : Bool) → (((a || b) || c) || d) ≡ (a || (b || (c || d)))
or_right true b c d = refl
or_right false true c d = refl
or_right false false c d = refl

-- what an event brings
pub event_brings : (event : Event) (step : Effect) (came told : Bool) → came ≡ comes event → told ≡ is_some step.told.reply
    → (came || told) ≡ ((comes event || false) || (is_some step.told.reply || false))
event_brings event step came told is also =
    ap (λ x. x || told) is ∙ ap (λ x. comes event || x) also
    ∙ ap (λ x. x || is_some step.told.reply) (sym (or-false (comes event)))
    ∙ ap (λ x. (comes event || false) || x) (sym (or-false (is_some step.told.reply)))

run-append : (old mid new : State) (events more : List Event) (steps others : List Effect) → Run old events steps mid
    → Run mid more others new → Run old (events ++ more) (steps ++ others) new
run-append old mid new [] more [] others same run = subst (λ (s : State). Run s more others new) same run
run-append old mid new [] more (step ∷ steps) others run later = absurd run
run-append old mid new (event ∷ events) more [] others run later = absurd run
run-append old mid new (event ∷ events) more (step ∷ steps) others (next, happens, rest) later =
    (next, happens, run-append next mid new events more steps others rest later)

-- of the numbers up to some count those that are left begin with the one that is reached
pub next_number : (i count : ℕ) → i < count → numbers_from i (count - i) ≡ i ∷ numbers_from (i + 1) (count - (i + 1))
next_number i count within =
    let e : count - i ≡ suc (count - (i + 1)) = omega (arith, within) in
    let next : suc i ≡ i + 1 = omega arith in
    ap (numbers_from i) e ∙ ap (λ n. i ∷ numbers_from n (count - (i + 1))) next

-- after the last none is left
pub no_number : (i count : ℕ) → count ≤ i → numbers_from i (count - i) ≡ []
no_number i count past = let e : count - i ≡ zero = omega (arith, past) in ap (numbers_from i) e

-- if the number that is reached doesn't pass a test, whether one does is whether a later one does
pub later_passes : (test : ℕ → Bool) (i count : ℕ) (any : Bool) → i < count → test i ≡ false
    → list_any test (numbers_from i (count - i)) ≡ any → list_any test (numbers_from (i + 1) (count - (i + 1))) ≡ any
later_passes test i count any within fails all =
    sym (ap (λ passes. passes || list_any test (numbers_from (i + 1) (count - (i + 1)))) fails)
    ∙ sym (ap (list_any test) (next_number i count within)) ∙ all

-- no request waits
pub waits_none : (n : ℕ) → n ≡ 0 → not (n == 0) ≡ false
waits_none n none = ap (λ m. not (m == 0)) none

-- of a list that is gone through, what is left begins with the item that is reached
pub next_item : (all items : List ℕ) (i : ℕ) → items ≡ all → i < length items → drop i all ≡ get_or items i 0 ∷ drop (i + 1) all
next_item all items i same within =
    let next : suc i ≡ i + 1 = omega arith in
    subst (λ xs. drop i xs ≡ get_or items i 0 ∷ drop (i + 1) xs) same (drop-cons items i 0 within
    ∙ ap (λ n. get_or items i 0 ∷ drop n items) next)

pub no_item : (all items : List ℕ) (i : ℕ) → items ≡ all → length items ≤ i → drop i all ≡ []
no_item all items i same past = subst (λ xs. drop i xs ≡ []) same (drop_all i items past)

-- a list of no items is the empty one
pub is_empty_list : (xs : List ℕ) → (length xs == 0) ≡ true → xs ≡ []
is_empty_list xs none = let no_length : length xs ≡ 0 = grind (arith, none) in nil_from_length xs no_length

pub has_items : (xs : List ℕ) → (length xs == 0) ≡ false → xs ≢ []
has_items xs some none = absurd (false≢true (sym some ∙ ap (λ (ys : List ℕ). length ys == 0) none))

-- where nothing came, no connection opens
pub opens_none : (n : ℕ) (outcome : Outcome (Unit {0})) → (outcome ≡ Nothing) ⊎ ((outcome ≡ End) ⊎ (outcome ≡ Fault))
    → opening n outcome ≡ None
opens_none n outcome (inl is) = ap (opening n) is
opens_none n outcome (inr (inl is)) = ap (opening n) is
opens_none n outcome (inr (inr is)) = ap (opening n) is

-- where nothing was taken, nothing happens
pub writes_no_event : (c : ℕ) (outcome : Outcome ℕ) → (outcome ≡ Nothing) ⊎ (outcome ≡ End) → writing c outcome ≡ None
writes_no_event c outcome (inl is) = ap (writing c) is
writes_no_event c outcome (inr is) = ap (writing c) is

module _ {W : Type 0} (After : W → Call → W → Type 0) where
  pub leads-append : (old mid new : W) (calls more : List Call) → Leads After old calls mid → Leads After mid more new
      → Leads After old (calls ++ more) new
  leads-append old mid new [] more same leads = subst (λ w. Leads After w more new) same leads
  leads-append old mid new (call ∷ calls) more (next, after, rest) leads = (next, after, leads-append next mid new calls more rest leads)

  -- an event happens, and what it refuses or closes is shut
  pub happens_on : (old mid new : W) (state after_state : State) (event : Event) (told : Told) (came : Bool)
      → came ≡ ((comes event || false) || (is_some told.reply || false))
      → Happens event (record { told = told; sent = sent_by event state }) state after_state
      → Leads After old (map Shut (unopened event told.refused)) mid → Leads After mid (map Shut (option_to_list told.closed)) new
      → Goes After (Brought came (HappensOn event)) old state new after_state
  happens_on old mid new state after_state event told came brought happens refused closed =
      let step : Effect = record { told = told; sent = sent_by event state } in
      record {
        course = record {
          calls = map Shut (unopened event told.refused) ++ map Shut (option_to_list told.closed);
          events =
              event ∷ [];
          steps = step ∷ [];
        };
        goes = (record { step = step; happens = happens; course_is = refl }, brought);
        wire = leads-append old mid new (map Shut (unopened event told.refused)) (map Shut (option_to_list told.closed)) refused closed;
        run = (after_state, happens, refl);
      }

  -- what went so is of a wider kind, too
  pub goes_as : {P Q : State → Course → State → Type 0} → (old new : W) (state after_state : State)
      → ((course : Course) → P state course after_state → Q state course after_state)
      → Goes After P old state new after_state → Goes After Q old state new after_state
  goes_as old new state after_state wider went = record {
    course = went.course;
    goes = wider went.course went.goes;
    wire =
        went.wire;
    run = went.run;
  }

  -- a call, and then what its answer makes happen, which is told of the whole
  pub after_call_brought : {P Q : State → Course → State → Type 0}
      → (came : Bool) (old mid new : W) (state after_state : State) (call : Call)
      → ((behind : Course) → P state behind after_state → Q state (joined_courses (called call) behind) after_state)
      → After old call mid → Goes After (Brought came P) mid state new after_state → Goes After (Brought came Q) old state new after_state
  after_call_brought came old mid new state after_state call wider after behind = record {
    course = joined_courses (called call) behind.course;
    goes = (wider behind.course behind.goes.0, behind.goes.1);
    wire = (mid, after, behind.wire);
    run = behind.run;
  }

  -- no client comes
  pub accepts_none : (idle : Bool) (old new : W) (state : State) (n : ℕ) (outcome : Outcome (Unit {0})) → n ≡ next_of state
      → opening n outcome ≡ None
      → After old (Accept n idle outcome) new → Goes After (Brought false (Accepts idle)) old state new state
  accepts_none idle old new state n outcome is none after =
      subst (λ m. opening m outcome ≡ None → After old (Accept m idle outcome) new → Goes After (Brought false (Accepts idle)) old
      state new state) (sym is)
      (λ none after. record {
        course = called (Accept (next_of state) idle outcome);
        goes = (
          (
            outcome,
            subst (λ event. Follows (Accept (next_of state) idle outcome) event state
                (called (Accept (next_of state) idle outcome)) state) (sym none) (refl, refl),
          ),
          refl,
        );
        wire = (new, after, refl);
        run = refl;
      }) none after

  -- a client comes, and a connection is opened for it
  pub accepts_client : (idle came : Bool) (old mid new : W) (state after_state : State) (n : ℕ) (client : Unit {0}) → n ≡ next_of state
      → After old (Accept n idle (Got client)) mid → Goes After (Brought came (HappensOn (events.Open n))) mid state new after_state
      → Goes After (Brought came (Accepts idle)) old state new after_state
  accepts_client idle came old mid new state after_state n client is after went =
      subst (λ m. After old (Accept m idle (Got client)) mid → Goes After (Brought came (HappensOn (events.Open m))) mid state new
      after_state → Goes After (Brought came (Accepts idle)) old state new after_state) (sym is)
      (λ after went. after_call_brought came old mid new state after_state (Accept (next_of state) idle (Got client))
      (λ behind happens. (Got client, (behind, happens, refl))) after went)
      after went

  -- a connection without room isn't read
  pub reads_none : (c : ℕ) (wire : W) (state : State) → room_at c state ≡ 0 → Goes After (Brought false (ReadsOnce c)) wire state wire state
  reads_none c wire state none = record { course = quiet; goes = (inl (none, (refl, refl)), refl); wire = refl; run = refl }

  -- a connection is read: as many bytes are asked for as it has room for, up to the most
  pub reads_nothing : (c size : ℕ) (old new : W) (state : State) → 0 < room_at c state → size ≡ min (room_at c state) most_at_once
      → After old (Read c size Nothing) new → Goes After (Brought false (ReadsOnce c)) old state new state
  reads_nothing c size old new state room is after =
      let asked : ℕ = min (room_at c state) most_at_once in
      record {
        course = called (Read c asked Nothing);
        goes = (inr (room, Nothing, (refl, refl)), refl);
        wire =
            (new, subst (λ n. After old (Read c n Nothing) new) is after, refl);
        run = refl;
      }

  pub reads_piece : (c size : ℕ) (came : Bool) (bytes : List ℕ) (old mid new : W) (state after_state : State) → 0 < room_at c state
      → size ≡ min (room_at c state) most_at_once
      → After old (Read c size (Got bytes)) mid → Goes After (Brought came (HearsPiece c bytes)) mid state new after_state
      → Goes After (Brought came (ReadsOnce c)) old state new after_state
  reads_piece c size came bytes old mid new state after_state room is after went =
      after_call_brought came old mid new state after_state (Read c (min (room_at c state) most_at_once) (Got bytes))
      (λ behind hears. inr (room, Got bytes, (behind, hears, refl)))
      (subst (λ n. After old (Read c n (Got bytes)) mid) is after) went

  pub reads_end : (c size : ℕ) (came : Bool) (old mid new : W) (state after_state : State) → 0 < room_at c state
      → size ≡ min (room_at c state) most_at_once
      → After old (Read c size End) mid → Goes After (Brought came (HappensOn (events.End c))) mid state new after_state
      → Goes After (Brought came (ReadsOnce c)) old state new after_state
  reads_end c size came old mid new state after_state room is after went =
      after_call_brought came old mid new state after_state (Read c (min (room_at c state) most_at_once) End)
      (λ behind happens. inr (room, End, (behind, happens, refl)))
      (subst (λ n. After old (Read c n End) mid) is after) went

  pub reads_fault : (c size : ℕ) (came : Bool) (old mid new : W) (state after_state : State) → 0 < room_at c state
      → size ≡ min (room_at c state) most_at_once
      → After old (Read c size Fault) mid → Goes After (Brought came (HappensOn (events.Fault c))) mid state new after_state
      → Goes After (Brought came (ReadsOnce c)) old state new after_state
  reads_fault c size came old mid new state after_state room is after went =
      after_call_brought came old mid new state after_state (Read c (min (room_at c state) most_at_once) Fault)
      (λ behind happens. inr (room, Fault, (behind, happens, refl)))
      (subst (λ n. After old (Read c n Fault) mid) is after) went

  -- a connection without pending bytes isn't written to
  pub writes_none : (c : ℕ) (wire : W) (state : State) → pending_at c state ≡ []
      → Goes After (Brought false (Writes c)) wire state wire state
  writes_none c wire state none = record { course = quiet; goes = (inl (none, (refl, refl)), refl); wire = refl; run = refl }

  -- the wire takes nothing
  pub writes_nothing : (c : ℕ) (bytes : List ℕ) (outcome : Outcome ℕ) (old new : W) (state : State) → bytes ≡ pending_at c state
      → bytes ≢ [] → writing c outcome ≡ None
      → After old (Write c bytes outcome) new → Goes After (Brought false (Writes c)) old state new state
  writes_nothing c bytes outcome old new state is some none after = record {
    course = called (Write c (pending_at c state) outcome);
    goes = (
      inr (
        subst (λ bs. bs ≢ []) is some,
        outcome,
        subst (λ event. Follows (Write c (pending_at c state) outcome) event state
            (called (Write c (pending_at c state) outcome)) state) (sym none) (refl, refl),
      ),
      refl,
    );
    wire = (new, subst (λ bs. After old (Write c bs outcome) new) is after, refl);
    run = refl;
  }

  pub writes_count : (c count : ℕ) (came : Bool) (bytes : List ℕ) (old mid new : W) (state after_state : State)
      → bytes ≡ pending_at c state → bytes ≢ []
      → After old (Write c bytes (Got count)) mid → Goes After (Brought came (HappensOn (events.Wrote c (Some count)))) mid state new
      after_state → Goes After (Brought came (Writes c)) old state new after_state
  writes_count c count came bytes old mid new state after_state is some after went =
      after_call_brought came old mid new state after_state (Write c (pending_at c state) (Got count))
      (λ behind happens. inr (subst (λ bs. bs ≢ []) is some, Got count, (behind, happens, refl)))
      (subst (λ bs. After old (Write c bs (Got count)) mid) is after) went

  pub writes_fault : (c : ℕ) (came : Bool) (bytes : List ℕ) (old mid new : W) (state after_state : State)
      → bytes ≡ pending_at c state → bytes ≢ []
      → After old (Write c bytes Fault) mid → Goes After (Brought came (HappensOn (events.Fault c))) mid state new after_state
      → Goes After (Brought came (Writes c)) old state new after_state
  writes_fault c came bytes old mid new state after_state is some after went =
      after_call_brought came old mid new state after_state (Write c (pending_at c state) Fault)
      (λ behind happens. inr (subst (λ bs. bs ≢ []) is some, Fault, (behind, happens, refl)))
      (subst (λ bs. After old (Write c bs Fault) mid) is after) went

  -- a turn leaves the tenants' keys
  pub turn_keeps_keys : (t : ℕ) (old new : W) (state after_state : State) → (came : Bool)
      → Goes After (Brought came (HappensOn (events.Turn t))) old state new after_state → keys_of after_state ≡ keys_of state
  turn_keeps_keys t old new state after_state came went = keys_stay (events.Turn t) went.goes.0.step.told state after_state
      went.goes.0.happens.does

  -- A course is under way: whatever goes on in the way that is left goes, from the beginning, in the whole way.
  -- The flag says whether it brought something so far.
  pub record Underway (came : Bool) (Whole Left : State → Course → State → Type 0) (old_wire : W) (old : State) (wire : W)
      (now : State) : Type 0 where
    pub course : Course
    pub brought : came ≡ brings course
    pub leads : Leads After old_wire course.calls wire
    pub runs : Run old course.events course.steps now
    pub goes_on : (rest : Course) (new : State) → Left now rest new → Whole old (joined_courses course rest) new

  pub begins : (Whole : State → Course → State → Type 0) (wire : W) (state : State) → Underway false Whole Whole wire state wire state
  begins Whole wire state = record { course = quiet; brought = refl; leads = refl; runs = refl; goes_on = λ rest new goes. goes }

  pub goes_through : {Whole Left Part Rest : State → Course → State → Type 0} (came more : Bool)
      (old_wire wire next_wire : W) (old now next : State)
      → ((first rest : Course) (new : State) → Part now first next → Rest next rest new → Left now (joined_courses first rest) new)
      → Underway came Whole Left old_wire old wire now → Goes After (Brought more Part) wire now next_wire next
      → Underway (came || more) Whole Rest old_wire old next_wire next
  goes_through {Whole} {Left} {Part} {Rest} came more old_wire wire next_wire old now next put_together underway went = record {
    course = joined_courses underway.course went.course;
    brought = both_bring came more underway.course went.course underway.brought went.goes.1;
    leads = leads-append old_wire wire next_wire underway.course.calls went.course.calls underway.leads went.wire;
    runs = run-append old now next underway.course.events went.course.events underway.course.steps went.course.steps underway.runs went.run;
    goes_on = λ later new goes.
        subst (λ c. Whole old c new) (sym (joined_courses-assoc underway.course went.course later))
        (underway.goes_on (joined_courses went.course later) new (put_together went.course later new went.goes.0 goes));
  }

  pub ends : {Whole Left : State → Course → State → Type 0} (came : Bool) (old_wire wire : W) (old now : State) → Left now quiet now
      → Underway came Whole Left old_wire old wire now → Goes After (Brought came Whole) old_wire old wire now
  ends {Whole} {Left} came old_wire wire old now none underway = record {
    course = joined_courses underway.course quiet;
    goes = (underway.goes_on quiet now none, sym (or-false came) ∙ both_bring came false underway.course quiet underway.brought refl);
    wire = subst (λ calls. Leads After old_wire calls wire) (sym (append-nil underway.course.calls)) underway.leads;
    run = subst (λ events. Run old events (underway.course.steps ++ []) now) (sym (append-nil underway.course.events))
        (subst (λ steps. Run old underway.course.events steps now) (sym (append-nil underway.course.steps)) underway.runs);
  }

  -- whatever went, it is known whether it brought something
  pub noted : {P : State → Course → State → Type 0} (old new : W) (state after_state : State)
      (went : Goes After P old state new after_state)
      → Goes After (Brought (brings went.course) P) old state new after_state
  noted old new state after_state went = record { course = went.course; goes = (went.goes, refl); wire = went.wire; run = went.run }

  -- the four parts of a round, one after the other
  pub goes_round : (idle c1 c2 c3 c4 rested : Bool) (w0 w1 w2 w3 w4 : W) (s0 s1 s2 s3 s4 : State)
      → rested ≡ not ((((c1 || c2) || c3) || c4) || waits s4)
      → Goes After (Brought c1 (Accepts idle)) w0 s0 w1 s1
      → Goes After (Brought c2 (Each ReadsOnce (connections_of s1))) w1 s1 w2 s2
      → Goes After (Brought c3 (Each Writes (connections_of s2))) w2 s2 w3 s3
      → Goes After (Brought c4 (Each TakesTurn (numbers_from 0 (length (keys_of s3))))) w3 s3 w4 s4
      → Goes After (Rested rested (IsRound idle)) w0 s0 w4 s4
  goes_round idle c1 c2 c3 c4 rested w0 w1 w2 w3 w4 s0 s1 s2 s3 s4 rests a b c d = record {
    course = joined_courses a.course (joined_courses b.course (joined_courses c.course d.course));
    goes = (
      record {
        opened = s1;
        accepting = a.course;
        accepts = a.goes.0;
        heard = s2;
        reading = b.course;
        reads = b.goes.0;
        written = s3;
        answering = c.course;
        writes = c.goes.0;
        working = d.course;
        turns = d.goes.0;
        course_is = refl;
      },
      rests ∙ ap (λ x. not (x || waits s4)) (or_right c1 c2 c3 c4
          ∙ both_bring c1 (c2 || (c3 || c4)) a.course (joined_courses b.course (joined_courses c.course d.course)) a.goes.1
          (both_bring c2 (c3 || c4) b.course (joined_courses c.course d.course) b.goes.1
          (both_bring c3 c4 c.course d.course c.goes.1 d.goes.1))),
    );
    wire = leads-append w0 w1 w4 a.course.calls (b.course.calls ++ (c.course.calls ++ d.course.calls)) a.wire
        (leads-append w1 w2 w4 b.course.calls (c.course.calls ++ d.course.calls) b.wire
        (leads-append w2 w3 w4 c.course.calls d.course.calls c.wire d.wire));
    run = run-append s0 s1 s4 a.course.events (b.course.events ++ (c.course.events ++ d.course.events)) a.course.steps
        (b.course.steps ++ (c.course.steps ++ d.course.steps)) a.run
        (run-append s1 s2 s4 b.course.events (c.course.events ++ d.course.events) b.course.steps (c.course.steps ++ d.course.steps) b.run
        (run-append s2 s3 s4 c.course.events d.course.events c.course.steps d.course.steps c.run d.run));
  }

-- of a list that is gone through, the item that is reached is put before what is left
pub item_then : (P : ℕ → State → Course → State → Type 0) {left rest : List ℕ} (x : ℕ) (now next : State) → left ≡ x ∷ rest
    → (first later : Course) (new : State) → P x now first next → Each P rest next later new
    → Each P left now (joined_courses first later) new
item_then P {left} {rest} x now next e first later new part goes =
    subst (λ xs. Each P xs now (joined_courses first later) new) (sym e) (first, next, later, part, goes, refl)

-- after the last item nothing is left
pub none_left : (P : ℕ → State → Course → State → Type 0) {left : List ℕ} (now : State) → left ≡ [] → Each P left now quiet now
none_left P {left} now e = subst (λ xs. Each P xs now quiet now) (sym e) (refl, refl)

-- a round is put before those that are left
pub round_then : (left rest : ℕ) (idle rested : Bool) (now next : State) → left ≡ suc rest
    → (first later : Course) (new : State) → Rested rested (IsRound idle) now first next → Rounds rest rested next later new
    → Rounds left idle now (joined_courses first later) new
round_then left rest idle rested now next e first later new part goes =
    subst (λ count. Rounds count idle now (joined_courses first later) new) (sym e)
    (first, next, later, part.0, subst (λ flag. Rounds rest flag next later new) part.1 goes, refl)

-- after the last round nothing is left
pub no_round_left : (left : ℕ) (idle : Bool) (now : State) → left ≡ zero → Rounds left idle now quiet now
no_round_left left idle now e = subst (λ count. Rounds count idle now quiet now) (sym e) (refl, refl)
