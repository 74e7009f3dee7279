-- The reply that a turn tells, as one of the plain service's replies in the whole run.
use Rattle.std.proofs.Common.{◌≡◌, ◌<◌, ℕ, List, [], ◌∷◌, ◌++◌, length, refl, sym, ap, subst, ◌∙◌, inl, inr, append_assoc, eq-eqb}
use Rattle.std.specs.Prelude.{if◌then◌else◌}
use Rattle.ports_http.specs.Messages.{ReplyMessage}
use Rattle.plain_service.specs.Plain.{Served}
use Rattle.ports_core.specs.declared.event.Event.{Event}
use Rattle.ports_core.specs.declared.queue.QueuedRequest.{QueuedRequest}
use Rattle.ports_core.specs.Effects.{Effect}
use Rattle.mk_paths.specs.World.{opening_world}
use Rattle.ports_core.specs.Answers.{plain_answer}
use Rattle.ports_core.specs.Slices.{Slice, new_slice}
use Rattle.ports_core.specs.Sharing.{Sizes}
use Rattle.ports_core.specs.State.{State, new_state, keys_of, book_of, IsAllowed}
use Rattle.ports_core.specs.Runs.{Run, Happens}
use Rattle.ports_core.specs.Books.{TakesIn}
use Rattle.ports_core.specs.Tell.{is_failure}
use Rattle.ports_core.specs.Plainly.{is_this_tenant, told_if, told_to, own_of, plain_world}
use Rattle.ports_core.specs.Conversations.{IsPlainOr503}
use Rattle.ports_core.proofs.Lists.{some_same}
use Rattle.ports_core.proofs.Serving.{answered_plainly, answer-fine}
use Rattle.ports_core.proofs.ChangeLemmas.{seen}
use Rattle.ports_core.proofs.RunsServe.{run_serves, begins_new}
use Rattle.ports_core.proofs.RunLemmas.{run_more}
use Rattle.ports_core.proofs.ConversingLemmas.{EachIsPlain}

told_to-append : (t : ℕ) (steps more : List Effect) → told_to t (steps ++ more) ≡ told_to t steps ++ told_to t more
told_to-append t [] more = refl
told_to-append t (step ∷ steps) more = ap (λ ts. told_if t step.told.reply ++ ts) (told_to-append t steps more)
    ∙ sym (append_assoc (told_if t step.told.reply) (told_to t steps) (told_to t more))

-- the keys stay in a run
pub run_keys : (events : List Event) (steps : List Effect) (old new : State) → Run old events steps new → keys_of new ≡ keys_of old
run_keys [] [] old new same = ap keys_of same
run_keys [] (step ∷ steps) old new run = absurd run
run_keys (event ∷ events) [] old new run = absurd run
run_keys (event ∷ events) (step ∷ steps) old new (mid, h, run) = run_keys events steps mid new run
    ∙ (seen event step.told old mid h.allowed h.does).keys

-- a turn between the events before and those after it
module _ (keys : List (List ℕ)) (sizes : Sizes) (before events : List Event) (before_steps steps : List Effect) (event : Event)
    (step : Effect) (old mid new : State)
    (begun : Run (new_state keys sizes) before before_steps old) (happens : Happens event step old mid)
    (goes_on : Run mid events steps new) where
  pub plain_turn : EachIsPlain (IsPlainOr503 keys (before ++ event ∷ events) (before_steps ++ step ∷ steps)) event step old mid
  plain_turn t taken h is_turn =
      let allowed : t < length (keys_of old) = subst (λ e. IsAllowed e old) is_turn happens.allowed in
      let within : t < length keys = subst (λ ks. t < length ks) (run_keys before before_steps (new_state keys sizes) old begun) allowed in
      let first_part = run_serves t before before_steps (new_state keys sizes) old new_slice begun (begins_new keys sizes t within) in
      let slice_is : first_part.last ≡ h.slice = some_same (sym first_part.last_is ∙ h.was) in
      let second_part = run_serves t (event ∷ events) (step ∷ steps) old new first_part.last (mid, happens, goes_on) first_part.last_is in
      let plainly = answered_plainly opening_world (new_slice.1 ++ first_part.taken) (told_to t before_steps) first_part.last.0
      first_part.last.1 first_part.serves in
      let waits : first_part.last.1 ≡ h.first ∷ h.rest = ap (λ (s : Slice). s.1) slice_is ∙ h.waited in
      let told_is : told_if t step.told.reply ≡ h.tell ∷ [] =
      ap (told_if t) h.told_is ∙ ap (λ p. if is_this_tenant t p then h.tell ∷ [] else []) h.of_tenant
      ∙ ap (λ b. if b then h.tell ∷ [] else []) (eq-eqb t t refl) in
      let later : List QueuedRequest = own_of (h.rest ++ second_part.taken) (told_to t steps) in
      let own : own_of (first_part.taken ++ second_part.taken) (told_to t (before_steps ++ step ∷ steps))
      ≡ plainly.answered ++ (if is_failure h.tell.reply.status then later else h.first ∷ later) =
      ap (own_of (first_part.taken ++ second_part.taken)) (told_to-append t before_steps (step ∷ steps))
      ∙ plainly.own_on second_part.taken (told_to t (step ∷ steps))
      ∙ ap (λ ws. plainly.answered ++ own_of (ws ++ second_part.taken) (told_to t (step ∷ steps))) waits
      ∙ ap (λ ts. plainly.answered ++ own_of (h.first ∷ (h.rest ++ second_part.taken)) (ts ++ told_to t steps)) told_is in
      let takes : TakesIn keys t (book_of (new_state keys sizes)) (before ++ event ∷ events) (before_steps ++ step ∷ steps)
      (first_part.taken ++ second_part.taken) =
      first_part.takes_on (event ∷ events) (step ∷ steps) second_part.taken
      (subst (λ ks. TakesIn ks t (book_of old) (event ∷ events) (step ∷ steps) second_part.taken)
      (run_keys before before_steps (new_state keys sizes) old begun) second_part.takes) in
      let world_is : h.slice.0 ≡ plain_world opening_world plainly.answered = ap (λ (s : Slice). s.0) (sym slice_is) ∙ plainly.world_is in
      elim (h.answers) [
        | inl answer ↦ inl (record {
          taken = first_part.taken ++ second_part.taken;
          takes = takes;
          before = plainly.answered;
          behind = later;
          stands = own ∙ ap (λ b. plainly.answered ++ (if b then later else h.first ∷ later))
              (answer-fine h.slice.0 h.first.request h.tell.reply h.world answer);
          plainly = sym (ap (λ (a : Served). a.0) answer) ∙ ap (λ w. (plain_answer w h.first.request).0) world_is;
        })
        | inr failed ↦ inr failed.0
      ]

-- each turn of a run tells so
abbrev pub EachPlain : (ℕ → QueuedRequest → ReplyMessage → Type 0) → (events : List Event) (steps : List Effect) (old new : State)
    → Run old events steps new → Type 0
EachPlain Plain [] [] old new run = Unit {0}
EachPlain Plain [] (step ∷ steps) old new run = Unit {0}
EachPlain Plain (event ∷ events) [] old new run = Unit {0}
EachPlain Plain (event ∷ events) (step ∷ steps) old new run = EachIsPlain Plain event step old run.0
    × EachPlain Plain events steps run.0 new run.2

pub each_plain : (keys : List (List ℕ)) (sizes : Sizes) (before events : List Event) (before_steps steps : List Effect) (old new : State)
    → Run (new_state keys sizes) before before_steps old → (run : Run old events steps new)
    → EachPlain (IsPlainOr503 keys (before ++ events) (before_steps ++ steps)) events steps old new run
each_plain keys sizes before [] before_steps [] old new begun run = tt
each_plain keys sizes before [] before_steps (step ∷ steps) old new begun run = tt
each_plain keys sizes before (event ∷ events) before_steps [] old new begun run = tt
each_plain keys sizes before (event ∷ events) before_steps (step ∷ steps) old new begun run =
    let more = each_plain keys sizes (before ++ event ∷ []) events (before_steps ++ step ∷ []) steps run.0 new
    (run_more (new_state keys sizes) old run.0 before before_steps event step begun run.1) run.2 in (
      plain_turn keys sizes before events before_steps steps event step old run.0 new begun run.1 run.2,
      subst (λ es. EachPlain (IsPlainOr503 keys es (before_steps ++ step ∷ steps)) events steps run.0 new run.2)
          (append_assoc before (event ∷ []) events)
          (subst (λ ss. EachPlain (IsPlainOr503 keys ((before ++ event ∷ []) ++ events) ss) events steps run.0 new run.2)
          (append_assoc before_steps (step ∷ []) steps) more),
    )
