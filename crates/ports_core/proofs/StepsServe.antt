-- One event, as a tenant sees it.
use Rattle.std.proofs.Common.{◌≡◌, ◌≢◌, ℕ, List, [], ◌∷◌, ◌++◌, Option, Some, None, refl, sym, ap, subst, ◌∙◌, inl, inr, append_assoc}
use Rattle.std.proofs.Common.{eq-eqb, ⊎_elim}
use Rattle.std.specs.Prelude.{◌==◌, if◌then◌else◌, MatchOption, option_map}
use Rattle.std.proofs.lemmas.Bool.{cases_eq}
use Rattle.ports_core.proofs.Numbers.{other_number}
use Rattle.ports_core.specs.declared.event.Event.{Event}
use Rattle.ports_core.specs.declared.event.Event.TheVariants.{Open, Piece, End, Fault, Wrote, Turn}
use Rattle.ports_core.specs.declared.event.Told.{Told}
use Rattle.ports_core.specs.declared.event.Tell.{Tell}
use Rattle.ports_core.specs.declared.queue.QueuedRequest.{QueuedRequest}
use Rattle.mk_paths.specs.World.{World}
use Rattle.ports_core.specs.Answers.{AnswersRequest}
use Rattle.ports_core.specs.Slices.{Slice, with_requests}
use Rattle.ports_core.specs.Intake.{Taken, Nothing, entering}
use Rattle.ports_core.specs.State.{State, keys_of, slice_of}
use Rattle.ports_core.specs.Books.{conn_of}
use Rattle.ports_core.specs.Changes.{KeepsSlices, Enters, FirstLeaves, ChangesSlices}
use Rattle.ports_core.specs.Plainly.{is_this_tenant, told_if}
use Rattle.ports_core.proofs.Lists.{some_same}
use Rattle.ports_core.proofs.Serving.{Serves}

-- what is told to no tenant
to_no_tenant : (t : ℕ) (reply : Option Tell) → MatchOption reply (Unit {0}) (λ (tell : Tell). tell.tenant ≡ None) → told_if t reply ≡ []
to_no_tenant t None none = refl
to_no_tenant t (Some tell) none = ap (λ p. if is_this_tenant t p then tell ∷ [] else []) none

-- what an event is to a tenant with that slice
pub record IsServed (t : ℕ) (event : Event) (told : Told) (taken : Taken) (old new : State) (slice : Slice) : Type 0 where
  pub next : Slice
  pub next_is : slice_of t new ≡ Some next
  pub serves : (more : List QueuedRequest) (tells : List Tell) (last : World) (rest : List QueuedRequest)
      → Serves next.0 (next.1 ++ more) tells last rest
      → Serves slice.0 (slice.1 ++ (entering (keys_of old) (conn_of event) taken t ++ more)) (told_if t told.reply ++ tells) last rest

module _ (t c : ℕ) (keys : List (List ℕ)) (told : Told) (taken : Taken) (slice : Slice) (more : List QueuedRequest) (tells : List Tell)
    (last : World) (rest : List QueuedRequest) where
  -- nothing is told to the tenant
  quietly : (queued_requests : List QueuedRequest) → told_if t told.reply ≡ [] → Serves slice.0 queued_requests tells last rest
      → Serves slice.0 queued_requests (told_if t told.reply ++ tells) last rest
  quietly queued_requests none serves = subst (λ rs. Serves slice.0 queued_requests (rs ++ tells) last rest) (sym none) serves

  -- and nothing is taken
  at_rest : taken ≡ Nothing → told_if t told.reply ≡ [] → Serves slice.0 (slice.1 ++ more) tells last rest
      → Serves slice.0 (slice.1 ++ (entering keys c taken t ++ more)) (told_if t told.reply ++ tells) last rest
  at_rest nothing none serves =
      quietly (slice.1 ++ (entering keys c taken t ++ more)) none
      (subst (λ k. Serves slice.0 (slice.1 ++ (entering keys c k t ++ more)) tells last rest) (sym nothing) serves)

rests_serve : (t : ℕ) (event : Event) (told : Told) (taken : Taken) (old new : State) (slice : Slice) → KeepsSlices told taken old new
    → slice_of t old ≡ Some slice → IsServed t event told taken old new slice
rests_serve t event told taken old new slice h was = record {
  next = slice;
  next_is = h.slices t ∙ was;
  serves = λ more tells last rest s. at_rest t (conn_of event) (keys_of old) told taken slice more tells last rest h.nothing
      (ap (told_if t) h.silent) s;
}

enters_serve : (t c : ℕ) (event : Event) (told : Told) (taken : Taken) (old new : State) (slice : Slice) → conn_of event ≡ c
    → Enters c told taken old new → slice_of t old ≡ Some slice → IsServed t event told taken old new slice
enters_serve t c event told taken old new slice of_conn h was =
    let queued_requests : List QueuedRequest = entering (keys_of old) c taken t in
    record {
      next = with_requests queued_requests slice;
      next_is = h.slices t ∙ ap (option_map (with_requests queued_requests)) was;
      serves = λ more tells last rest s.
          quietly t c (keys_of old) told taken slice more tells last rest
          (slice.1 ++ (entering (keys_of old) (conn_of event) taken t ++ more)) (to_no_tenant t told.reply h.to_none)
          (subst (λ n. Serves slice.0 (slice.1 ++ (entering (keys_of old) n taken t ++ more)) tells last rest) (sym of_conn)
          (subst (λ ws. Serves slice.0 ws tells last rest) (append_assoc slice.1 queued_requests more) s));
    }

-- a turn that tells a reply
module _ (t u : ℕ) (told : Told) (taken : Taken) (old new : State) (slice : Slice) (h : FirstLeaves u told taken old new)
    (was : slice_of t old ≡ Some slice) where
  tells_of : told_if t told.reply ≡ (if u == t then h.tell ∷ [] else [])
  tells_of = ap (told_if t) h.told_is ∙ ap (λ p. if is_this_tenant t p then h.tell ∷ [] else []) h.of_tenant

  own_turn : t ≡ u → IsServed t (Turn u) told taken old new slice
  own_turn same =
      let was_there : slice_of u old ≡ Some slice = ap (λ n. slice_of n old) (sym same) ∙ was in
      let first_slice : h.slice ≡ slice = some_same (sym h.was ∙ was_there) in
      let waits : slice.1 ≡ h.first ∷ h.rest = ap (λ (s : Slice). s.1) (sym first_slice) ∙ h.waited in
      let tells_is : told_if t told.reply ≡ h.tell ∷ [] = tells_of ∙ ap (λ b. if b then h.tell ∷ [] else []) (eq-eqb u t (sym same)) in
      record {
        next = (h.world, h.rest);
        next_is = ap (λ n. slice_of n new) same ∙ h.slice_is;
        serves = λ more tells last rest s.
            let answers : AnswersRequest slice.0 h.first.request h.tell.reply h.world =
            subst (λ (k : Slice). AnswersRequest k.0 h.first.request h.tell.reply h.world) first_slice h.answers in
            let all : Serves slice.0 ((h.first ∷ h.rest) ++ more) (h.tell ∷ tells) last rest = (h.world, h.to_asker, answers, s) in
            subst (λ k. Serves slice.0 (slice.1 ++ (entering (keys_of old) 0 k t ++ more)) (told_if t told.reply ++ tells) last rest)
            (sym h.nothing)
            (subst (λ ts. Serves slice.0 (slice.1 ++ more) (ts ++ tells) last rest) (sym tells_is)
            (subst (λ ws. Serves slice.0 (ws ++ more) (h.tell ∷ tells) last rest) (sym waits) all));
      }

  other_turn : t ≢ u → IsServed t (Turn u) told taken old new slice
  other_turn apart =
      let tells_is : told_if t told.reply ≡ [] = tells_of ∙ ap (λ b. if b then h.tell ∷ [] else [])
      (other_number u t (λ e. apart (sym e))) in
      record {
        next = slice;
        next_is = h.others t apart ∙ was;
        serves = λ more tells last rest s. at_rest t 0 (keys_of old) told taken slice more tells last rest h.nothing tells_is s;
      }

turns_serve : (t u : ℕ) (told : Told) (taken : Taken) (old new : State) (slice : Slice) → ChangesSlices (Turn u) told taken old new
    → slice_of t old ≡ Some slice → IsServed t (Turn u) told taken old new slice
turns_serve t u told taken old new slice (inl h) was = rests_serve t (Turn u) told taken old new slice h was
turns_serve t u told taken old new slice (inr h) was = ⊎_elim (λ same. own_turn t u told taken old new slice h was same)
    (λ apart. other_turn t u told taken old new slice h was apart) (cases_eq t u)

-- any event
pub changes_serve : (t : ℕ) (event : Event) (told : Told) (taken : Taken) (old new : State) (slice : Slice)
    → ChangesSlices event told taken old new → slice_of t old ≡ Some slice → IsServed t event told taken old new slice
changes_serve t (Open c) told taken old new slice h was = rests_serve t (Open c) told taken old new slice h was
changes_serve t (Piece c bytes) told taken old new slice h was = enters_serve t c (Piece c bytes) told taken old new slice refl h was
changes_serve t (End c) told taken old new slice h was = enters_serve t c (End c) told taken old new slice refl h was
changes_serve t (Fault c) told taken old new slice h was = rests_serve t (Fault c) told taken old new slice h was
changes_serve t (Wrote c count) told taken old new slice h was = enters_serve t c (Wrote c count) told taken old new slice refl h was
changes_serve t (Turn u) told taken old new slice h was = turns_serve t u told taken old new slice h was
