-- Runs that go on by one event.
use Rattle.std.proofs.Common.{◌≡◌, ◌<◌, ◌≤◌, ◌+◌, ℕ, List, [], ◌∷◌, ◌++◌, length, take, get_or, refl, sym, ap, subst, ◌∙◌}
use Rattle.std.proofs.lemmas.List.{take_more, take_all}
use Rattle.ports_core.specs.declared.event.Event.{Event}
use Rattle.ports_core.specs.Effects.{Effect}
use Rattle.ports_core.specs.State.{State}
use Rattle.ports_core.specs.Runs.{Run, Happens}

-- one more event at the end
pub run_more : (old mid new : State) (events : List Event) (steps : List Effect) (event : Event) (step : Effect) → Run old events steps mid
    → Happens event step mid new → Run old (events ++ event ∷ []) (steps ++ step ∷ []) new
run_more old mid new [] [] event step same happens = (new, subst (λ (s : State). Happens event step s new) same happens, refl)
run_more old mid new [] (s ∷ steps) event step h happens = absurd h
run_more old mid new (e ∷ events) [] event step h happens = absurd h
run_more old mid new (e ∷ events) (s ∷ steps) event step h happens = (h.0, h.1, run_more h.0 mid new events steps event step h.2 happens)

-- the event at a place of a list
pub run_next : (old mid new : State) (events : List Event) (i : ℕ) (event : Event) (steps steps_after : List Effect) (step : Effect)
    → i < length events → event ≡ get_or events i event → Run old (take i events) steps mid → Happens event step mid new
    → steps_after ≡ steps ++ step ∷ [] → Run old (take (i + 1) events) steps_after new
run_next old mid new events i event steps steps_after step lt at run happens is =
    let more = run_more old mid new (take i events) steps event step run happens in
    let P : List Event → List Effect → Type 0 = λ es ss. Run old es ss new in
    let front : take i events ++ event ∷ [] ≡ take (i + 1) events =
    sym (take_more events i event lt ∙ ap (λ e. take i events ++ e ∷ []) (sym at)) in
    subst (λ ss. P (take (i + 1) events) ss) (sym is) (subst (λ es. P es (steps ++ step ∷ [])) front more)

-- a run begins with no event
pub run_none : (old new : State) (events : List Event) (steps : List Effect) → new ≡ old → steps ≡ [] → Run old (take 0 events) steps new
run_none old new events steps same none = subst (λ ss. Run old (take 0 events) ss new) (sym none) same

-- all events are taken
pub run_all : (old new : State) (events : List Event) (i : ℕ) (steps : List Effect) → length events ≤ i → Run old (take i events) steps new
    → Run old events steps new
run_all old new events i steps le run = subst (λ es. Run old es steps new) (take_all i events le) run
