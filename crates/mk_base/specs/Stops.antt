use Rattle.std.specs.Prelude.{◌≡◌, Result, Ok, Err}
use Rattle.mk_base.specs.declared.stops.PureStop.{PureStop}
use Rattle.mk_base.specs.declared.stops.PureStop.TheVariants as pure
use Rattle.mk_base.specs.declared.stops.Stop.{Stop}
use Rattle.mk_base.specs.declared.stops.Stop.TheVariants as stops

-- The work stopped at this fault. If memory ran out or the store refused, nothing is said.
abbrev pub StopsAt : {A F M : Type 0} → Stop F → M → Result (A × M) (F × M) → Type 0
StopsAt (stops.Fault fault) state outcome = outcome ≡ Err (fault, state)
StopsAt (stops.Store _) state outcome = Unit {0}
StopsAt (stops.Memory _) state outcome = Unit {0}

-- What a function answered, seen by view, and the state that it left are those of the definition.
abbrev pub Gives : {R A F M : Type 0} → (R → A) → Result R (Stop F) → M → Result (A × M) (F × M) → Type 0
Gives view (Ok x) state outcome = outcome ≡ Ok (view x, state)
Gives view (Err stop) state outcome = StopsAt stop state outcome

-- The same for a function that fails only by the fault.
abbrev pub GivesOnly : {R A F M : Type 0} → (R → A) → Result R F → M → Result (A × M) (F × M) → Type 0
GivesOnly view (Ok x) state outcome = outcome ≡ Ok (view x, state)
GivesOnly view (Err fault) state outcome = outcome ≡ Err (fault, state)

-- If each fault of a part is a fault of the whole, then a stop of the part is a stop of the whole.
pub StopsAt-whole : {A B F M : Type 0} (stop : Stop F) (state : M) (part : Result (A × M) (F × M))
    (whole : Result (B × M) (F × M)) → ((end : F × M) → part ≡ Err end → whole ≡ Err end) → StopsAt stop state part
    → StopsAt stop state whole
StopsAt-whole (stops.Fault fault) state part whole passes at = passes (fault, state) at
StopsAt-whole (stops.Store _) state part whole passes at = tt
StopsAt-whole (stops.Memory _) state part whole passes at = tt

-- The same for work that looks at no file: it stopped at this fault. If memory ran out, nothing is said.
abbrev pub StopsPurelyAt : {A F M : Type 0} → PureStop F → M → Result (A × M) (F × M) → Type 0
StopsPurelyAt (pure.Fault fault) state outcome = outcome ≡ Err (fault, state)
StopsPurelyAt (pure.Memory _) state outcome = Unit {0}

-- What such a function answered, seen by view, and the state that it left are those of the definition.
abbrev pub GivesPurely : {R A F M : Type 0} → (R → A) → Result R (PureStop F) → M → Result (A × M) (F × M) → Type 0
GivesPurely view (Ok x) state outcome = outcome ≡ Ok (view x, state)
GivesPurely view (Err stop) state outcome = StopsPurelyAt stop state outcome

-- If each fault of a part is a fault of the whole, then a stop of the part is a stop of the whole.
pub StopsPurelyAt-whole : {A B F M : Type 0} (stop : PureStop F) (state : M) (part : Result (A × M) (F × M))
    (whole : Result (B × M) (F × M)) → ((end : F × M) → part ≡ Err end → whole ≡ Err end) → StopsPurelyAt stop state part
    → StopsPurelyAt stop state whole
StopsPurelyAt-whole (pure.Fault fault) state part whole passes at = passes (fault, state) at
StopsPurelyAt-whole (pure.Memory _) state part whole passes at = tt

-- the stop of work that looks at no file, as a stop of any work
abbrev pub stop_of_pure : {F : Type 0} → PureStop F → Stop F
stop_of_pure (pure.Fault fault) = stops.Fault fault
stop_of_pure (pure.Memory refused) = stops.Memory refused
