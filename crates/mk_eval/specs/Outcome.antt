use Rattle.std.specs.Prelude.{◌≡◌, ◌≤◌, ◌⊎◌, ℕ, List, Result, Ok, Err}
use Rattle.mk_base.specs.declared.stops.PureStop.{PureStop}
use Rattle.mk_base.specs.declared.stops.PureStop.TheVariants as pure
use Rattle.mk_base.specs.declared.stops.Stop.{Stop}
use Rattle.mk_base.specs.declared.stops.Stop.TheVariants as stops
use Rattle.mk_base.specs.FaultAt.{FaultAt}
use Rattle.mk_paths.specs.FilesView.{FilesView, Question, noted}
use Rattle.mk_paths.specs.declared.files.FilesFault.{FilesFault}
use Rattle.mk_paths.specs.declared.files.FilesFault.TheVariants as faults
use Rattle.mk_files.specs.AfterQuestions.{AfterQuestions, AfterFailedQuestion}
use Rattle.mk_eval.specs.declared.outcome.Evaluated.{Evaluated}
use Rattle.mk_eval.specs.declared.outcome.Failed.{Failed}

-- Work stopped with this fault. If it stopped because memory ran out or the store failed, nothing is said.
abbrev pub FailsWith : {A F : Type 0} → Stop F → Result A F → Type 0
FailsWith (stops.Fault fault) meaning = meaning ≡ Err fault
FailsWith (stops.Store _) meaning = Unit {0}
FailsWith (stops.Memory _) meaning = Unit {0}

-- What a function answered, seen by view, is the meaning.
abbrev pub Tells : {R A F : Type 0} → (R → A) → Result R (Stop F) → Result A F → Type 0
Tells view (Ok x) meaning = meaning ≡ Ok (view x)
Tells view (Err stop) meaning = FailsWith stop meaning

-- The same for work that looks at no file.
abbrev pub FailsPurelyWith : {A F : Type 0} → PureStop F → Result A F → Type 0
FailsPurelyWith (pure.Fault fault) meaning = meaning ≡ Err fault
FailsPurelyWith (pure.Memory _) meaning = Unit {0}

abbrev pub TellsPurely : {R A F : Type 0} → (R → A) → Result R (PureStop F) → Result A F → Type 0
TellsPurely view (Ok x) meaning = meaning ≡ Ok (view x)
TellsPurely view (Err stop) meaning = FailsPurelyWith stop meaning

-- What a function answered cost at most so many units, up to its fault if it has one.
abbrev pub CostsAtMost : {R : Type 0} → (R → ℕ) → ℕ → Result R (Stop Failed) → Type 0
CostsAtMost cost most (Ok x) = cost x ≤ most
CostsAtMost cost most (Err (stops.Fault failed)) = failed.cost ≤ most
CostsAtMost cost most (Err (stops.Store _)) = Unit {0}
CostsAtMost cost most (Err (stops.Memory _)) = Unit {0}

-- The same for work that looks at no file.
abbrev pub CostsPurelyAtMost : {R : Type 0} → (R → ℕ) → ℕ → Result R (PureStop Failed) → Type 0
CostsPurelyAtMost cost most (Ok x) = cost x ≤ most
CostsPurelyAtMost cost most (Err (pure.Fault failed)) = failed.cost ≤ most
CostsPurelyAtMost cost most (Err (pure.Memory _)) = Unit {0}

-- the stop of work that looks at no file; a fault gets the units that were spent
abbrev pub with_units : ℕ → PureStop FaultAt → PureStop Failed
with_units cost (pure.Fault fault) = pure.Fault (record { fault = fault; cost = cost })
with_units cost (pure.Memory refused) = pure.Memory refused

-- What an evaluation left of a world of files. At its end, and at a fault, these questions were asked
-- and answered: those in a budget of the units that were spent. It stops at `Store` only if the files
-- failed with that. It stops at `Memory` if the files failed with that, or if there was no memory for
-- the work itself.
abbrev pub LeavesAsked : (FilesFault → Type 0) → FilesView → FilesView → (ℕ → List Question) → Result Evaluated (Stop Failed) → Type 0
LeavesAsked may old new asked (Ok evaluated) = new ≡ noted old (asked evaluated.cost)
LeavesAsked may old new asked (Err (stops.Fault failed)) = new ≡ noted old (asked failed.cost)
LeavesAsked may old new asked (Err (stops.Store refusal)) = may (faults.Store refusal) × AfterFailedQuestion old new
LeavesAsked may old new asked (Err (stops.Memory refused)) =
    AfterQuestions old new ⊎ (may (faults.Memory refused) × AfterFailedQuestion old new)
