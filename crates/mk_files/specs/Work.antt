-- What a function that does work on makefiles leaves.
use Rattle.std.specs.Prelude.{◌≡◌, Result, Ok, Err}
use Rattle.mk_base.specs.Meter.{Meter, IsLater, IsLater-on}
use Rattle.mk_base.specs.Outcome.{Work}
use Rattle.mk_base.specs.Stops.{Gives, StopsAt-whole}
use Rattle.mk_base.specs.declared.stops.Stop.{Stop}
use Rattle.mk_paths.specs.declared.files.FilesFault.{FilesFault}
use Rattle.mk_paths.specs.FilesView.{FilesView}
use Rattle.mk_files.specs.Questions.{Account, account}
use Rattle.mk_files.specs.AfterQuestions.{AfterQuestions}
use Rattle.mk_files.specs.AfterQuestions.{LeavesAtStop, LeavesAtStop-on}

-- The questions that work asked: the files answered them, or failed as they may, where it stopped.
abbrev pub Asks : {R F : Type 0} → (FilesFault → Type 0) → Result R (Stop F) → FilesView → FilesView → Type 0
Asks may (Ok x) old new = AfterQuestions old new
Asks may (Err stop) old new = LeavesAtStop may old new stop

-- A function did this work, and gave this result, seen by view. `old` is its budget and the files before,
-- `new` is the same afterwards. The files may fail with these faults.
pub record DoesWork {R A F : Type 0} (may : FilesFault → Type 0) (view : R → A) (result : Result R (Stop F))
    (work : Work Account F A) (old new : Meter × FilesView) : Type 0 where
  -- the result, and what is left of the budget and the log, are those of the work
  pub gives : Gives view result (account new.0 new.1) (work (account old.0 old.1))
  -- nothing but questions was asked of the files, and these changed nothing else
  pub asks : Asks may result old.1 new.1
  -- nothing of the budget was taken back
  pub later : IsLater old.0 new.0

-- some questions, and then a part of the work that stopped
pub DoesWork-stops : {R S A B F : Type 0} (may : FilesFault → Type 0) (view : R → A) (part_view : S → B) (stop : Stop F)
    (work : Work Account F A) (part : Work Account F B) (old middle new : Meter × FilesView)
    → AfterQuestions old.1 middle.1 → IsLater old.0 middle.0
    → ((end : F × Account) → part (account middle.0 middle.1) ≡ Err end → work (account old.0 old.1) ≡ Err end)
    → DoesWork may part_view (Err stop) part middle new → DoesWork may view (Err stop) work old new
DoesWork-stops may view part_view stop work part old middle new asked later passes last = record {
  gives = StopsAt-whole stop _ _ _ passes last.gives;
  asks = LeavesAtStop-on may old.1 middle.1 new.1 stop asked last.asks;
  later = IsLater-on later last.later;
}
