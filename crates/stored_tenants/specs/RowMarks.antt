-- What a change of a tenant's world makes of the rows of its index.
use Rattle.std.specs.Prelude.{◌≡◌, ◌≢◌, ◌⊎◌, ℕ, List, Option, Some, None, option_map, slice_get, IsErrOf, IsTrue, Result}
use Rattle.index_keep.specs.Shown.{ShownRow, ShownRows, ShowsSame, made_stale, stale_if_asked}
use Rattle.index_keep.specs.Keeper.{keeper_rows}
use Rattle.index_keep.specs.Turns.{StayFresh}
use Rattle.index_store.specs.PortTable.{stored_by}
use Rattle.mk_paths.specs.World.{World}
use Rattle.ports_http.specs.Messages.{RequestMessage}
use Rattle.plain_service.specs.Answers.{answer_to}
use Rattle.plain_service.specs.Change.{overfills}
use Rattle.plain_service.specs.Questions.{question_of}
use Rattle.plain_service.specs.declared.questions.Question.{Question}
use Rattle.plain_service.specs.declared.change.Change.{Change}
use Rattle.plain_service.specs.declared.change.Change.TheVariants.{PutFile, RemoveFile, SetPath, SetProfile}
use Rattle.ports_core.specs.Answers.{plain_request_of}
use Rattle.tenant_store.specs.declared.faults.PutFault.{PutFault}
use Rattle.tenant_store.specs.declared.faults.PutFault.TheVariants.{Full}
use Rattle.stored_tenants.specs.declared.tenant.Tenant.{Tenant}
use Rattle.stored_tenants.specs.Kept.{world_of}

-- A row after a change: it is stale if it asked for the file that is stored or removed, and under other settings it is
-- stale in any case.
abbrev pub row_after : Change → ShownRow → ShownRow
row_after (PutFile name content) row = stale_if_asked name row
row_after (RemoveFile name) row = stale_if_asked name row
row_after (SetPath trees) row = made_stale row
row_after (SetProfile profile) row = made_stale row

-- exactly the rows are stale now that the change makes stale, and those that were
abbrev pub Marks : Change → ShownRows → ShownRows → Type 0
Marks change old new = (path : List ℕ) → new path ≡ option_map (row_after change) (old path)

-- the same of what a request changes, if it changes anything; else the same rows are shown
abbrev pub MarksIfAny : Option Change → ShownRows → ShownRows → Type 0
MarksIfAny None old new = ShowsSame old new
MarksIfAny (Some change) old new = Marks change old new

-- the same of a change that failed, maybe before any row was marked
abbrev pub MarksAtMost : Option Change → ShownRows → ShownRows → Type 0
MarksAtMost change old new = ShowsSame old new ⊎ MarksIfAny change old new

-- What a turn of a request that makes this change of a world, or none, leaves of the rows. Without a change, rows that were
-- fresh are fresh still.
abbrev pub LeavesRows : World → Option Change → ShownRows → ShownRows → Type 0
LeavesRows world None old new = StayFresh world old new
LeavesRows world (Some change) old new = MarksAtMost (Some change) old new

-- the same of the rows of a tenant, by the question that the request asks
abbrev pub LeavesRowsOf : Question → Tenant → Tenant → Type 0
LeavesRowsOf question old new =
    LeavesRows (world_of old) (answer_to (world_of old) question).1 (keeper_rows stored_by old.keeper) (keeper_rows stored_by new.keeper)

-- and of the tenant with this number
abbrev pub LeaveRowsAt : ℕ → Question → List Tenant → List Tenant → Type 0
LeaveRowsAt number question old new =
    (before after : Tenant) → slice_get old number ≡ Some before → slice_get new number ≡ Some after
    → LeavesRowsOf question before after

-- the rows of each tenant are shown as before
abbrev pub KeepRows : List Tenant → List Tenant → Type 0
KeepRows old new =
    (number : ℕ) (before after : Tenant) → slice_get old number ≡ Some before
    → slice_get new number ≡ Some after
    → ShowsSame (keeper_rows stored_by before.keeper) (keeper_rows stored_by after.keeper)

-- the same of the rows of a tenant, by what a request asks
abbrev pub LeavesRowsBy : RequestMessage → Tenant → Tenant → Type 0
LeavesRowsBy request old new = LeavesRowsOf (question_of (plain_request_of request)) old new

-- and of the tenant with this number
abbrev pub LeavesRowsAtBy : ℕ → RequestMessage → List Tenant → List Tenant → Type 0
LeavesRowsAtBy number request old new = LeaveRowsAt number (question_of (plain_request_of request)) old new

-- rows of a tenant that were fresh are fresh still
abbrev pub KeepsFreshRows : Tenant → Tenant → Type 0
KeepsFreshRows old new = StayFresh (world_of old) (keeper_rows stored_by old.keeper) (keeper_rows stored_by new.keeper)

-- exactly the rows of a tenant are stale now that a change makes stale, and those that were
abbrev pub MarksRows : Change → Tenant → Tenant → Type 0
MarksRows change old new = Marks change (keeper_rows stored_by old.keeper) (keeper_rows stored_by new.keeper)

-- the same of what a request changes, if it changes anything
abbrev pub MarksRowsIfAny : Option Change → Tenant → Tenant → Type 0
MarksRowsIfAny change old new = MarksIfAny change (keeper_rows stored_by old.keeper) (keeper_rows stored_by new.keeper)

-- the same of a change that failed, maybe before any row was marked
abbrev pub MarksRowsAtMost : Option Change → Tenant → Tenant → Type 0
MarksRowsAtMost change old new = MarksAtMost change (keeper_rows stored_by old.keeper) (keeper_rows stored_by new.keeper)

-- where a tenant would have more than it may, its rows are marked all the same
abbrev pub MarksIfFull : {R : Type 0} → Result R PutFault → Change → Tenant → Tenant → Type 0
MarksIfFull result change old new =
    IsErrOf result Full → Marks change (keeper_rows stored_by old.keeper) (keeper_rows stored_by new.keeper)

-- a tenant would have more than it may, if a function says so
abbrev pub TellsFull : {R : Type 0} → Result R PutFault → Change → Tenant → Type 0
TellsFull result change old = IsErrOf result Full → IsTrue (overfills (world_of old) change)

-- no tenant changes but this one
abbrev pub KeepsOtherTenants : ℕ → List Tenant → List Tenant → Type 0
KeepsOtherTenants number old new = (other : ℕ) → other ≢ number → slice_get new other ≡ slice_get old other
