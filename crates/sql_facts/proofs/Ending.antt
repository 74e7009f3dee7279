-- How a statement, a transaction and a query end.
use Rattle.std.proofs.Common.{◌≡◌, inl, inr, ℕ, true, false, cond, Result, Ok, Err, OnOk, OnErr, IfOk, IfErr, IsTrue, List, [], Option, sym}
use Rattle.std.proofs.Common.{ap, ◌∙◌, true≢false}
use Rattle.sqlite_value.specs.Order.{Row}
use Rattle.sqlite.specs.declared.error.Error.{Error}
use Rattle.sqlite.specs.State.{State, ExecutesInside, IsRolledBack, Shows, KeepsCounts, Writes}
use Rattle.sqlite_schema.specs.declared.command.Command.{Command}
use Rattle.sqlite_schema.specs.declared.command.Returning.{Returning}
use Rattle.sqlite.specs.Steps.{FailsToCommit}
use Rattle.sql_facts.specs.States.{IsSettled, Stays}

-- ---- in a transaction

pub inside_commit : (sql : List ℕ) (params : Row) (old new : State) (result : Result ℕ Error) → IsTrue new.is_open
    → ExecutesInside 0 sql params old new result → new.committed ≡ old.committed
inside_commit sql params old new (Ok count) live h = h.1.committed_is
inside_commit sql params old new (Err e) live (inl (ran, inl same)) = same.0.committed_is
inside_commit sql params old new (Err e) live (inl (ran, inr back)) = (back.undone live).1
inside_commit sql params old new (Err e) live (inr h) = h.2.0.committed_is

-- what a transaction wrote is gone
pub rolled_back : (old mid new : State) → IsSettled old → mid.committed ≡ old.committed → IsTrue new.is_open → IsRolledBack mid new
    → Stays old new
rolled_back old mid new at kept live back =
    let undone = back.undone live in
    record { now = undone.0 ∙ kept ∙ at.committed; committed = undone.1 ∙ kept; mode = back.autocommit ∙ sym at.autocommit }

pub on_error : {A E : Type 0} {P : Type 0} (r : Result A E) → P → OnErr r P
on_error (Ok a) p = tt
on_error (Err e) p = p

-- what a transaction wrote is committed
pub commits : {A : Type 0} (r : Result A Error) (mid new : State)
    → OnOk r (IsTrue mid.in_transaction × Shows mid new mid.now mid.now false × KeepsCounts mid new × (new.marks ≡ []))
    → OnOk r (IsSettled new × (new.now ≡ mid.now))
commits (Ok a) mid new h =
    let shows = h.1 in (record { autocommit = shows.mode; committed = shows.committed_is ∙ sym shows.now_is }, shows.now_is)
commits (Err e) mid new h = tt

pub commit_fails : {A : Type 0} (r : Result A Error) (old mid new : State) → IsSettled old → mid.committed ≡ old.committed
    → mid.in_transaction ≡ true → IsTrue new.is_open
    → IfErr r (FailsToCommit mid new) → OnErr r (Stays old new)
commit_fails (Ok a) old mid new at kept inside live h = tt
commit_fails (Err e) old mid new at kept inside live (inl fails) = rolled_back old mid new at kept live fails.3
commit_fails (Err e) old mid new at kept inside live (inr late) = absurd (true≢false (sym inside ∙ late.1))

-- ---- a part of a result

pub ok_then : {A E : Type 0} {P Q : Type 0} (r : Result A E) → (P → Q) → OnOk r P → OnOk r Q
ok_then (Ok a) f p = f p
ok_then (Err e) f p = tt

pub err_then : {A E : Type 0} {P Q : Type 0} (r : Result A E) → (P → Q) → OnErr r P → OnErr r Q
err_then (Ok a) f p = tt
err_then (Err e) f p = f p

pub if_ok_then : {A E : Type 0} {P Q : A → Type 0} (r : Result A E) → ((a : A) → P a → Q a) → IfOk r P → IfOk r Q
if_ok_then (Ok a) f p = f a p
if_ok_then (Err e) f p = tt

-- ---- outside a transaction

-- a statement that wrote is committed
pub writes_settled : (old new : State) (returning : Option Returning) (command : Command) (text : List ℕ) (params : Row) (count : ℕ)
    → IsSettled old → Writes old new returning command text params count → IsSettled new
writes_settled old new returning command text params count at h = record {
  autocommit = h.shown.mode ∙ at.autocommit;
  committed = h.shown.committed_is ∙ ap (λ b. cond b old.committed new.now) at.autocommit;
}
