-- Faults and their numbers.
use Rattle.std.proofs.Common.{◌≡◌, ℕ, List, Some, refl, ap, subst, ◌∙◌}
use Rattle.std.specs.Int.{w64}
use Rattle.mk_base.specs.declared.faults.FaultKind.{FaultKind}
use Rattle.mk_base.specs.declared.faults.FaultKind.TheVariants as kinds
use Rattle.mk_base.specs.Faults.{fault_number}
use Rattle.mk_base.specs.FaultAt.{FaultAt, fault_at}
use Rattle.index_row.specs.Reads.{give, ◌>>=◌, give_if_some, byte, number, text}
use Rattle.index_row.specs.Faults.{kind_of, fault_kind, fault}
use Rattle.index_row.specs.Answers.{Adds}
use Rattle.index_row.proofs.Adding.{Adds-then, Adds-last, Adds-value_in}

kind_of-number_of : (kind : FaultKind) → kind_of (fault_number kind) ≡ Some kind
unfolding kind_of
kind_of-number_of kinds.Line = refl
kind_of-number_of kinds.Block = refl
kind_of-number_of kinds.Condition = refl
kind_of-number_of kinds.For = refl
kind_of-number_of kinds.Include = refl
kind_of-number_of kinds.IncludeDepth = refl
kind_of-number_of kinds.Reference = refl
kind_of-number_of kinds.Modifier = refl
kind_of-number_of kinds.Recursive = refl
kind_of-number_of kinds.Depth = refl
kind_of-number_of kinds.Budget = refl
kind_of-number_of kinds.Length = refl
kind_of-number_of kinds.Shell = refl
kind_of-number_of kinds.Utf8 = refl
kind_of-number_of kinds.Flavor = refl
kind_of-number_of kinds.NoName = refl
kind_of-number_of kinds.BadName = refl
kind_of-number_of kinds.Questions = refl

pub Adds-fault_kind : (old new : List ℕ) (kind : FaultKind) (value : ℕ) → value ≡ fault_number kind → Adds byte old new value
    → Adds fault_kind old new kind
unfolding fault_kind
Adds-fault_kind old new kind value is one =
    Adds-then byte (λ found. give_if_some (kind_of found)) old new new (fault_number kind) kind (subst (Adds byte old new) is one)
    (Adds-value_in (kind_of (fault_number kind)) kind new (kind_of-number_of kind))

pub Adds-fault : (old one two new : List ℕ) (kind : FaultKind) (name : List ℕ) (line : ℕ) (written : FaultAt)
    → Adds fault_kind old one kind → Adds text one two name → Adds (number w64) two new line
    → kind ≡ written.kind → name ≡ written.name → line ≡ written.line → Adds fault old new written
unfolding fault
Adds-fault old one two new kind name line written p q r same_kind same_name same_line =
    let same : fault_at kind name line ≡ written =
    ap (λ k. fault_at k name line) same_kind ∙ ap (λ n. fault_at written.kind n line) same_name
    ∙ ap (λ l. fault_at written.kind written.name l) same_line in
    subst (Adds fault old new) same
    (Adds-then fault_kind (λ kind. text >>= λ name. number w64 >>= λ line. give (fault_at kind name line)) old one new kind
    (fault_at kind name line) p
    (Adds-then text (λ name. number w64 >>= λ line. give (fault_at kind name line)) one two new name (fault_at kind name line) q
    (Adds-last (number w64) (λ line. fault_at kind name line) two new line r)))
