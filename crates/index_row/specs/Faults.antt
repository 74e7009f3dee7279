-- The fault of a makefile, as bytes.
use Rattle.std.specs.Prelude.{ℕ, ◌==◌, List, [], ◌∷◌, find}
use Rattle.std.specs.Int.{w64}
use Rattle.mk_base.specs.declared.faults.FaultKind.{FaultKind}
use Rattle.mk_base.specs.declared.faults.FaultKind.TheVariants as kinds
use Rattle.mk_base.specs.Faults.{fault_number}
use Rattle.mk_base.specs.FaultAt.{FaultAt, fault_at}
use Rattle.index_row.specs.Reads.{Read, give, give_if_some, ◌>>=◌, byte, number, text}
use Rattle.std.specs.Prelude.{Option}

-- every kind of fault
abbrev pub fault_kinds : List FaultKind
fault_kinds =
    kinds.Line ∷ kinds.Block ∷ kinds.Condition ∷ kinds.For ∷ kinds.Include ∷ kinds.IncludeDepth ∷ kinds.Reference ∷ kinds.Modifier
    ∷ kinds.Recursive ∷ kinds.Depth ∷ kinds.Budget ∷ kinds.Length ∷ kinds.Shell ∷ kinds.Utf8 ∷ kinds.Flavor ∷ kinds.NoName
    ∷ kinds.BadName ∷ kinds.Questions ∷ []

-- the kind of fault with this number, if there is one
unfoldable pub kind_of : ℕ → Option FaultKind
kind_of number = find (λ kind. fault_number kind == number) fault_kinds

-- a kind of fault: its number
unfoldable pub fault_kind : Read FaultKind
fault_kind bytes = (byte >>= λ number. give_if_some (kind_of number)) bytes

-- a fault: its kind, the name of the file, and the line
unfoldable pub fault : Read FaultAt
fault bytes = (fault_kind >>= λ kind. text >>= λ name. number w64 >>= λ line. give (fault_at kind name line)) bytes
