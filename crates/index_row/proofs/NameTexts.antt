-- Names of packages that are written as their texts.
use Rattle.std.proofs.Common.{◌≡◌, ℕ, List, Some}
use Rattle.pkg_name.specs.Name.{NameParts, split_name}
use Rattle.index_row.specs.Reads.{give_if_some, text}
use Rattle.index_row.specs.Names.{name}
use Rattle.index_row.specs.Answers.{Adds}
use Rattle.index_row.proofs.Adding.{Adds-then, Adds-value_in}

pub Adds-name : (old new written : List ℕ) (parts : NameParts) → split_name written ≡ Some parts → Adds text old new written
    → Adds name old new parts
unfolding name
Adds-name old new written parts is one = Adds-then text (λ found. give_if_some (split_name found)) old new new written parts one
    (Adds-value_in (split_name written) parts new is)
