-- What holds of every list of tokens.
use Rattle.std.specs.Prelude.{◌≡◌, ◌↔◌, ℕ, List, [], Some}
use Rattle.mk_ref.specs.Atoms.{left_of}
use Rattle.mk_ref.specs.Outside.{outside}
use Rattle.mk_cond_tree.specs.declared.tokens.Token.{Token}
use Rattle.mk_cond_tree.specs.Trees.{OrTree, IsTreeOf}
use Rattle.mk_cond_tree.specs.Reader.{tree_of_tokens}
use Rattle.mk_cond_tree.specs.Conditions.{IsConditionOf, tree_in}

-- tokens have at most one tree
abbrev pub TokensHaveOneTree : Type 0
TokensHaveOneTree =
    (limit : ℕ) (tokens : List Token) (one other : OrTree) → IsTreeOf limit tokens one → IsTreeOf limit tokens other
    → one ≡ other

-- the reading of tokens gives their tree, and none if they have none
abbrev pub TreesAreRead : Type 0
TreesAreRead = (limit : ℕ) (tokens : List Token) (tree : OrTree) → IsTreeOf limit tokens tree ↔ (tree_of_tokens limit tokens ≡ Some tree)

-- if its references end, a text has the tree that is read of it, and no other
abbrev pub ConditionsAreRead : Type 0
ConditionsAreRead = (text : List ℕ) (tree : OrTree) → IsConditionOf text tree ↔ ((left_of text ≡ []) × (tree_in (outside text) ≡ Some tree))
