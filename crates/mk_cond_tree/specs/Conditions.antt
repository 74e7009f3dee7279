-- The condition that a text is.
use Rattle.std.specs.Prelude.{◌≡◌, ◌≢◌, ℕ, List, [], Option, Some, None, ⊤}
use Rattle.mk_ref.specs.Atoms.{left_of}
use Rattle.mk_ref.specs.Outside.{outside}
use Rattle.mk_cond_tree.specs.declared.tokens.Token.{Token}
use Rattle.mk_cond_tree.specs.declared.condition.ConditionError.{ConditionError}
use Rattle.mk_cond_tree.specs.declared.condition.ConditionError.TheVariants.{Unclosed, Unreadable, Memory}
use Rattle.mk_cond_tree.specs.Tokens.{tokens_of}
use Rattle.mk_cond_tree.specs.Trees.{OrTree, IsTreeOf}
use Rattle.mk_cond_tree.specs.Reader.{tree_of_tokens}

-- The tree of a text. Each reference of the text ends, and the text outside references is cut into the
-- tokens of this tree. In the tree, no more than 64 `!` and parentheses are one inside another.
pub record IsConditionOf (text : List ℕ) (tree : OrTree) : Type 0 where
  pub ends : left_of text ≡ []
  pub tokens : List Token
  pub cut : tokens_of (outside text) ≡ Some tokens
  pub read : IsTreeOf 64 tokens tree

-- why a text has no condition: a reference doesn't end; it has no tree; or memory ran out, which says
-- nothing
abbrev pub IsFaultOf : List ℕ → ConditionError → Type 0
IsFaultOf text Unclosed = left_of text ≢ []
IsFaultOf text Unreadable = (left_of text ≡ []) × ((tree : OrTree) → IsConditionOf text tree → ⊥)
IsFaultOf text (Memory _) = ⊤

-- the tree of tokens, if there are any
abbrev pub tree_on : Option (List Token) → Option OrTree
tree_on None = None
tree_on (Some tokens) = tree_of_tokens 64 tokens

-- the same as a function: the tree of a text in which dollars cover the references
abbrev pub tree_in : List ℕ → Option OrTree
tree_in covered = tree_on (tokens_of covered)
