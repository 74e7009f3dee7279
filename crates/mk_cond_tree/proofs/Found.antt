-- A text's tree, from the tree of what is outside its references.
use Rattle.std.proofs.Common.{◌≡◌, ◌≢◌, ◌↔◌, ℕ, List, [], length, Option, Some, None, refl, sym, ap, ◌∙◌, arith, length-drop}
use Rattle.mk_ref.specs.Atoms.{left_of}
use Rattle.mk_ref.specs.Outside.{outside}
use Rattle.mk_ref.specs.Places.{IsUnclosedAt}
use Rattle.mk_cond_tree.specs.declared.tokens.Token.{Token}
use Rattle.mk_cond_tree.specs.Tokens.{tokens_of}
use Rattle.mk_cond_tree.specs.Trees.{OrTree}
use Rattle.mk_cond_tree.specs.Conditions.{IsConditionOf, tree_on, tree_in}
use Rattle.mk_cond_tree.proofs.Complete.{none_some, tree-read, read-tree}

found_on : (text : List ℕ) (tree : OrTree) (tokens : Option (List Token)) → left_of text ≡ [] → tokens_of (outside text) ≡ tokens
    → tree_on tokens ≡ Some tree
    → IsConditionOf text tree
found_on text tree None ends cut is = absurd (none_some is)
found_on text tree (Some tokens) ends cut is = record { ends = ends; tokens = tokens; cut = cut; read = read-tree 64 tokens tree is }

pub condition-found : (text covered : List ℕ) (tree : OrTree) → left_of text ≡ [] → covered ≡ outside text → tree_in covered ≡ Some tree
    → IsConditionOf text tree
condition-found text covered tree ends covered_is is = found_on text tree (tokens_of (outside text)) ends refl
    (ap tree_in (sym covered_is) ∙ is)

pub condition-refused : (text covered : List ℕ) → covered ≡ outside text → tree_in covered ≡ None → (tree : OrTree)
    → IsConditionOf text tree → ⊥
condition-refused text covered covered_is is tree condition =
    none_some (sym is ∙ ap tree_in covered_is ∙ ap tree_on condition.cut ∙ tree-read 64 condition.tokens tree condition.read)

pub unclosed-left : (text : List ℕ) (at : ℕ) → IsUnclosedAt text at → left_of text ≢ []
unclosed-left text at unclosed is = absurd (omega (arith, unclosed.inside, length-drop at text, ap length (sym unclosed.left ∙ is)))

pub conditions-read : (text : List ℕ) (tree : OrTree)
    → IsConditionOf text tree ↔ ((left_of text ≡ []) × (tree_in (outside text) ≡ Some tree))
conditions-read text tree = (
  λ condition. (condition.ends, ap tree_on condition.cut ∙ tree-read 64 condition.tokens tree condition.read),
  λ h. condition-found text (outside text) tree h.0 refl h.1,
)
