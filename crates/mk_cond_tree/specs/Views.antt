-- The tree that the code's nodes are.
use Rattle.std.specs.Prelude.{◌≡◌, List, Option, option_map, map, Box}
use Rattle.std.specs.declared.alloc.Global.{Global}
use Rattle.std.proofs.Common.{ap, sym, ◌∙◌}
use Rattle.mk_text.specs.declared.word_spans.Span.{Span}
use Rattle.std.specs.Borrow.{Bor}
use Rattle.mk_cond_tree.specs.declared.nodes.Condition.{Condition, Condition-F, fold-Condition, out-Condition, fold_out-Condition}
use Rattle.mk_cond_tree.specs.declared.nodes.Conjunction.{Conjunction, Conjunction-F, fold-Conjunction}
use Rattle.mk_cond_tree.specs.declared.nodes.Conjunction.{out-Conjunction, fold_out-Conjunction}
use Rattle.mk_cond_tree.specs.declared.nodes.Term.{Term, Term-F, fold-Term, fold-roll-Term}
use Rattle.mk_cond_tree.specs.declared.nodes.Term.TheVariants as terms
use Rattle.mk_cond_tree.specs.declared.tokens.Comparison.{Comparison}
use Rattle.mk_cond_tree.specs.declared.tokens.Call.{Call}
use Rattle.mk_cond_tree.specs.declared.tokens.Side.{Side}
use Rattle.mk_cond_tree.specs.declared.tokens.Token.{Token}
use Rattle.mk_cond_tree.specs.Trees.{OrTree, OrOf, AndTree, AndOf, NotTree, Negated, Grouped, Called, Compared, Alone}
use Rattle.mk_cond_tree.specs.Reader.{later_nots, later_ands}

-- one level, with what is inside already seen as its tree
abbrev pub condition_step : Condition-F NotTree OrTree AndTree → OrTree
condition_step condition = OrOf condition.first (later_ands condition.more.items)

abbrev pub conjunction_step : Conjunction-F NotTree OrTree AndTree → AndTree
conjunction_step conjunction = AndOf conjunction.first (later_nots conjunction.more.items)

abbrev pub term_step : Term-F NotTree OrTree AndTree → NotTree
term_step (Term-F.Not term) = Negated term.value
term_step (Term-F.Group condition) = Grouped condition.value
term_step (Term-F.Call call argument) = Called call argument
term_step (Term-F.Compare left comparison right) = Compared left comparison right
term_step (Term-F.Side side) = Alone side

-- the tree of a condition, of a conjunction, of a term
abbrev pub condition_tree : Condition → OrTree
condition_tree = fold-Condition NotTree OrTree AndTree term_step condition_step conjunction_step

abbrev pub conjunction_tree : Conjunction → AndTree
conjunction_tree = fold-Conjunction NotTree OrTree AndTree term_step condition_step conjunction_step

abbrev pub term_tree : Term → NotTree
term_tree = fold-Term NotTree OrTree AndTree term_step condition_step conjunction_step

-- the tree of a node, by what is in the node
pub tree-condition : (condition : Condition)
    → condition_tree condition
    ≡ OrOf (conjunction_tree (out-Condition condition).first)
    (later_ands (map conjunction_tree (out-Condition condition).more.items))
tree-condition condition = fold_out-Condition NotTree OrTree AndTree term_step condition_step conjunction_step condition

pub tree-conjunction : (conjunction : Conjunction)
    → conjunction_tree conjunction
    ≡ AndOf (term_tree (out-Conjunction conjunction).first)
    (later_nots (map term_tree (out-Conjunction conjunction).more.items))
tree-conjunction conjunction = fold_out-Conjunction NotTree OrTree AndTree term_step condition_step conjunction_step conjunction

pub tree-not : (term : Box Term Global) → term_tree (terms.Not term) ≡ Negated (term_tree term.value)
tree-not term =
    ap term_tree (sym (terms.rolls-Not term))
    ∙ fold-roll-Term NotTree OrTree AndTree term_step condition_step conjunction_step (Term-F.Not term)

pub tree-group : (condition : Box Condition Global) → term_tree (terms.Group condition) ≡ Grouped (condition_tree condition.value)
tree-group condition =
    ap term_tree (sym (terms.rolls-Group condition))
    ∙ fold-roll-Term NotTree OrTree AndTree term_step condition_step conjunction_step (Term-F.Group condition)

pub tree-call : (call : Call) (argument : Span) → term_tree (terms.Call call argument) ≡ Called call argument
tree-call call argument =
    ap term_tree (sym (terms.rolls-Call call argument))
    ∙ fold-roll-Term NotTree OrTree AndTree term_step condition_step conjunction_step (Term-F.Call call argument)

pub tree-compare : (left : Side) (comparison : Comparison) (right : Side)
    → term_tree (terms.Compare left comparison right) ≡ Compared left comparison right
tree-compare left comparison right =
    ap term_tree (sym (terms.rolls-Compare left comparison right))
    ∙ fold-roll-Term NotTree OrTree AndTree term_step condition_step conjunction_step
    (Term-F.Compare left comparison right)

pub tree-side : (side : Side) → term_tree (terms.Side side) ≡ Alone side
tree-side side =
    ap term_tree (sym (terms.rolls-Side side))
    ∙ fold-roll-Term NotTree OrTree AndTree term_step condition_step conjunction_step (Term-F.Side side)

-- the tokens that a reference points to
abbrev pub tokens_left : Option (Bor (List Token)) → Option (List Token)
tokens_left left = option_map (λ rest. rest.now) left

-- what was read, and the tokens left
abbrev pub shown_read : {A B : Type 0} → (A → B) → Option (A × Bor (List Token)) → Option (B × List Token)
shown_read shown read = option_map (λ x. (shown x.0, x.1.now)) read

abbrev pub read_as_it_is : {A : Type 0} → Option (A × Bor (List Token)) → Option (A × List Token)
read_as_it_is read = shown_read (λ x. x) read
