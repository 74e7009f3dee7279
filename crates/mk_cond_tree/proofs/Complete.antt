-- The tokens of a tree are read as that tree.
use Rattle.std.proofs.Common.{◌≡◌, ◌≤◌, ◌↔◌, IfSome, subst, ℕ, zero, suc, List, [], ◌∷◌, ◌++◌, Option, Some, None, option_map, refl, sym}
use Rattle.std.proofs.Common.{ap, ◌∙◌, arith, append_assoc, append-nil}
use Rattle.mk_cond_tree.specs.declared.tokens.Token.{Token}
use Rattle.mk_cond_tree.specs.declared.tokens.Token.TheVariants as t
use Rattle.mk_cond_tree.specs.Trees.{OrTree, OrOf, LaterAnds, NoAnds, MoreAnds, AndTree, AndOf, LaterNots, NoNots, MoreNots, NotTree}
use Rattle.mk_cond_tree.specs.Trees.{Negated, Grouped, Called, Compared, Alone, or_tokens, later_and_tokens, and_tokens, later_not_tokens}
use Rattle.mk_cond_tree.specs.Trees.{not_tokens, or_depth, later_and_depth, and_depth, later_not_depth, not_depth, IsTreeOf}
use Rattle.mk_cond_tree.specs.Reader.{after_or, after_and, first_comparison, operand_on, operands_after, operands, later_nots, later_ands}
use Rattle.mk_cond_tree.specs.Reader.{chain_on, or_by, side_term, group, negate, inside_of, read_not, read_and, read_or, with_nothing_left}
use Rattle.mk_cond_tree.specs.Reader.{tree_of_tokens}
use Rattle.mk_cond_tree.proofs.Chains.{operands-next}
use Rattle.mk_cond_tree.proofs.Sound.{Takes, not-sound, or-sound, and-takes, or-takes, not-shrinks, and-shrinks}

-- the terms, and the conjunctions, that are read after the first
abbrev read_nots : ℕ → List Token → Option (LaterNots × List Token)
read_nots levels tokens = option_map (λ x. (later_nots x.0, x.1)) (operands after_and (read_not levels) tokens)

abbrev read_ands : ℕ → List Token → Option (LaterAnds × List Token)
read_ands levels tokens = option_map (λ x. (later_ands x.0, x.1)) (operands after_or (read_and levels) tokens)

first_not : (not : NotTree) (x : Option (List NotTree × List Token))
    → option_map {U = AndTree × List Token} (λ later. (AndOf not (later_nots later.0), later.1)) x
    ≡ option_map {U = AndTree × List Token} (λ y. (AndOf not y.0, y.1))
    (option_map {U = LaterNots × List Token} (λ x. (later_nots x.0, x.1)) x)
first_not not None = refl
first_not not (Some x) = refl

first_and : (and : AndTree) (x : Option (List AndTree × List Token))
    → option_map {U = OrTree × List Token} (λ later. (OrOf and (later_ands later.0), later.1)) x
    ≡ option_map {U = OrTree × List Token} (λ y. (OrOf and y.0, y.1))
    (option_map {U = LaterAnds × List Token} (λ x. (later_ands x.0, x.1)) x)
first_and and None = refl
first_and and (Some x) = refl

more_nots : (not : NotTree) (x : Option (List NotTree × List Token))
    → option_map {U = LaterNots × List Token} (λ x. (later_nots x.0, x.1))
    (option_map {U = List NotTree × List Token} (λ later. (not ∷ later.0, later.1)) x)
    ≡ option_map {U = LaterNots × List Token} (λ y. (MoreNots not y.0, y.1))
    (option_map {U = LaterNots × List Token} (λ x. (later_nots x.0, x.1)) x)
more_nots not None = refl
more_nots not (Some x) = refl

more_ands : (and : AndTree) (x : Option (List AndTree × List Token))
    → option_map {U = LaterAnds × List Token} (λ x. (later_ands x.0, x.1))
    (option_map {U = List AndTree × List Token} (λ later. (and ∷ later.0, later.1)) x)
    ≡ option_map {U = LaterAnds × List Token} (λ y. (MoreAnds and y.0, y.1))
    (option_map {U = LaterAnds × List Token} (λ x. (later_ands x.0, x.1)) x)
more_ands and None = refl
more_ands and (Some x) = refl

nots_end : (levels : ℕ) (rest : List Token) → after_and rest ≡ None → read_nots levels rest ≡ Some (NoNots, rest)
nots_end levels rest is =
    ap (option_map {U = LaterNots × List Token} (λ x. (later_nots x.0, x.1)))
    (operands-next after_and (read_not levels) and-takes (not-shrinks levels) rest
    ∙ ap (operands_after (λ behind. operand_on (operands after_and (read_not levels)) (read_not levels behind)) rest) is)

ands_end : (levels : ℕ) (rest : List Token) → after_or rest ≡ None → read_ands levels rest ≡ Some (NoAnds, rest)
ands_end levels rest is =
    ap (option_map {U = LaterAnds × List Token} (λ x. (later_ands x.0, x.1)))
    (operands-next after_or (read_and levels) or-takes (and-shrinks levels) rest
    ∙ ap (operands_after (λ behind. operand_on (operands after_or (read_and levels)) (read_and levels behind)) rest) is)

nots_more : (levels : ℕ) (tokens left : List Token) (not : NotTree) → read_not levels tokens ≡ Some (not, left)
    → read_nots levels (t.And ∷ tokens) ≡ option_map {U = LaterNots × List Token} (λ y. (MoreNots not y.0, y.1)) (read_nots levels left)
nots_more levels tokens left not is =
    ap (option_map {U = LaterNots × List Token} (λ x. (later_nots x.0, x.1)))
    (operands-next after_and (read_not levels) and-takes (not-shrinks levels) (t.And ∷ tokens)
    ∙ ap (operand_on (operands after_and (read_not levels))) is)
    ∙ more_nots not (operands after_and (read_not levels) left)

ands_more : (levels : ℕ) (tokens left : List Token) (and : AndTree) → read_and levels tokens ≡ Some (and, left)
    → read_ands levels (t.Or ∷ tokens) ≡ option_map {U = LaterAnds × List Token} (λ y. (MoreAnds and y.0, y.1)) (read_ands levels left)
ands_more levels tokens left and is =
    ap (option_map {U = LaterAnds × List Token} (λ x. (later_ands x.0, x.1)))
    (operands-next after_or (read_and levels) or-takes (and-shrinks levels) (t.Or ∷ tokens)
    ∙ ap (operand_on (operands after_or (read_and levels))) is)
    ∙ more_ands and (operands after_or (read_and levels) left)

-- what may follow a term, and a conjunction
nots_follow : (more : LaterNots) (rest : List Token) → first_comparison rest ≡ None
    → first_comparison (later_not_tokens more ++ rest) ≡ None
nots_follow NoNots rest is = is
nots_follow (MoreNots not more) rest is = refl

ands_follow : (more : LaterAnds) (rest : List Token) → first_comparison rest ≡ None
    → first_comparison (later_and_tokens more ++ rest) ≡ None
ands_follow NoAnds rest is = is
ands_follow (MoreAnds and more) rest is = refl

ands_part : (more : LaterAnds) (rest : List Token) → after_and rest ≡ None → after_and (later_and_tokens more ++ rest) ≡ None
ands_part NoAnds rest is = is
ands_part (MoreAnds and more) rest is = refl

mutual
  unfolding inside_of

  pub not-complete : (not : NotTree) (levels : ℕ) (rest : List Token) → not_depth not ≤ levels → first_comparison rest ≡ None
      → read_not levels (not_tokens not ++ rest) ≡ Some (not, rest)
  not-complete (Negated not) zero rest low is = absurd (omega arith)
  not-complete (Negated not) (suc levels) rest low is = ap negate (not-complete not levels rest (omega arith) is)
  not-complete (Grouped or) zero rest low is = absurd (omega arith)
  not-complete (Grouped or) (suc levels) rest low is =
      ap group (ap (or_by (read_not levels)) (append_assoc (or_tokens or) (t.Right ∷ []) rest)
      ∙ or-complete or levels (t.Right ∷ rest) (omega arith) refl refl refl)
  not-complete (Called call argument) levels rest low is = refl
  not-complete (Compared left comparison right) levels rest low is = refl
  not-complete (Alone side) levels rest low is = ap (side_term side rest) is

  later-not-complete : (more : LaterNots) (levels : ℕ) (rest : List Token) → later_not_depth more ≤ levels
      → first_comparison rest ≡ None → after_and rest ≡ None
      → read_nots levels (later_not_tokens more ++ rest) ≡ Some (more, rest)
  later-not-complete NoNots levels rest low is ends = nots_end levels rest ends
  later-not-complete (MoreNots not more) levels rest low is ends =
      ap (λ l. read_nots levels (t.And ∷ l)) (append_assoc (not_tokens not) (later_not_tokens more) rest)
      ∙ nots_more levels (not_tokens not ++ (later_not_tokens more ++ rest)) (later_not_tokens more ++ rest) not
      (not-complete not levels (later_not_tokens more ++ rest) (omega arith) (nots_follow more rest is))
      ∙ ap (option_map {U = LaterNots × List Token} (λ y. (MoreNots not y.0, y.1)))
      (later-not-complete more levels rest (omega arith) is ends)

  pub and-complete : (and : AndTree) (levels : ℕ) (rest : List Token) → and_depth and ≤ levels
      → first_comparison rest ≡ None → after_and rest ≡ None
      → read_and levels (and_tokens and ++ rest) ≡ Some (and, rest)
  and-complete (AndOf not more) levels rest low is ends =
      ap (read_and levels) (append_assoc (not_tokens not) (later_not_tokens more) rest)
      ∙ ap (chain_on (λ first later. AndOf first (later_nots later)) (operands after_and (read_not levels)))
      (not-complete not levels (later_not_tokens more ++ rest) (omega arith) (nots_follow more rest is))
      ∙ first_not not (operands after_and (read_not levels) (later_not_tokens more ++ rest))
      ∙ ap (option_map {U = AndTree × List Token} (λ y. (AndOf not y.0, y.1))) (later-not-complete more levels rest (omega arith) is ends)

  later-and-complete : (more : LaterAnds) (levels : ℕ) (rest : List Token) → later_and_depth more ≤ levels
      → first_comparison rest ≡ None → after_and rest ≡ None
      → after_or rest ≡ None → read_ands levels (later_and_tokens more ++ rest) ≡ Some (more, rest)
  later-and-complete NoAnds levels rest low is parts ends = ands_end levels rest ends
  later-and-complete (MoreAnds and more) levels rest low is parts ends =
      ap (λ l. read_ands levels (t.Or ∷ l)) (append_assoc (and_tokens and) (later_and_tokens more) rest)
      ∙ ands_more levels (and_tokens and ++ (later_and_tokens more ++ rest)) (later_and_tokens more ++ rest) and
      (and-complete and levels (later_and_tokens more ++ rest) (omega arith) (ands_follow more rest is) (ands_part more rest parts))
      ∙ ap (option_map {U = LaterAnds × List Token} (λ y. (MoreAnds and y.0, y.1)))
      (later-and-complete more levels rest (omega arith) is parts ends)

  pub or-complete : (or : OrTree) (levels : ℕ) (rest : List Token) → or_depth or ≤ levels → first_comparison rest ≡ None
      → after_and rest ≡ None → after_or rest ≡ None
      → read_or levels (or_tokens or ++ rest) ≡ Some (or, rest)
  or-complete (OrOf and more) levels rest low is parts ends =
      ap (read_or levels) (append_assoc (and_tokens and) (later_and_tokens more) rest)
      ∙ ap (chain_on (λ first later. OrOf first (later_ands later)) (operands after_or (read_and levels)))
      (and-complete and levels (later_and_tokens more ++ rest) (omega arith) (ands_follow more rest is) (ands_part more rest parts))
      ∙ first_and and (operands after_or (read_and levels) (later_and_tokens more ++ rest))
      ∙ ap (option_map {U = OrTree × List Token} (λ y. (OrOf and y.0, y.1)))
      (later-and-complete more levels rest (omega arith) is parts ends)

-- the tree of tokens is read
pub tree-read : (limit : ℕ) (tokens : List Token) (tree : OrTree) → IsTreeOf limit tokens tree → tree_of_tokens limit tokens ≡ Some tree
tree-read limit tokens tree is =
    ap with_nothing_left (ap (read_or limit) (sym is.in_order ∙ sym (append-nil (or_tokens tree)))
    ∙ or-complete tree limit [] is.not_deep refl refl refl)

pub none_some : {tree : OrTree} → None ≡ Some tree → ⊥
none_some is = cc

same : {one other : OrTree} → Some one ≡ Some other → one ≡ other
same is = cc

nothing_left : (limit : ℕ) (tokens : List Token) (tree : OrTree) (read : Option (OrTree × List Token))
    → IfSome read (Takes or_tokens or_depth limit tokens)
    → with_nothing_left read ≡ Some tree → IsTreeOf limit tokens tree
nothing_left limit tokens tree None h is = absurd (none_some is)
nothing_left limit tokens tree (Some (read, [])) h is = subst (IsTreeOf limit tokens) (same is)
    (record { in_order = sym (append-nil (or_tokens read)) ∙ h.whole; not_deep = h.not_deep })
nothing_left limit tokens tree (Some (read, token ∷ rest)) h is = absurd (none_some is)

-- what is read is a tree of the tokens
pub read-tree : (limit : ℕ) (tokens : List Token) (tree : OrTree) → tree_of_tokens limit tokens ≡ Some tree → IsTreeOf limit tokens tree
read-tree limit tokens tree is = nothing_left limit tokens tree (read_or limit tokens)
    (or-sound limit (read_not limit) (not-sound limit) tokens) is

pub one-tree : (limit : ℕ) (tokens : List Token) (one other : OrTree) → IsTreeOf limit tokens one
    → IsTreeOf limit tokens other → one ≡ other
one-tree limit tokens one other is also = same (sym (tree-read limit tokens one is) ∙ tree-read limit tokens other also)

pub trees-read : (limit : ℕ) (tokens : List Token) (tree : OrTree) → IsTreeOf limit tokens tree ↔ (tree_of_tokens limit tokens ≡ Some tree)
trees-read limit tokens tree = (tree-read limit tokens tree, read-tree limit tokens tree)
