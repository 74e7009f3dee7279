-- The tokens of the parts of a tree are among those of the tree.
use Rattle.std.proofs.Common.{◌≡◌, ◌<◌, ◌≤◌, ◌+◌, ◌∙◌, ℕ, zero, suc, List, [], ◌∷◌, ◌++◌, map, length, get_or, All, Box, Global, refl, sym}
use Rattle.std.proofs.Common.{ap, subst, arith, length-append, append_assoc}
use Rattle.std.proofs.Math.ListN.{get_or-append}
use Rattle.std.proofs.lemmas.List.{get_or-append-add}
use Rattle.std.proofs.lemmas.List.Elements.{All-head, All-tail}
use Rattle.mk_text.specs.declared.word_spans.Span.{Span}
use Rattle.mk_cond_tree.specs.declared.nodes.Condition.{Condition, out-Condition}
use Rattle.mk_cond_tree.specs.declared.nodes.Conjunction.{Conjunction, out-Conjunction}
use Rattle.mk_cond_tree.specs.declared.nodes.Term.{Term}
use Rattle.mk_cond_tree.specs.declared.nodes.Term.TheVariants as v
use Rattle.mk_cond_tree.specs.declared.tokens.Call.{Call}
use Rattle.mk_cond_tree.specs.declared.tokens.Comparison.{Comparison}
use Rattle.mk_cond_tree.specs.declared.tokens.Side.{Side}
use Rattle.mk_cond_tree.specs.declared.tokens.Token.{Token}
use Rattle.mk_cond_tree.specs.declared.tokens.Token.TheVariants as t
use Rattle.mk_cond_tree.specs.Reader.{later_ands, later_nots}
use Rattle.mk_cond_tree.specs.Trees.{or_tokens, later_and_tokens, and_tokens, later_not_tokens, not_tokens}
use Rattle.mk_cond_tree.specs.Views.{condition_tree, conjunction_tree, term_tree, tree-condition, tree-conjunction, tree-not, tree-group}
use Rattle.mk_cond_tree.specs.Views.{tree-call, tree-compare, tree-side}

-- tokens that are among others, one after another
pub record IsPart (part all : List Token) : Type 0 where
  pub before : List Token
  pub behind : List Token
  pub is : all ≡ before ++ (part ++ behind)

pub part-length : (part all : List Token) → IsPart part all → length part ≤ length all
part-length part all h = omega (arith, ap length h.is, length-append h.before (part ++ h.behind), length-append part h.behind)

front : {X : Type 0} (P : X → Type 0) (xs ys : List X) → All P (xs ++ ys) → All P xs
front P xs ys all = λ k d low. subst P (get_or-append xs ys d k low) (all k d (omega (arith, low, length-append xs ys)))

back : {X : Type 0} (P : X → Type 0) (xs ys : List X) → All P (xs ++ ys) → All P ys
back P xs ys all = λ k d low. subst P (get_or-append-add xs ys k d) (all (length xs + k) d (omega (arith, low, length-append xs ys)))

pub part-All : (P : Token → Type 0) (part all : List Token) → IsPart part all → All P all → All P part
part-All P part all h each = front P part h.behind (back P h.before (part ++ h.behind) (subst (All P) h.is each))

after_more : (front part all : List Token) → IsPart part all → IsPart part (front ++ all)
after_more front part all h = record {
  before = front ++ h.before;
  behind = h.behind;
  is = ap (λ l. front ++ l) h.is
      ∙ sym (append_assoc front h.before (part ++ h.behind));
}

first_part : (part rest : List Token) → IsPart part (part ++ rest)
first_part part rest = record { before = []; behind = rest; is = refl }

-- a conjunction of a condition
pub first-and : (condition : Condition) → IsPart (and_tokens (conjunction_tree (out-Condition condition).first))
    (or_tokens (condition_tree condition))
first-and condition = subst (λ tree. IsPart (and_tokens (conjunction_tree (out-Condition condition).first)) (or_tokens tree))
    (sym (tree-condition condition))
    (first_part _ (later_and_tokens (later_ands (map conjunction_tree (out-Condition condition).more.items))))

one_of_ands : (items : List Conjunction) (i : ℕ) (item : Conjunction) → i < length items → item ≡ get_or items i item
    → IsPart (and_tokens (conjunction_tree item)) (later_and_tokens (later_ands (map conjunction_tree items)))
one_of_ands [] i item within is = absurd (omega arith)
one_of_ands (and ∷ items) zero item within is =
    subst (λ x. IsPart (and_tokens (conjunction_tree x)) (later_and_tokens (later_ands (map conjunction_tree (and ∷ items))))) (sym is)
    (after_more (t.Or ∷ []) (and_tokens (conjunction_tree and)) _
    (first_part (and_tokens (conjunction_tree and)) (later_and_tokens (later_ands (map conjunction_tree items)))))
one_of_ands (and ∷ items) (suc i) item within is =
    after_more (t.Or ∷ and_tokens (conjunction_tree and)) (and_tokens (conjunction_tree item))
    (later_and_tokens (later_ands (map conjunction_tree items))) (one_of_ands items i item (omega arith) is)

pub later-and : (condition : Condition) (items : List Conjunction) (i : ℕ) (item : Conjunction)
    → items ≡ (out-Condition condition).more.items → i < length items → item ≡ get_or items i item
    → IsPart (and_tokens (conjunction_tree item)) (or_tokens (condition_tree condition))
later-and condition items i item same within is =
    subst (λ tree. IsPart (and_tokens (conjunction_tree item)) (or_tokens tree)) (sym (tree-condition condition))
    (after_more (and_tokens (conjunction_tree (out-Condition condition).first)) (and_tokens (conjunction_tree item)) _
    (subst (λ more. IsPart (and_tokens (conjunction_tree item)) (later_and_tokens (later_ands (map conjunction_tree more)))) same
    (one_of_ands items i item within is)))

-- a term of a conjunction
pub first-not : (conjunction : Conjunction) → IsPart (not_tokens (term_tree (out-Conjunction conjunction).first))
    (and_tokens (conjunction_tree conjunction))
first-not conjunction = subst (λ tree. IsPart (not_tokens (term_tree (out-Conjunction conjunction).first)) (and_tokens tree))
    (sym (tree-conjunction conjunction))
    (first_part _ (later_not_tokens (later_nots (map term_tree (out-Conjunction conjunction).more.items))))

one_of_nots : (items : List Term) (i : ℕ) (item : Term) → i < length items → item ≡ get_or items i item
    → IsPart (not_tokens (term_tree item)) (later_not_tokens (later_nots (map term_tree items)))
one_of_nots [] i item within is = absurd (omega arith)
one_of_nots (term ∷ items) zero item within is =
    subst (λ x. IsPart (not_tokens (term_tree x)) (later_not_tokens (later_nots (map term_tree (term ∷ items))))) (sym is)
    (after_more (t.And ∷ []) (not_tokens (term_tree term)) _
    (first_part (not_tokens (term_tree term)) (later_not_tokens (later_nots (map term_tree items)))))
one_of_nots (term ∷ items) (suc i) item within is =
    after_more (t.And ∷ not_tokens (term_tree term)) (not_tokens (term_tree item)) (later_not_tokens (later_nots (map term_tree items)))
    (one_of_nots items i item (omega arith) is)

pub later-not : (conjunction : Conjunction) (items : List Term) (i : ℕ) (item : Term) → items ≡ (out-Conjunction conjunction).more.items
    → i < length items → item ≡ get_or items i item
    → IsPart (not_tokens (term_tree item)) (and_tokens (conjunction_tree conjunction))
later-not conjunction items i item same within is =
    subst (λ tree. IsPart (not_tokens (term_tree item)) (and_tokens tree)) (sym (tree-conjunction conjunction))
    (after_more (not_tokens (term_tree (out-Conjunction conjunction).first)) (not_tokens (term_tree item)) _
    (subst (λ more. IsPart (not_tokens (term_tree item)) (later_not_tokens (later_nots (map term_tree more)))) same
    (one_of_nots items i item within is)))

-- what is in a term
pub in-turned : (term : Term) (inner : Box Term Global) → term ≡ v.Not inner → not_tokens (term_tree term) ≡ t.Not ∷
    not_tokens (term_tree inner.value)
in-turned term inner is = ap not_tokens (ap term_tree is ∙ tree-not inner)

pub in-group : (term : Term) (inner : Box Condition Global) → term ≡ v.Group inner → not_tokens (term_tree term) ≡ t.Left ∷
    (or_tokens (condition_tree inner.value) ++ t.Right ∷ [])
in-group term inner is = ap not_tokens (ap term_tree is ∙ tree-group inner)

pub turned-shorter : (term : Term) (inner : Box Term Global) → term ≡ v.Not inner → length (not_tokens (term_tree inner.value)) < length
    (not_tokens (term_tree term))
turned-shorter term inner is = omega (arith, ap length (in-turned term inner is))

pub group-shorter : (term : Term) (inner : Box Condition Global) → term ≡ v.Group inner → length (or_tokens (condition_tree inner.value)) +
    2 ≤ length (not_tokens (term_tree term))
group-shorter term inner is =
    omega (arith, ap length (in-group term inner is), length-append (or_tokens (condition_tree inner.value)) (t.Right ∷ []))

module _ (P : Token → Type 0) where
  pub in_turned : (term : Term) (inner : Box Term Global) → term ≡ v.Not inner → All P (not_tokens (term_tree term))
      → All P (not_tokens (term_tree inner.value))
  in_turned term inner is all = All-tail P t.Not _ (subst (All P) (in-turned term inner is) all)

  pub in_group : (term : Term) (inner : Box Condition Global) → term ≡ v.Group inner → All P (not_tokens (term_tree term))
      → All P (or_tokens (condition_tree inner.value))
  in_group term inner is all = front P (or_tokens (condition_tree inner.value)) (t.Right ∷ [])
      (All-tail P t.Left _ (subst (All P) (in-group term inner is) all))

  pub in_call : (term : Term) (call : Call) (argument : Span) → term ≡ v.Call call argument → All P (not_tokens (term_tree term))
      → P (t.Call call argument)
  in_call term call argument is all =
      All-head P _ [] (subst (λ tree. All P (not_tokens tree)) (ap term_tree is ∙ tree-call call argument) all)

  in_compare : (term : Term) (left : Side) (comparison : Comparison) (right : Side) → term ≡ v.Compare left comparison right
      → All P (not_tokens (term_tree term))
      → All P (t.Side left ∷ t.Compare comparison ∷ t.Side right ∷ [])
  in_compare term left comparison right is all = subst (λ tree. All P (not_tokens tree))
      (ap term_tree is ∙ tree-compare left comparison right) all

  pub in_left : (term : Term) (left : Side) (comparison : Comparison) (right : Side) → term ≡ v.Compare left comparison right
      → All P (not_tokens (term_tree term)) → P (t.Side left)
  in_left term left comparison right is all = All-head P (t.Side left) (t.Compare comparison ∷ t.Side right ∷ [])
      (in_compare term left comparison right is all)

  pub in_right : (term : Term) (left : Side) (comparison : Comparison) (right : Side) → term ≡ v.Compare left comparison right
      → All P (not_tokens (term_tree term)) → P (t.Side right)
  in_right term left comparison right is all =
      All-head P (t.Side right) [] (All-tail P (t.Compare comparison) (t.Side right ∷ [])
      (All-tail P (t.Side left) (t.Compare comparison ∷ t.Side right ∷ []) (in_compare term left comparison right is all)))

  pub in_side : (term : Term) (side : Side) → term ≡ v.Side side → All P (not_tokens (term_tree term)) → P (t.Side side)
  in_side term side is all = All-head P _ [] (subst (λ tree. All P (not_tokens tree)) (ap term_tree is ∙ tree-side side) all)
