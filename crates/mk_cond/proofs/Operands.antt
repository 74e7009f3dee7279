-- The truth of operands, one after another.
use Rattle.std.proofs.Common.{◌≡◌, ◌<◌, ◌+◌, ◌∙◌, ℕ, Bool, true, false, List, [], ◌∷◌, map, drop, length, get_or, Ok, Err, refl, sym, ap}
use Rattle.std.proofs.Common.{arith}
use Rattle.std.proofs.lemmas.List.{drop_more, drop_all}
use Rattle.mk_base.specs.declared.faults.FaultKind.{FaultKind}
use Rattle.mk_base.specs.Outcome.{after}
use Rattle.mk_files.specs.Questions.{Account}
use Rattle.mk_cond_tree.specs.declared.nodes.Condition.{Condition, out-Condition}
use Rattle.mk_cond_tree.specs.declared.nodes.Conjunction.{Conjunction, out-Conjunction}
use Rattle.mk_cond_tree.specs.declared.nodes.Term.{Term}
use Rattle.mk_cond_tree.specs.Reader.{later_ands, later_nots}
use Rattle.mk_cond_tree.specs.Views.{condition_tree, conjunction_tree, term_tree, tree-condition, tree-conjunction}
use Rattle.mk_cond.specs.Leaves.{Surroundings}
use Rattle.mk_cond.specs.Truths.{or_truth, later_ands_truth, and_truth, later_nots_truth, not_truth}

module _ (s : Surroundings) where
  or_is : (condition : Condition) (a : Account)
      → or_truth s (condition_tree condition) a ≡ after (and_truth s (conjunction_tree (out-Condition condition).first) a)
      (later_ands_truth s (later_ands (map conjunction_tree (out-Condition condition).more.items)))
  or_is condition a = ap (λ tree. or_truth s tree a) (tree-condition condition)

  -- the first conjunction, and then those after it
  pub or-begins : (condition : Condition) (items : List Conjunction) (a b : Account) (held : Bool)
      → items ≡ (out-Condition condition).more.items
      → and_truth s (conjunction_tree (out-Condition condition).first) a ≡ Ok (held, b)
      → or_truth s (condition_tree condition) a ≡ later_ands_truth s (later_ands (map conjunction_tree items)) held b
  or-begins condition items a b held same is =
      or_is condition a ∙ ap (λ end. after end
      (later_ands_truth s (later_ands (map conjunction_tree (out-Condition condition).more.items)))) is
      ∙ ap (λ more. later_ands_truth s (later_ands (map conjunction_tree more)) held b) (sym same)

  -- one that holds decides
  ands_hold : (more : List Conjunction) (a : Account) → later_ands_truth s (later_ands (map conjunction_tree more)) true a ≡ Ok (true, a)
  ands_hold [] a = refl
  ands_hold (and ∷ more) a = refl

  pub ands-decided : (more : List Conjunction) (held : Bool) (a : Account) → held ≡ true
      → later_ands_truth s (later_ands (map conjunction_tree more)) held a ≡ Ok (true, a)
  ands-decided more held a is = ap (λ h. later_ands_truth s (later_ands (map conjunction_tree more)) h a) is ∙ ands_hold more a

  ands_front : (items : List Conjunction) (i : ℕ) (item : Conjunction) (held : Bool) (a : Account) → i < length items
      → item ≡ get_or items i item → held ≡ false
      → later_ands_truth s (later_ands (map conjunction_tree (drop i items))) held a ≡ after (and_truth s (conjunction_tree item) a)
      (later_ands_truth s (later_ands (map conjunction_tree (drop (i + 1) items))))
  ands_front items i item held a within is none =
      ap (λ h. later_ands_truth s (later_ands (map conjunction_tree (drop i items))) h a) none
      ∙ ap (λ rest. later_ands_truth s (later_ands (map conjunction_tree rest)) false a) (drop_more items i item within
      ∙ ap (λ x. x ∷ drop (i + 1) items) (sym is))

  pub ands-next : (items : List Conjunction) (i : ℕ) (item : Conjunction) (held next : Bool) (a b : Account) → i < length items
      → item ≡ get_or items i item → held ≡ false
      → and_truth s (conjunction_tree item) a ≡ Ok (next, b)
      → later_ands_truth s (later_ands (map conjunction_tree (drop i items))) held a ≡ later_ands_truth s
      (later_ands (map conjunction_tree (drop (i + 1) items))) next b
  ands-next items i item held next a b within is none gives =
      ands_front items i item held a within is none
      ∙ ap (λ end. after end (later_ands_truth s (later_ands (map conjunction_tree (drop (i + 1) items))))) gives

  pub ands-stop : (items : List Conjunction) (i : ℕ) (item : Conjunction) (held : Bool) (a : Account) (end : FaultKind × Account)
      → i < length items → item ≡ get_or items i item → held ≡ false
      → and_truth s (conjunction_tree item) a ≡ Err end
      → later_ands_truth s (later_ands (map conjunction_tree (drop i items))) held a ≡ Err end
  ands-stop items i item held a end within is none stops =
      ands_front items i item held a within is none
      ∙ ap (λ stop. after stop (later_ands_truth s (later_ands (map conjunction_tree (drop (i + 1) items))))) stops

  pub ands-end : (items : List Conjunction) (i : ℕ) (held : Bool) (a : Account) → i ≡ length items
      → later_ands_truth s (later_ands (map conjunction_tree (drop i items))) held a ≡ Ok (held, a)
  ands-end items i held a all = ap (λ rest. later_ands_truth s (later_ands (map conjunction_tree rest)) held a)
      (drop_all i items (omega arith))

  and_is : (conjunction : Conjunction) (a : Account)
      → and_truth s (conjunction_tree conjunction) a ≡ after (not_truth s (term_tree (out-Conjunction conjunction).first) a)
      (later_nots_truth s (later_nots (map term_tree (out-Conjunction conjunction).more.items)))
  and_is conjunction a = ap (λ tree. and_truth s tree a) (tree-conjunction conjunction)

  -- the first term, and then those after it
  pub and-begins : (conjunction : Conjunction) (items : List Term) (a b : Account) (held : Bool)
      → items ≡ (out-Conjunction conjunction).more.items
      → not_truth s (term_tree (out-Conjunction conjunction).first) a ≡ Ok (held, b)
      → and_truth s (conjunction_tree conjunction) a ≡ later_nots_truth s (later_nots (map term_tree items)) held b
  and-begins conjunction items a b held same is =
      and_is conjunction a ∙
      ap (λ end. after end (later_nots_truth s (later_nots (map term_tree (out-Conjunction conjunction).more.items)))) is
      ∙ ap (λ more. later_nots_truth s (later_nots (map term_tree more)) held b) (sym same)

  -- one that doesn't hold decides
  nots_fail : (more : List Term) (a : Account) → later_nots_truth s (later_nots (map term_tree more)) false a ≡ Ok (false, a)
  nots_fail [] a = refl
  nots_fail (term ∷ more) a = refl

  pub nots-decided : (more : List Term) (held : Bool) (a : Account) → held ≡ false
      → later_nots_truth s (later_nots (map term_tree more)) held a ≡ Ok (false, a)
  nots-decided more held a is = ap (λ h. later_nots_truth s (later_nots (map term_tree more)) h a) is ∙ nots_fail more a

  nots_front : (items : List Term) (i : ℕ) (item : Term) (held : Bool) (a : Account) → i < length items
      → item ≡ get_or items i item → held ≡ true
      → later_nots_truth s (later_nots (map term_tree (drop i items))) held a ≡ after (not_truth s (term_tree item) a)
      (later_nots_truth s (later_nots (map term_tree (drop (i + 1) items))))
  nots_front items i item held a within is all =
      ap (λ h. later_nots_truth s (later_nots (map term_tree (drop i items))) h a) all
      ∙ ap (λ rest. later_nots_truth s (later_nots (map term_tree rest)) true a) (drop_more items i item within
      ∙ ap (λ x. x ∷ drop (i + 1) items) (sym is))

  pub nots-next : (items : List Term) (i : ℕ) (item : Term) (held next : Bool) (a b : Account) → i < length items
      → item ≡ get_or items i item → held ≡ true
      → not_truth s (term_tree item) a ≡ Ok (next, b)
      → later_nots_truth s (later_nots (map term_tree (drop i items))) held a ≡ later_nots_truth s
      (later_nots (map term_tree (drop (i + 1) items))) next b
  nots-next items i item held next a b within is all gives =
      nots_front items i item held a within is all
      ∙ ap (λ end. after end (later_nots_truth s (later_nots (map term_tree (drop (i + 1) items))))) gives

  pub nots-stop : (items : List Term) (i : ℕ) (item : Term) (held : Bool) (a : Account) (end : FaultKind × Account) → i < length items
      → item ≡ get_or items i item → held ≡ true
      → not_truth s (term_tree item) a ≡ Err end → later_nots_truth s (later_nots (map term_tree (drop i items))) held a ≡ Err end
  nots-stop items i item held a end within is all stops =
      nots_front items i item held a within is all
      ∙ ap (λ stop. after stop (later_nots_truth s (later_nots (map term_tree (drop (i + 1) items))))) stops

  pub nots-end : (items : List Term) (i : ℕ) (held : Bool) (a : Account) → i ≡ length items
      → later_nots_truth s (later_nots (map term_tree (drop i items))) held a ≡ Ok (held, a)
  nots-end items i held a all = ap (λ rest. later_nots_truth s (later_nots (map term_tree rest)) held a) (drop_all i items (omega arith))
