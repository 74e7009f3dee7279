use Rattle.std.proofs.Common.{◌≡◌, ◌∙◌, length, All, Ok, Err, ap, subst, arith, rules}
use Rattle.std.proofs.lemmas.Result.{err_from_is_err_and}
use Rattle.mk_base.specs.Meter.{IsLater-on}
use Rattle.mk_files.specs.Questions.{account}
use Rattle.mk_files.specs.AfterQuestions.{AfterQuestions-on, AfterQuestions-files}
use Rattle.mk_files.specs.Work.{DoesWork-stops}
use Rattle.mk_cond_tree.specs.Placed.{IsTokenIn}
use Rattle.mk_cond_tree.specs.Trees.{or_tokens, not_tokens}
use Rattle.mk_cond_tree.specs.Views.{condition_tree, conjunction_tree, term_tree}
use Rattle.mk_cond.specs.Leaves.{surroundings_of}
use Rattle.mk_cond.specs.Truths.{and_truth, not_truth}
use Rattle.mk_cond.proofs.Operands.{or-begins, ands-decided, ands-next, ands-stop, ands-end, and-begins, nots-decided, nots-next, nots-stop}
use Rattle.mk_cond.proofs.Operands.{nots-end}
use Rattle.mk_cond.proofs.Placing.{part-length, part-All, first-and, later-and, first-not, later-not, turned-shorter, group-shorter}
use Rattle.mk_cond.proofs.Placing.{in_turned, in_group, in_call, in_left, in_right, in_side}
use Rattle.mk_cond.proofs.trees.+truth.Goals as goal

pub condition_truth-conjunction_truth-requires : goal.condition_truth-conjunction_truth-requires
condition_truth-conjunction_truth-requires g t c κs within =
    let part = first-and c.args.condition.now in
    (omega (arith, part-length _ _ part), (within, part-All (IsTokenIn c.args.setting.text.now) _ _ part c.requires))

pub condition_truth-conjunction_truth-requires-in-loop-conjunction : goal.condition_truth-conjunction_truth-requires-in-loop-conjunction
condition_truth-conjunction_truth-requires-in-loop-conjunction g t c κs within =
    let part = later-and c.args.condition.now c.deref-conjunction-items.result.now c.loop-conjunction.conjunction-index
    c.conjunction-item.result c.deref-conjunction-items.ensures.value c.loop-conjunction-test.true c.conjunction-item.is in
    (omega (arith, part-length _ _ part), (within, part-All (IsTokenIn c.args.setting.text.now) _ _ part c.requires))

pub condition_truth-returns-then-held : goal.condition_truth-returns-then-held
condition_truth-returns-then-held g t c =
    let view = g.F.Names.view in
    let s = surroundings_of c.args.setting (view c.args.files.now).files in
    let items = c.deref-conjunction-items.result.now in
    record {
      gives = or-begins s c.args.condition.now items _ _ c.in_ok-held.held c.deref-conjunction-items.ensures.value
          c.in_ok-held.ensures.gives ∙ c.loop-conjunction.invariant.goes ∙ ands-decided s _ c.loop-conjunction.held _ c.if-held.true;
      asks = c.loop-conjunction.invariant.asked;
      later = c.loop-conjunction.invariant.later;
    }

pub condition_truth-returns-in_err-held-2 : goal.condition_truth-returns-in_err-held-2
condition_truth-returns-in_err-held-2 g t c =
    let view = g.F.Names.view in
    let s = surroundings_of c.args.setting (view c.args.files.now).files in
    let items = c.deref-conjunction-items.result.now in
    let same = AfterQuestions-files (view c.args.files.now) (view c.loop-conjunction.files) c.loop-conjunction.invariant.asked in
    let p = err_from_is_err_and c.from_residual-in_err-held-2.result c.from_residual-in_err-held-2.ensures.1 in
    rw (p.1, p.2)
    (DoesWork-stops g.F.Names.fails_with (λ held. held) (λ held. held) c.in_err-held-2.field-0.0 _ _
    (c.args.budget.now, view c.args.files.now) (c.loop-conjunction.budget, view c.loop-conjunction.files)
    (c.conjunction_truth-in-loop-conjunction.new.budget, view c.conjunction_truth-in-loop-conjunction.new.files)
    c.loop-conjunction.invariant.asked c.loop-conjunction.invariant.later
    (λ end stops. or-begins s c.args.condition.now items _ _ c.in_ok-held.held c.deref-conjunction-items.ensures.value
    c.in_ok-held.ensures.gives ∙ c.loop-conjunction.invariant.goes ∙ ands-stop s items c.loop-conjunction.conjunction-index
    c.conjunction-item.result c.loop-conjunction.held _ end c.loop-conjunction-test.true c.conjunction-item.is c.if-held.false
    (subst (λ files. and_truth (surroundings_of c.args.setting files) (conjunction_tree c.conjunction-item.result)
    (account c.loop-conjunction.budget (view c.loop-conjunction.files)) ≡ Err end) same stops))
    c.in_err-held-2.ensures)

pub condition_truth-loop-conjunction-preserved : goal.condition_truth-loop-conjunction-preserved
condition_truth-loop-conjunction-preserved g t c =
    let view = g.F.Names.view in
    let s = surroundings_of c.args.setting (view c.args.files.now).files in
    let items = c.deref-conjunction-items.result.now in
    let same = AfterQuestions-files (view c.args.files.now) (view c.loop-conjunction.files) c.loop-conjunction.invariant.asked in
    record {
      goes = c.loop-conjunction.invariant.goes
          ∙ ands-next s items c.loop-conjunction.conjunction-index c.conjunction-item.result c.loop-conjunction.held c.in_ok-held-2.held _ _
          c.loop-conjunction-test.true c.conjunction-item.is c.if-held.false
          (subst (λ files. and_truth (surroundings_of c.args.setting files) (conjunction_tree c.conjunction-item.result)
          (account c.loop-conjunction.budget (view c.loop-conjunction.files)) ≡ Ok (
            c.in_ok-held-2.held,
            account c.conjunction_truth-in-loop-conjunction.new.budget
                (view c.conjunction_truth-in-loop-conjunction.new.files),
          )) same c.in_ok-held-2.ensures.gives);
      asked = AfterQuestions-on (view c.args.files.now) (view c.loop-conjunction.files) _ c.loop-conjunction.invariant.asked
          c.in_ok-held-2.ensures.asks;
      later = IsLater-on c.loop-conjunction.invariant.later c.in_ok-held-2.ensures.later;
    }

pub condition_truth-returns : goal.condition_truth-returns
condition_truth-returns g t c =
    let view = g.F.Names.view in
    let s = surroundings_of c.args.setting (view c.args.files.now).files in
    let items = c.deref-conjunction-items.result.now in
    record {
      gives = or-begins s c.args.condition.now items _ _ c.in_ok-held.held c.deref-conjunction-items.ensures.value
          c.in_ok-held.ensures.gives ∙ c.loop-conjunction.invariant.goes ∙ ands-end s items c.loop-conjunction.conjunction-index
          c.loop-conjunction.held _ (omega arith);
      asks = c.loop-conjunction.invariant.asked;
      later = c.loop-conjunction.invariant.later;
    }

pub conjunction_truth-term_truth-requires : goal.conjunction_truth-term_truth-requires
conjunction_truth-term_truth-requires g t c κs within =
    let part = first-not c.args.conjunction.now in
    (omega (arith, part-length _ _ part), (within, part-All (IsTokenIn c.args.setting.text.now) _ _ part c.requires))

pub conjunction_truth-term_truth-requires-in-loop-term : goal.conjunction_truth-term_truth-requires-in-loop-term
conjunction_truth-term_truth-requires-in-loop-term g t c κs within =
    let part = later-not c.args.conjunction.now c.deref-term-items.result.now c.loop-term.term-index c.term-item.result
    c.deref-term-items.ensures.value c.loop-term-test.true c.term-item.is in
    (omega (arith, part-length _ _ part), (within, part-All (IsTokenIn c.args.setting.text.now) _ _ part c.requires))

pub conjunction_truth-returns-then-not-held : goal.conjunction_truth-returns-then-not-held
conjunction_truth-returns-then-not-held g t c =
    let view = g.F.Names.view in
    let s = surroundings_of c.args.setting (view c.args.files.now).files in
    let items = c.deref-term-items.result.now in
    record {
      gives = and-begins s c.args.conjunction.now items _ _ c.in_ok-held.held c.deref-term-items.ensures.value c.in_ok-held.ensures.gives
          ∙ c.loop-term.invariant.goes ∙ nots-decided s _ c.loop-term.held _ c.if-not-held.true;
      asks = c.loop-term.invariant.asked;
      later = c.loop-term.invariant.later;
    }

pub conjunction_truth-returns-in_err-held-2 : goal.conjunction_truth-returns-in_err-held-2
conjunction_truth-returns-in_err-held-2 g t c =
    let view = g.F.Names.view in
    let s = surroundings_of c.args.setting (view c.args.files.now).files in
    let items = c.deref-term-items.result.now in
    let same = AfterQuestions-files (view c.args.files.now) (view c.loop-term.files) c.loop-term.invariant.asked in
    let p = err_from_is_err_and c.from_residual-in_err-held-2.result c.from_residual-in_err-held-2.ensures.1 in
    rw (p.1, p.2)
    (DoesWork-stops g.F.Names.fails_with (λ held. held) (λ held. held) c.in_err-held-2.field-0.0 _ _
    (c.args.budget.now, view c.args.files.now) (c.loop-term.budget, view c.loop-term.files)
    (c.term_truth-in-loop-term.new.budget, view c.term_truth-in-loop-term.new.files)
    c.loop-term.invariant.asked c.loop-term.invariant.later
    (λ end stops. and-begins s c.args.conjunction.now items _ _ c.in_ok-held.held c.deref-term-items.ensures.value
    c.in_ok-held.ensures.gives ∙ c.loop-term.invariant.goes ∙ nots-stop s items c.loop-term.term-index c.term-item.result
    c.loop-term.held _ end c.loop-term-test.true c.term-item.is c.if-not-held.false
    (subst (λ files. not_truth (surroundings_of c.args.setting files) (term_tree c.term-item.result)
    (account c.loop-term.budget (view c.loop-term.files)) ≡ Err end) same stops))
    c.in_err-held-2.ensures)

pub conjunction_truth-loop-term-preserved : goal.conjunction_truth-loop-term-preserved
conjunction_truth-loop-term-preserved g t c =
    let view = g.F.Names.view in
    let s = surroundings_of c.args.setting (view c.args.files.now).files in
    let items = c.deref-term-items.result.now in
    let same = AfterQuestions-files (view c.args.files.now) (view c.loop-term.files) c.loop-term.invariant.asked in
    record {
      goes = c.loop-term.invariant.goes
          ∙ nots-next s items c.loop-term.term-index c.term-item.result c.loop-term.held c.in_ok-held-2.held _ _ c.loop-term-test.true
          c.term-item.is c.if-not-held.false
          (subst (λ files. not_truth (surroundings_of c.args.setting files) (term_tree c.term-item.result)
          (account c.loop-term.budget (view c.loop-term.files)) ≡ Ok (
            c.in_ok-held-2.held,
            account c.term_truth-in-loop-term.new.budget
                (view c.term_truth-in-loop-term.new.files),
          )) same c.in_ok-held-2.ensures.gives);
      asked = AfterQuestions-on (view c.args.files.now) (view c.loop-term.files) _ c.loop-term.invariant.asked c.in_ok-held-2.ensures.asks;
      later = IsLater-on c.loop-term.invariant.later c.in_ok-held-2.ensures.later;
    }

pub conjunction_truth-returns : goal.conjunction_truth-returns
conjunction_truth-returns g t c =
    let view = g.F.Names.view in
    let s = surroundings_of c.args.setting (view c.args.files.now).files in
    let items = c.deref-term-items.result.now in
    record {
      gives = and-begins s c.args.conjunction.now items _ _ c.in_ok-held.held c.deref-term-items.ensures.value c.in_ok-held.ensures.gives
          ∙ c.loop-term.invariant.goes ∙ nots-end s items c.loop-term.term-index c.loop-term.held _ (omega arith);
      asks = c.loop-term.invariant.asked;
      later = c.loop-term.invariant.later;
    }

pub term_truth-term_truth-requires : goal.term_truth-term_truth-requires
term_truth-term_truth-requires g t c κs within = (
  let inner : c.deref.result.now ≡ c.in-Not.turned.value = search rules in
      let same = ap (λ x. length (not_tokens (term_tree x))) inner in
      omega (arith, same, turned-shorter c.args.term.now c.in-Not.turned c.in-Not.is),
  (
    within,
    subst (λ x. All (IsTokenIn c.args.setting.text.now) (not_tokens (term_tree x)))
        (let inner : c.in-Not.turned.value ≡ c.deref.result.now = search rules in inner)
        (in_turned (IsTokenIn c.args.setting.text.now) c.args.term.now c.in-Not.turned c.in-Not.is c.requires),
  ),
)

pub term_truth-condition_truth-requires : goal.term_truth-condition_truth-requires
term_truth-condition_truth-requires g t c κs within = (
  let inner : c.deref-in-Group.result.now ≡ c.in-Group.condition.value = search rules in
      let same = ap (λ x. length (or_tokens (condition_tree x))) inner in
      omega (arith, same, group-shorter c.args.term.now c.in-Group.condition c.in-Group.is),
  (
    within,
    subst (λ x. All (IsTokenIn c.args.setting.text.now) (or_tokens (condition_tree x)))
        (let inner : c.in-Group.condition.value ≡ c.deref-in-Group.result.now = search rules in inner)
        (in_group (IsTokenIn c.args.setting.text.now) c.args.term.now c.in-Group.condition c.in-Group.is c.requires),
  ),
)

pub term_truth-of-requires : goal.term_truth-of-requires
term_truth-of-requires g t c = in_call (IsTokenIn c.args.setting.text.now) c.args.term.now c.in-Call.call
    c.in-Call.argument c.in-Call.is c.requires

pub term_truth-compared-requires-clause-one_in : goal.term_truth-compared-requires-clause-one_in
term_truth-compared-requires-clause-one_in g t c = in_left (IsTokenIn c.args.setting.text.now) c.args.term.now c.in-Compare.one
    c.in-Compare.comparison c.in-Compare.other c.in-Compare.is c.requires

pub term_truth-compared-requires-clause-other_in : goal.term_truth-compared-requires-clause-other_in
term_truth-compared-requires-clause-other_in g t c = in_right (IsTokenIn c.args.setting.text.now) c.args.term.now c.in-Compare.one
    c.in-Compare.comparison c.in-Compare.other c.in-Compare.is c.requires

pub term_truth-side_truth-requires : goal.term_truth-side_truth-requires
term_truth-side_truth-requires g t c = in_side (IsTokenIn c.args.setting.text.now) c.args.term.now c.in-Side.side c.in-Side.is c.requires
