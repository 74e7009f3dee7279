use Rattle.std.proofs.Common.{◌≡◌, ◌+◌, ◌*◌, map, drop, length}
use Rattle.mk_base.specs.Meter.{IsLater}
use Rattle.mk_files.specs.Questions.{account}
use Rattle.mk_files.specs.AfterQuestions.{AfterQuestions}
use Rattle.mk_cond_tree.specs.Reader.{later_ands, later_nots}
use Rattle.mk_cond_tree.specs.Trees.{or_tokens, and_tokens, not_tokens}
use Rattle.mk_cond_tree.specs.Views.{condition_tree, conjunction_tree, term_tree}
use Rattle.mk_cond.specs.Leaves.{surroundings_of}
use Rattle.mk_cond.specs.Truths.{later_ands_truth, later_nots_truth}
use Rattle.mk_cond.proofs.trees.+truth.Given as goal

-- there are fewer tokens inside, or as many one rank lower
abbrev pub decreases-term_truth : goal.decreases-term_truth
decreases-term_truth g l = 3 * length (not_tokens (term_tree l.term.now))

abbrev pub decreases-conjunction_truth : goal.decreases-conjunction_truth
decreases-conjunction_truth g l = 3 * length (and_tokens (conjunction_tree l.conjunction.now)) + 1

abbrev pub decreases-condition_truth : goal.decreases-condition_truth
decreases-condition_truth g l = 3 * length (or_tokens (condition_tree l.condition.now)) + 2

-- what is left to look at, from the held answer, ends as all of it from the first one
abbrev pub invariant-condition_truth-loop-conjunction : goal.invariant-condition_truth-loop-conjunction
invariant-condition_truth-loop-conjunction g l =
    let view = g.F.Names.view in
    let s = surroundings_of l.setting (view l.fn.files).files in
    record {
      goes : later_ands_truth s (later_ands (map conjunction_tree l.conjunction-items)) l.initial.held
          (account l.initial.budget (view l.initial.files))
          ≡ later_ands_truth s (later_ands (map conjunction_tree (drop l.conjunction-index l.conjunction-items))) l.held
          (account l.budget (view l.files));
      asked : AfterQuestions (view l.fn.files) (view l.files);
      later : IsLater l.fn.budget l.budget;
    }

abbrev pub invariant-conjunction_truth-loop-term : goal.invariant-conjunction_truth-loop-term
invariant-conjunction_truth-loop-term g l =
    let view = g.F.Names.view in
    let s = surroundings_of l.setting (view l.fn.files).files in
    record {
      goes : later_nots_truth s (later_nots (map term_tree l.term-items)) l.initial.held (account l.initial.budget (view l.initial.files))
          ≡ later_nots_truth s (later_nots (map term_tree (drop l.term-index l.term-items))) l.held (account l.budget (view l.files));
      asked : AfterQuestions (view l.fn.files) (view l.files);
      later : IsLater l.fn.budget l.budget;
    }
