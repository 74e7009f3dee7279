use Rattle.std.proofs.Common.{option_map, sym, ap, ◌∙◌}
use Rattle.mk_cond_tree.specs.Views.{condition_tree}
use Rattle.mk_cond_tree.proofs.Found.{condition-found, condition-refused}
use Rattle.mk_cond_tree.proofs.InText.{places-in}
use Rattle.mk_cond_tree.proofs.condition.read_condition.Goals as goal

pub returns-in-Some-clause-tree : goal.returns-in-Some-clause-tree
returns-in-Some-clause-tree c =
    condition-found c.args.text.now c.as_slice.result.now (condition_tree c.in-Some.condition)
    (c.in_ok-ends_each_reference.ensures.closed c.if-not-branch.false)
    (c.as_slice.ensures.value ∙ c.in_ok-covered.ensures)
    (sym (ap (option_map condition_tree) (sym c.in-Some.is) ∙ c.in_ok-condition.ensures))

pub returns-clause-fault : goal.returns-clause-fault
returns-clause-fault c = (
  c.in_ok-ends_each_reference.ensures.closed c.if-not-branch.false,
  condition-refused c.args.text.now c.as_slice.result.now (c.as_slice.ensures.value ∙ c.in_ok-covered.ensures)
      (sym (ap (option_map condition_tree) (sym c.in-None.is) ∙ c.in_ok-condition.ensures)),
)

pub returns-in-Some-clause-places : goal.returns-in-Some-clause-places
returns-in-Some-clause-places c =
    places-in c.outside_keeps_places.ensures c.args.text.now c.utf8.text (condition_tree c.in-Some.condition)
    (condition-found c.args.text.now c.as_slice.result.now (condition_tree c.in-Some.condition)
    (c.in_ok-ends_each_reference.ensures.closed c.if-not-branch.false)
    (c.as_slice.ensures.value ∙ c.in_ok-covered.ensures)
    (sym (ap (option_map condition_tree) (sym c.in-Some.is) ∙ c.in_ok-condition.ensures)))
