-- A text of which no tree is one has none that is read.
use Rattle.std.proofs.Common.{◌≡◌, ◌∙◌, ℕ, List, [], Option, Some, None, Err, refl, ap, subst, rules}
use Rattle.mk_base.specs.declared.faults.FaultKind.TheVariants as kinds
use Rattle.mk_base.specs.Outcome.{after}
use Rattle.mk_ref.specs.Atoms.{left_of}
use Rattle.mk_ref.specs.Outside.{outside}
use Rattle.mk_files.specs.Questions.{Account}
use Rattle.mk_cond_tree.specs.Trees.{OrTree}
use Rattle.mk_cond_tree.specs.Conditions.{IsConditionOf, IsFaultOf, tree_in}
use Rattle.mk_cond_tree.specs.Laws.{ConditionsAreRead}
use Rattle.mk_cond.specs.Leaves.{Surroundings}
use Rattle.mk_cond.specs.Truths.{or_truth}
use Rattle.mk_cond.specs.Truth.{readable, tree_read, condition_truth}
use Rattle.mk_cond.proofs.directives.text_truth.Goals as goal

none_read : (law : ConditionsAreRead) (text : List ℕ) (found : Option OrTree) → left_of text ≡ []
    → ((tree : OrTree) → IsConditionOf text tree → ⊥) → tree_in (outside text) ≡ found → found ≡ None
none_read law text None ends none is = refl
none_read law text (Some tree) ends none is = absurd (none tree ((law text tree).1 (ends, is)))

unread : (s : Surroundings) (a : Account) → left_of s.text ≡ [] → tree_in (outside s.text) ≡ None
    → condition_truth s a ≡ Err (kinds.Condition, a)
unfolding condition_truth
unread s a ends none = ap (λ left. after (tree_read s.text left a) (or_truth s)) ends
    ∙ ap (λ found. after (readable found a) (or_truth s)) none

pub returns-in-Err-Unreadable : goal.returns-in-Err-Unreadable
returns-in-Err-Unreadable g c =
    let text = c.args.setting.text.now in
    let fault = subst (IsFaultOf text) c.in-Err-Unreadable.field-0-is c.in-Err-Unreadable.ensures.fault in
    record {
      gives = unread _ _ fault.0 (none_read c.conditions_are_read.ensures text (tree_in (outside text)) fault.0 fault.1 refl);
      asks = search rules;
      later = search rules;
    }
