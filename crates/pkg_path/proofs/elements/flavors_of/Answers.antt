-- Where each choice names a subpackage the flavors are the default, and else they are explicit.
use Rattle.std.proofs.Common.{◌≡◌, ◌∙◌, ap, sym, refl, ℕ, Bool, true, false, not, cond, ◌||◌, List, [], ◌∷◌, Some, None}
use Rattle.std.specs.Borrow.{Bor}
use Rattle.std.specs.List.{list_all, list_any, filter}
use Rattle.general_facts.specs.Bools.{not-and}
use Rattle.pkg_path.specs.Paths.{is_subpackage, is_flavor, flavors_of}
use Rattle.text_parts.specs.Order.{in_order}
use Rattle.text_parts.specs.Cuts.{now_all}
use Rattle.pkg_path.proofs.elements.flavors_of.Goals as goal

some_other : (choices : List (Bor (List ℕ))) → list_any (λ choice. not (is_subpackage choice)) (now_all choices) ≡ not
    (list_all (λ choice. is_subpackage choice.now) choices)
some_other [] = refl
some_other (choice ∷ choices) = ap (λ b. not (is_subpackage choice.now) || b) (some_other choices) ∙ not-and (is_subpackage choice.now) _

by_all : (choices : List (Bor (List ℕ))) (all : Bool) → list_all (λ choice. is_subpackage choice.now) choices ≡ all
    → flavors_of (now_all choices) ≡ cond all None (Some (in_order (filter is_flavor (now_all choices))))
by_all choices all e = ap (λ b. cond b (Some (in_order (filter is_flavor (now_all choices)))) None) (some_other choices ∙ ap not e)
    ∙ turned all
  where
    turned : (b : Bool) → cond (not b) (Some (in_order (filter is_flavor (now_all choices)))) None ≡ cond b None
        (Some (in_order (filter is_flavor (now_all choices))))
    turned true = refl
    turned false = refl

pub returns-then-all_subpackages : goal.returns-then-all_subpackages
returns-then-all_subpackages c = sym (by_all c.args.choices.now true (sym c.all_subpackages.ensures ∙ c.if-all_subpackages.true))

pub returns : goal.returns
returns c =
    ap Some (c.put_in_order.ensures ∙ ap in_order c.in_ok-flavors.ensures)
    ∙ sym (by_all c.args.choices.now false (sym c.all_subpackages.ensures ∙ c.if-all_subpackages.false))
