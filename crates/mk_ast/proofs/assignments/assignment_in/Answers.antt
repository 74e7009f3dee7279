use Rattle.std.proofs.Common.{sym, ap, ◌∙◌, nat_eq}
use Rattle.std.specs.List.{position}
use Rattle.std.specs.Option.{option_and_then}
use Rattle.mk_ast.specs.Kinds.{assignment_at}
use Rattle.mk_ast.proofs.Equals.{first-equals}
use Rattle.mk_ast.proofs.assignments.assignment_in.Goals as goal

pub assignment_at-requires-clause-within : goal.assignment_at-requires-clause-within
assignment_at-requires-clause-within c =
    (first-equals c.args.text.now c.in-Some.at (ap (position (λ b. nat_eq b 61)) (sym c.requires) ∙ sym c.in-Some.ensures)).within

pub assignment_at-requires-clause-equals : goal.assignment_at-requires-clause-equals
assignment_at-requires-clause-equals c =
    (first-equals c.args.text.now c.in-Some.at (ap (position (λ b. nat_eq b 61)) (sym c.requires) ∙ sym c.in-Some.ensures)).equals

pub returns-in-Some : goal.returns-in-Some
returns-in-Some c =
    c.assignment_at.ensures
    ∙ ap (option_and_then (assignment_at c.args.text.now)) (c.in-Some.ensures ∙ ap (position (λ b. nat_eq b 61)) c.requires)
