use Rattle.std.proofs.Common.{◌∙◌, sym, ap, nat_eq}
use Rattle.std.specs.List.{position}
use Rattle.mk_env.proofs.InsideParts.{first-colon, no-colon}
use Rattle.mk_env.proofs.insides.parted.Goals as goal

pub parted_at-requires-clause-within : goal.parted_at-requires-clause-within
parted_at-requires-clause-within c =
    (first-colon c.args.inside.now c.in-Some.at c.requires.whole (ap (position (λ b. nat_eq b 58)) (sym c.requires.same)
    ∙ sym c.in-Some.ensures)).within

pub parted_at-requires-clause-colon : goal.parted_at-requires-clause-colon
parted_at-requires-clause-colon c =
    (first-colon c.args.inside.now c.in-Some.at c.requires.whole (ap (position (λ b. nat_eq b 58)) (sym c.requires.same)
    ∙ sym c.in-Some.ensures)).colon

pub returns-in-Some-clause-name : goal.returns-in-Some-clause-name
returns-in-Some-clause-name c =
    c.parted_at.ensures.name
    ∙ (first-colon c.args.inside.now c.in-Some.at c.requires.whole (ap (position (λ b. nat_eq b 58)) (sym c.requires.same)
    ∙ sym c.in-Some.ensures)).name_is

pub returns-in-Some-clause-modifiers : goal.returns-in-Some-clause-modifiers
returns-in-Some-clause-modifiers c =
    c.parted_at.ensures.modifiers
    ∙ (first-colon c.args.inside.now c.in-Some.at c.requires.whole (ap (position (λ b. nat_eq b 58)) (sym c.requires.same)
    ∙ sym c.in-Some.ensures)).modifiers_are

pub returns-in-None-clause-name : goal.returns-in-None-clause-name
returns-in-None-clause-name c =
    (no-colon c.args.inside.now c.requires.whole (ap (position (λ b. nat_eq b 58)) (sym c.requires.same) ∙ sym c.in-None.ensures)).name_is

pub returns-in-None-clause-modifiers : goal.returns-in-None-clause-modifiers
returns-in-None-clause-modifiers c =
    (no-colon c.args.inside.now c.requires.whole (ap (position (λ b. nat_eq b 58)) (sym c.requires.same)
    ∙ sym c.in-None.ensures)).modifiers_are
