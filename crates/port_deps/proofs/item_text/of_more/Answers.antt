-- The parts after the first, by their colons.
use Rattle.std.proofs.Common.{◌≡◌, ◌∙◌, ◌<◌, ap, sym, ◌∷◌, None, Some, lit<, length}
use Rattle.std.proofs.lemmas.Str.Pattern.{split_once_first, contains_char}
use Rattle.std.specs.List.{position_or_len}
use Rattle.port_deps.specs.ItemText.{named_parts}
use Rattle.port_deps.proofs.Colons.{is_colon, without_colon, at_colon, some_colon, no_colon, four_parts}
use Rattle.port_deps.proofs.item_text.of_more.Goals as goal

pub returns-in-Some : goal.returns-in-Some
returns-in-Some c =
    let others = c.args.others.now in
    let targets = c.in-Some.targets.now in
    let cut = split_once_first 58 others (Some (c.in-Some._path, c.in-Some.targets)) c.in-Some.ensures.cases (lit< tt) in
    let there : position_or_len is_colon targets < length targets = some_colon targets
    ((contains_char 58 targets c.contains.result c.contains.ensures.cases (lit< tt)).0 c.if-contains.true) in
    four_parts c.args.first.now c.in-Some._path.now targets there
    ∙ sym (ap (λ parts. named_parts (c.args.first.now ∷ parts)) (at_colon others c.in-Some._path.now targets cut.0 cut.1 cut.2))

pub returns-in-Some-2 : goal.returns-in-Some-2
returns-in-Some-2 c =
    let others = c.args.others.now in
    let targets = c.in-Some.targets.now in
    let cut = split_once_first 58 others (Some (c.in-Some._path, c.in-Some.targets)) c.in-Some.ensures.cases (lit< tt) in
    let none : position_or_len is_colon targets ≡ length targets =
    no_colon targets (λ k inside is. (contains_char 58 targets c.contains.result c.contains.ensures.cases (lit< tt)).1 k inside is)
    c.if-contains.false in
    sym (ap (λ parts. named_parts (c.args.first.now ∷ parts)) (at_colon others c.in-Some._path.now targets cut.0 cut.1 cut.2)
    ∙ ap (λ parts. named_parts (c.args.first.now ∷ c.in-Some._path.now ∷ parts)) (without_colon targets none))

pub returns-in-None : goal.returns-in-None
returns-in-None c =
    let others = c.args.others.now in
    ap Some c.of_two.ensures
    ∙ sym (ap (λ parts. named_parts (c.args.first.now ∷ parts))
    (without_colon others (split_once_first 58 others None c.in-None.ensures.cases (lit< tt))))
