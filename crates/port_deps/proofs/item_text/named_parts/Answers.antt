-- The parts of an item, by its first colon.
use Rattle.std.proofs.Common.{◌≡◌, ◌∙◌, ap, sym, ◌==◌, false, None, Some, lit<, length}
use Rattle.std.proofs.lemmas.Str.Pattern.{split_once_first}
use Rattle.port_deps.specs.ItemText.{named_parts}
use Rattle.port_deps.proofs.Colons.{without_colon, at_colon, all_kept}
use Rattle.port_deps.proofs.item_text.named_parts.Goals as goal

pub returns-in-Some : goal.returns-in-Some
returns-in-Some c =
    let text = c.args.text.now in
    let cut = split_once_first 58 text (Some (c.in-Some.first, c.in-Some.others)) c.in-Some.ensures.cases (lit< tt) in
    let some : (length text == 0) ≡ false = sym c.is_empty.ensures ∙ c.if-is_empty.false in
    c.of_more.ensures
    ∙ sym (ap named_parts (all_kept text some c.requires ∙ at_colon text c.in-Some.first.now c.in-Some.others.now cut.0 cut.1 cut.2))

pub returns-in-None : goal.returns-in-None
returns-in-None c =
    let text = c.args.text.now in
    let some : (length text == 0) ≡ false = sym c.is_empty.ensures ∙ c.if-is_empty.false in
    sym (ap named_parts (all_kept text some c.requires
    ∙ without_colon text (split_once_first 58 text None c.in-None.ensures.cases (lit< tt))))
