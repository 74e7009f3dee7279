use Rattle.std.proofs.Common.{◌++◌, map, sym, ap, ◌∙◌}
use Rattle.std.proofs.lemmas.List.{map-id}
use Rattle.std.proofs.lemmas.Iterator.{YieldsList-from_chars}
use Rattle.std.proofs.lemmas.Iterator.Consumers.{YieldsList-end}
use Rattle.mk_mods.specs.Marks.{Char}
use Rattle.mk_mods.specs.Views.{shown_mark}
use Rattle.mk_mods.proofs.marks.push_chars.Goals as goal

pub returns : goal.returns
returns c =
    let all = YieldsList-end (YieldsList-from_chars c.args.literal.now c.utf8.literal cc) c.loop-character.yielded _
    c.loop-character.yielded_by _ _ c.in-None.is c.next.ensures.steps in
    c.loop-character.invariant ∙ ap (λ l. map shown_mark c.args.marks.now.items ++ map Char l)
    (sym (map-id c.loop-character.yielded) ∙ all.0)
