use Rattle.std.proofs.Common.{◌≡◌, drop, take, map}
use Rattle.mk_mods.specs.Grammar.{cut_before}
use Rattle.mk_mods.specs.Views.{shown_mark}
use Rattle.mk_mods.proofs.SuffixSteps.{cut_after}
use Rattle.mk_mods.proofs.suffix_modifier.cut_before.Given as goal

abbrev pub invariant-loop-at : goal.invariant-loop-at
invariant-loop-at l =
    let marks = map shown_mark l.marks in cut_before l.character marks ≡ cut_after (map shown_mark (take l.at l.marks))
    (cut_before l.character (drop l.at marks))
