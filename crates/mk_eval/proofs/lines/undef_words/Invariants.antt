use Rattle.std.proofs.Common.{◌≡◌, map, drop}
use Rattle.mk_text.specs.Words.{span_text}
use Rattle.mk_eval.specs.Lines.{without_variables}
use Rattle.mk_eval.proofs.lines.undef_words.Given as goal

-- to take away the words that are left, from here, is to take away all of them from the start
abbrev pub invariant-loop-span : goal.invariant-loop-span
invariant-loop-span l =
    without_variables l.initial.env (map (span_text l.text) l.span-items) ≡ without_variables l.env
    (map (span_text l.text) (drop l.span-index l.span-items))
