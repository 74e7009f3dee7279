use Rattle.std.proofs.Common.{◌≡◌, ◌+◌, true, false, not, ◌&&◌, map, drop, get_or, string_bytes, refl, sym, ap, ◌∙◌, arith}
use Rattle.std.proofs.lemmas.Bool.{and_left, and_right}
use Rattle.mk_mods.specs.declared.marks.Mark.TheVariants.{Char}
use Rattle.mk_mods.specs.Marks.{is_char}
use Rattle.mk_mods.specs.Grammar.{pattern_from}
use Rattle.mk_mods.specs.Views.{shown_mark}
use Rattle.mk_mods.proofs.ViewSteps.{map-next, map-rest}
use Rattle.mk_mods.proofs.ReadSteps.{pattern_after, pattern-more, pattern-all}
use Rattle.mk_mods.proofs.modifier_lists.pattern_from.Goals as goal
use Rattle.mk_mods.proofs.modifier_lists.pattern_from.Goals.{else-is-via-then-is+else-not-escaped, else-is-via-else-is}

pub returns-then-not-escaped-clause-read : goal.returns-then-not-escaped-clause-read
returns-then-not-escaped-clause-read c =
    let all = map shown_mark c.args.marks.now in
    let at = c.loop-at.at in
    let mark = shown_mark (get_or c.args.marks.now at (Char 0)) in
    let colon : is_char 58 mark ≡ true = sym c.is.ensures ∙ c.if-is.true in
    let ends : (is_char 58 mark && not c.loop-at.escaped) ≡ true = rw (colon, c.if-not-escaped.true) in
    pattern-all (pattern_from false all) (string_bytes c.loop-at.pattern) c.loop-at.escaped mark (drop at all)
    (drop (at + 1) all) c.loop-at.invariant
    (map-next shown_mark c.args.marks.now at (Char 0) (omega arith)) ends
    ∙ ap (λ l. (string_bytes c.loop-at.pattern, l)) (sym (map-rest shown_mark c.args.marks.now at))

pub loop-at-preserved : goal.loop-at-preserved
loop-at-preserved c =
    let all = map shown_mark c.args.marks.now in
    let at = c.loop-at.at in
    let mark = shown_mark (get_or c.args.marks.now at (Char 0)) in
    let inside : (is_char 58 mark && not c.loop-at.escaped) ≡ false =
    elim c.else-is.branch [
      | else-is-via-then-is+else-not-escaped w ↦ let was : c.loop-at.escaped ≡ true = w.if-not-escaped.false in rw was
          (and_right (is_char 58 mark) false refl)
      | else-is-via-else-is w ↦ and_left (is_char 58 mark) (not c.loop-at.escaped) (sym c.is.ensures ∙ w.if-is.false)
    ] in
    pattern-more (pattern_from false all) (string_bytes c.loop-at.pattern) (string_bytes c.write_to.new.text) c.loop-at.escaped mark
    (drop at all) (drop (at + 1) all) c.loop-at.invariant
    (map-next shown_mark c.args.marks.now at (Char 0) (omega arith)) inside c.in_ok-write_to.ensures
    ∙ ap (λ e. pattern_after (string_bytes c.write_to.new.text) (pattern_from e (drop (at + 1) all))) (sym c.is-escaped.ensures)
