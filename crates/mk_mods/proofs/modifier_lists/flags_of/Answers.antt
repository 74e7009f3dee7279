use Rattle.std.proofs.Common.{◌≡◌, ◌+◌, Bool, map, drop, get_or, sym, ap, subst₂, ◌∙◌, arith}
use Rattle.mk_mods.specs.declared.marks.Mark.TheVariants.{Char}
use Rattle.mk_mods.specs.Grammar.{flags_of}
use Rattle.mk_mods.specs.Views.{shown_mark}
use Rattle.mk_mods.proofs.ViewSteps.{map-next, map-rest}
use Rattle.mk_mods.proofs.ReadSteps.{flags_after, flags-every, flags-once, flags-all}
use Rattle.mk_mods.proofs.modifier_lists.flags_of.Goals as goal
use Rattle.mk_mods.proofs.modifier_lists.flags_of.Goals.{then-is, else-is+then-is-2}

pub returns-else-is-2-clause-flags : goal.returns-else-is-2-clause-flags
returns-else-is-2-clause-flags c =
    let all = map shown_mark c.args.marks.now in
    let at = c.loop-at.at in
    let mark = get_or c.args.marks.now at (Char 0) in
    flags-all (flags_of all) c.loop-at.every c.loop-at.once (shown_mark mark) (drop at all) (drop (at + 1) all) c.loop-at.invariant
    (map-next shown_mark c.args.marks.now at (Char 0) (omega arith)) (sym c.is.ensures ∙ c.if-is.false)
    (sym c.is-else-is.ensures ∙ c.if-is-2.false)
    ∙ ap (λ l. record { every = c.loop-at.every; once = c.loop-at.once; behind = l }) (sym (map-rest shown_mark c.args.marks.now at))

pub loop-at-preserved : goal.loop-at-preserved
loop-at-preserved c =
    let all = map shown_mark c.args.marks.now in
    let at = c.loop-at.at in
    let mark = get_or c.args.marks.now at (Char 0) in
    let next = map-next shown_mark c.args.marks.now at (Char 0) (omega arith) in
    let P : Bool → Bool → Type 0 = λ every once. flags_of all ≡ flags_after every once (flags_of (drop (at + 1) all)) in
    elim c.if-is.branch [
      | then-is w ↦
          subst₂ P (sym w.every-is) (sym w.once-is)
          (flags-every (flags_of all) c.loop-at.every c.loop-at.once (shown_mark mark) (drop at all) (drop (at + 1) all) c.loop-at.invariant
          next (sym c.is.ensures ∙ w.if-is.true))
      | else-is+then-is-2 w ↦
          subst₂ P (sym w.every-is) (sym w.once-is)
          (flags-once (flags_of all) c.loop-at.every c.loop-at.once (shown_mark mark) (drop at all) (drop (at + 1) all) c.loop-at.invariant
          next (sym c.is.ensures ∙ w.if-is.false)
          (sym w.is-else-is.ensures ∙ w.if-is-2.true))
    ]
