use Rattle.std.proofs.Common.{◌++◌, zero, length, Some, None, string_bytes, refl, sym, ap, ◌∙◌, arith, append_assoc, length-append}
use Rattle.std.proofs.lemmas.Result.{err_from_is_err_and}
use Rattle.mk_mods.specs.Substituted.{all_replaced}
use Rattle.mk_mods.proofs.JoinSteps.{too_long-over}
use Rattle.mk_mods.proofs.Replacing.{cut-of, after-utf8, all_replaced-cut, all_replaced-end}
use Rattle.mk_mods.proofs.substitution.all_replaced.Goals as goal

pub loop-front-preserved : goal.loop-front-preserved
loop-front-preserved c =
    let old = c.args.old.now in
    let new = c.args.new.now in
    let front = c.in-Some.front.now in
    let behind = c.in-Some.behind.now in
    let made = string_bytes c.loop-front.made in
    let cut = all_replaced-cut old new c.loop-front.rest.now front behind c.requires
    (cut-of old c.loop-front.rest.now (Some (c.in-Some.front, c.in-Some.behind)) c.in-Some.ensures.cases) in
    record {
      text = after-utf8 old c.loop-front.rest.now c.in-Some.front c.in-Some.behind c.in-Some.ensures.cases c.loop-front.invariant.text;
      small = c.in_ok-add_text-2.ensures.ok.0;
      goes = ap (λ l. l ++ all_replaced old new zero behind) (c.in_ok-add_text-2.ensures.ok.1
          ∙ ap (λ l. l ++ new) c.in_ok-add_text.ensures.ok.1)
          ∙ append_assoc (made ++ front) new (all_replaced old new zero behind)
          ∙ append_assoc made front (new ++ all_replaced old new zero behind)
          ∙ ap (λ l. made ++ l) (sym cut) ∙ c.loop-front.invariant.goes;
    }

pub returns-in_err-add_text-clause-err : goal.returns-in_err-add_text-clause-err
returns-in_err-add_text-clause-err c =
    let old = c.args.old.now in
    let new = c.args.new.now in
    let front = c.in-Some.front.now in
    let behind = c.in-Some.behind.now in
    let made = string_bytes c.loop-front.made in
    let cut = all_replaced-cut old new c.loop-front.rest.now front behind c.requires
    (cut-of old c.loop-front.rest.now (Some (c.in-Some.front, c.in-Some.behind)) c.in-Some.ensures.cases) in
    let p = err_from_is_err_and c.from_residual-in_err-add_text.result c.from_residual-in_err-add_text.ensures.1 in
    rw (p.1, p.2)
    (too_long-over _ _ _
    (omega (
      arith,
      ap length (ap (λ l. made ++ l) (sym cut) ∙ c.loop-front.invariant.goes),
      length-append made
          (front ++ (new ++ all_replaced old new zero behind)),
      length-append front (new ++ all_replaced old new zero behind),
      length-append made front,
    ))
    c.in_err-add_text.ensures.err)

pub returns-in_err-add_text-2-clause-err : goal.returns-in_err-add_text-2-clause-err
returns-in_err-add_text-2-clause-err c =
    let old = c.args.old.now in
    let new = c.args.new.now in
    let front = c.in-Some.front.now in
    let behind = c.in-Some.behind.now in
    let made = string_bytes c.loop-front.made in
    let later = all_replaced old new zero behind in
    let cut = all_replaced-cut old new c.loop-front.rest.now front behind c.requires
    (cut-of old c.loop-front.rest.now (Some (c.in-Some.front, c.in-Some.behind)) c.in-Some.ensures.cases) in
    let p = err_from_is_err_and c.from_residual-in_err-add_text-2.result c.from_residual-in_err-add_text-2.ensures.1 in
    rw (p.1, p.2)
    (too_long-over _ _ _
    (omega (
      arith,
      ap length (ap (λ l. made ++ l) (sym cut) ∙ c.loop-front.invariant.goes),
      length-append made (front ++ (new ++ later)),
      length-append front (new ++ later),
      length-append new later,
      length-append made front,
      length-append
          (string_bytes c.add_text.new.made) new,
      ap length c.in_ok-add_text.ensures.ok.1,
    ))
    c.in_err-add_text-2.ensures.err)

pub returns-in_err-add_text-3-clause-err : goal.returns-in_err-add_text-3-clause-err
returns-in_err-add_text-3-clause-err c =
    let whole = all_replaced-end c.args.old.now c.args.new.now (string_bytes c.loop-front.made) c.loop-front.rest.now _ None refl
    c.in_default.ensures.cases c.loop-front.invariant.goes in
    let p = err_from_is_err_and c.from_residual-in_err-add_text-3.result c.from_residual-in_err-add_text-3.ensures.1 in
    rw (p.1, p.2) (too_long-over _ _ _ (omega (arith, ap length whole)) c.in_err-add_text-3.ensures.err)

pub returns-clause-ok : goal.returns-clause-ok
returns-clause-ok c =
    let whole = all_replaced-end c.args.old.now c.args.new.now (string_bytes c.loop-front.made) c.loop-front.rest.now _ None refl
    c.in_default.ensures.cases c.loop-front.invariant.goes in
    let is = c.in_ok-add_text-3.ensures.ok.1 ∙ whole in
    (omega (arith, ap length is, c.in_ok-add_text-3.ensures.ok.0), is)
