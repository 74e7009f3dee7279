use Rattle.std.proofs.Common.{true, false, sym, subst, ◌<◌}
use Rattle.mk_glob.specs.Signs.{signs_of}
use Rattle.mk_glob.proofs.EndLemmas.{UnclosedWithin-after}
use Rattle.mk_glob.proofs.LoopLemmas.{Goes, TakesMore, Goes-run, Goes-one, Goes-more, fits-over, fits-stuck, by_back-over, cut_where_fits}
use Rattle.mk_glob.proofs.LoopLemmas.{left, left-run, left-one, left-more}
use Rattle.mk_glob.proofs.matcher.glob.Goals as goal

pub step-requires : goal.step-requires
step-requires c = record {
  known = UnclosedWithin-after (signs_of c.args.pattern.now) (signs_of c.loop-behind.rest.pattern.now) c.loop-behind.unclosed
      c.loop-behind.invariant.within c.loop-behind.invariant.known;
}

pub returns-in-Over-clause-value : goal.returns-in-Over-clause-value
returns-in-Over-clause-value c =
    sym (fits-over c.args.pattern.now c.args.word.now c.loop-behind.rest c.loop-behind.back c.loop-behind.unclosed c.loop-behind.invariant
    c.in-Over.ensures.step.0 c.in-Over.ensures.step.1)

pub returns-in-Over-clause-cut : goal.returns-in-Over-clause-cut
returns-in-Over-clause-cut c =
    cut_where_fits c.args.pattern.now c.args.word.now true
    (sym (fits-over c.args.pattern.now c.args.word.now c.loop-behind.rest c.loop-behind.back c.loop-behind.unclosed c.loop-behind.invariant
    c.in-Over.ensures.step.0 c.in-Over.ensures.step.1))

pub loop-behind-preserved-in-Run : goal.loop-behind-preserved-in-Run
loop-behind-preserved-in-Run c =
    Goes-run c.args.pattern.now c.args.word.now c.loop-behind.rest c.loop-behind.back c.loop-behind.unclosed
    c.step.new.unclosed c.in-Run.behind
    c.loop-behind.invariant c.in-Run.ensures.learns c.in-Run.ensures.step

pub loop-behind-smaller-in-Run : goal.loop-behind-smaller-in-Run
loop-behind-smaller-in-Run c =
    left-run c.args.pattern.now c.args.word.now c.loop-behind.rest c.loop-behind.back c.loop-behind.unclosed c.in-Run.behind
    c.loop-behind.invariant c.in-Run.ensures.step

pub loop-behind-preserved-in-One : goal.loop-behind-preserved-in-One
loop-behind-preserved-in-One c =
    Goes-one c.args.pattern.now c.args.word.now c.loop-behind.rest c.loop-behind.back c.loop-behind.unclosed
    c.step.new.unclosed c.in-One.behind
    c.loop-behind.invariant c.in-One.ensures.learns c.in-One.ensures.step

pub loop-behind-smaller-in-One : goal.loop-behind-smaller-in-One
loop-behind-smaller-in-One c =
    left-one c.args.pattern.now c.args.word.now c.loop-behind.rest c.loop-behind.back c.loop-behind.unclosed c.in-One.behind
    c.loop-behind.invariant c.in-One.ensures.step

pub returns-in_default-clause-cut : goal.returns-in_default-clause-cut
returns-in_default-clause-cut c =
    cut_where_fits c.args.pattern.now c.args.word.now false
    (sym (fits-stuck c.args.pattern.now c.args.word.now c.loop-behind.rest c.loop-behind.back c.loop-behind.unclosed c.loop-behind.invariant
    c.in-Refused.ensures.step
    (by_back-over c.loop-behind.back (subst (TakesMore c.loop-behind.back) c.in_default.is c.and_then-back.ensures))))

pub loop-behind-preserved : goal.loop-behind-preserved
loop-behind-preserved c =
    subst (λ b. Goes c.args.pattern.now c.args.word.now c.in-Some.further b c.step.new.unclosed) (sym c.in-Some.is)
    (Goes-more c.args.pattern.now c.args.word.now c.loop-behind.rest c.loop-behind.back c.loop-behind.unclosed
    c.step.new.unclosed c.in-Some.further
    c.loop-behind.invariant c.in-Refused.ensures.learns c.in-Refused.ensures.step
    (subst (TakesMore c.loop-behind.back) c.in-Some.is c.and_then-back.ensures))

pub loop-behind-smaller : goal.loop-behind-smaller
loop-behind-smaller c =
    subst (λ b. left c.args.pattern.now c.args.word.now c.in-Some.further b
    < left c.args.pattern.now c.args.word.now c.loop-behind.rest c.loop-behind.back) (sym c.in-Some.is)
    (left-more c.args.pattern.now c.args.word.now c.loop-behind.rest c.loop-behind.back c.in-Some.further c.loop-behind.unclosed
    c.loop-behind.invariant (subst (TakesMore c.loop-behind.back) c.in-Some.is c.and_then-back.ensures))
