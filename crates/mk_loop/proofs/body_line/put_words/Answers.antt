use Rattle.std.proofs.Common.{All, refl, sym, subst, ◌∙◌, arith}
use Rattle.std.specs.Str.{IsCharBoundary}
use Rattle.std.proofs.lemmas.Str.{IsCharBoundary-start}
use Rattle.std.proofs.lemmas.List.Elements.{All-nil}
use Rattle.mk_base.specs.Meter.{IsLater-on}
use Rattle.mk_base.specs.Stops.{GivesPurely}
use Rattle.mk_ref.specs.Atoms.{atoms_of}
use Rattle.mk_loop.specs.Scopes.{words_in}
use Rattle.mk_loop.specs.Places.{Outermost, HasAsciiMark, IsKeptReference, made_or_line}
use Rattle.mk_loop.proofs.WholeLine.{stands-first, goes-first, goes-last}
use Rattle.mk_loop.proofs.Paying.{made-unspent}
use Rattle.mk_loop.proofs.body_line.put_words.Goals as goal

pub loop-alloc-init : goal.loop-alloc-init
loop-alloc-init c =
    let line = c.args.line.now in
    let pass = c.new-pass.result in
    let new = c.new-pass.ensures in
    record {
      later = record { limit = refl; spent = omega arith; questions = omega arith };
      placed = record {
        text = c.utf8.line;
        ordered = omega (arith, new.copied, new.at);
        within = omega (arith, new.at);
        starts = subst (IsCharBoundary line) (sym new.copied) (IsCharBoundary-start line c.utf8.line);
        marks = subst (All HasAsciiMark) (sym new.around) (All-nil HasAsciiMark);
        untouched = λ _. new.joined;
        kept = λ _. subst (All IsKeptReference) (sym new.around) (All-nil IsKeptReference);
      };
      paid = (λ _. refl, λ some. absurd (some new.copied));
      left = Outermost (atoms_of line);
      is_left = stands-first line pass c.in_ok-check_closed.ensures.whole new.around new.at;
      goes = goes-first (words_in c.args.loops.now) c.args.variables.now line pass c.args.budget.now c.in_ok-check_closed.ensures.whole
          new.joined new.copied new.at;
    }

pub loop-alloc-preserved : goal.loop-alloc-preserved
loop-alloc-preserved c =
    let invariant = c.loop-alloc.invariant in
    let step = c.in_ok-pass.ensures in
    let next = step.goes invariant.left invariant.is_left in
    record {
      later = IsLater-on invariant.later step.later;
      placed = step.placed;
      paid = step.paid c.args.budget.now invariant.paid;
      left = next.0;
      is_left = next.1.0;
      goes = invariant.goes ∙ next.1.1;
    }

pub returns-clause-gives : goal.returns-clause-gives
returns-clause-gives c =
    let line = c.args.line.now in
    let invariant = c.loop-alloc.invariant in
    subst (λ outcome. GivesPurely (made_or_line line) c.finished.result c.loop-alloc.budget outcome)
    (sym (invariant.goes ∙ goes-last (words_in c.args.loops.now) c.args.variables.now line c.loop-alloc.pass invariant.left
    c.loop-alloc.budget (omega arith) invariant.is_left))
    (c.finished.ensures.gives c.loop-alloc.budget)

pub returns-clause-none : goal.returns-clause-none
returns-clause-none c = made-unspent c.args.budget.now c.loop-alloc.budget c.loop-alloc.pass.copied c.finished.result
    c.loop-alloc.invariant.paid c.finished.ensures.none
