use Rattle.std.proofs.Common.{◌≡◌, ◌-◌, length}
use Rattle.mk_base.specs.Meter.{IsLater}
use Rattle.mk_loop.specs.BodyLine as body_line
use Rattle.mk_loop.specs.Scopes.{words_in}
use Rattle.mk_loop.specs.Places.{Left, IsPlaced, IsPaid, HasLeft, here, goes}
use Rattle.mk_loop.proofs.body_line.put_words.Given as goal

abbrev pub invariant-loop-alloc : goal.invariant-loop-alloc
invariant-loop-alloc l = record {
  later : IsLater l.initial.budget l.budget;
  placed : IsPlaced l.line l.pass;
  paid : IsPaid l.initial.budget l.pass.copied l.budget;
  left : Left;
  is_left : HasLeft l.line l.pass left;
  goes : body_line.put_words (words_in l.loops) l.variables l.line l.initial.budget ≡ goes (words_in l.loops) l.variables left
      (here l.line l.pass) l.budget;
}

abbrev pub decreases-loop-alloc : goal.decreases-loop-alloc
decreases-loop-alloc l = length l.line - l.pass.at
