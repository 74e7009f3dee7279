-- No trace up to here agrees.
use Rattle.std.proofs.Common.{◌≤◌, ◌*◌, drop}
use Rattle.turn_amounts.specs.declared.TheConstants.{MOST_ANSWERS}
use Rattle.eval_cache.specs.Held.{traces_of}
use Rattle.eval_cache.proofs.LookLemmas.{Checked}
use Rattle.eval_cache.proofs.look.first_agreeing.Given as goal

abbrev pub invariant-loop-evaluation : goal.invariant-loop-evaluation
invariant-loop-evaluation g l = record {
  bound : l.checked ≤ MOST_ANSWERS * l.evaluation-index;
  so_far : Checked (g.F.Names.view l.initial.files) (traces_of l.kept) (traces_of (drop l.evaluation-index l.kept)) l.checked
      (g.F.Names.view l.files);
}
