-- It finds all rows, and what is left of them is of them too.
use Rattle.std.proofs.Common.{refl, subst, sym}
use Rattle.std.specs.List.{All}
use Rattle.port_index.specs.Finders.{IsEntryOf}
use Rattle.port_index.proofs.FindingLemmas.{taken}
use Rattle.port_index.proofs.memory_rows.MemoryRows.finder.Goals as goal

pub returns : goal.returns
returns c = record {
  finds = refl;
  ahead = subst (All (IsEntryOf c.args.self.now)) (sym (taken c.range-left.result c.next.new.self c.next.result c.next.ensures.steps))
      (λ k d inside. ((c.range-left.ensures.in_range tt).0 k d inside).1);
}
