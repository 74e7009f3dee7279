-- What the query shows.
use Rattle.std.proofs.Common.{refl}
use Rattle.sqlite.specs.Held.{state}
use Rattle.sqlite.specs.Steps.{over_memory}
use Rattle.sqlite.proofs.Callers.{memory_is_clean}
use Rattle.tenant_store.proofs.Answering.{settings_ends}
use Rattle.tenant_store.proofs.Keeping.{still_kept, same_world}
use Rattle.tenant_store.proofs.queries.settings_rows.Goals as goal

pub returns : goal.returns
returns c =
    let new = c.query_all.new.self in
    let both = settings_ends (state over_memory c.args.conn.now) (state over_memory new) c.query_all.result c.requires.formed
    c.requires.settled refl (c.query_all.ensures.ok (memory_is_clean new)) (c.query_all.ensures.err (memory_is_clean new)) in
    let old = state over_memory c.args.conn.now in
    record {
      rows = both.0;
      kept = still_kept old (state over_memory new) c.requires both.1;
      same =
          same_world old (state over_memory new) both.1;
    }
