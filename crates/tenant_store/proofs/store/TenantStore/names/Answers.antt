-- The names that are noted are those of the files.
use Rattle.std.proofs.Common.{◌∙◌, ap}
use Rattle.std.specs.FinMap.{keys}
use Rattle.sqlite.specs.Held.{state}
use Rattle.sqlite.specs.Steps.{over_memory}
use Rattle.mk_paths.specs.World.{World, files_in}
use Rattle.sql_facts.proofs.Ending.{if_ok_then}
use Rattle.tenant_store.specs.Tables.{world_in_state}
use Rattle.tenant_store.proofs.store.TenantStore.names.Goals as goal

pub returns : goal.returns
returns c =
    if_ok_then c.list_of.result (λ names is. is c.self.inside.usage (files_in (world_in_state (state over_memory c.self.inside.conn)))
    c.self.invariant.1 ∙ ap (λ (w : World). keys (files_in w)) c.self.view_is)
    c.list_of.ensures
