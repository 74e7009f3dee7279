-- The name is taken out.
use Rattle.std.proofs.Common.{None}
use Rattle.std.proofs.lemmas.Map.Text.{btree_map_updates_text}
use Rattle.tenant_store.proofs.file_lengths.forget.Goals as goal

pub returns : goal.returns
returns c = btree_map_updates_text c.args.name.now c.args.lengths.now c.remove-noted.new.self None c.remove-noted.ensures.updates
