-- Other paths stay noted.
use Rattle.std.proofs.Common.{None}
use Rattle.std.proofs.lemmas.Map.Text.{btree_map_updates_text}
use Rattle.std.specs.BTreeMap.{get_by_text}
use Rattle.port_index.specs.AskedNames.{is_noted}
use Rattle.port_index.proofs.NotedLemmas.{taken-noted}
use Rattle.port_index.proofs.noted_rows.NotedRows.take_out.Goals as goal

pub returns-clause-others : goal.returns-clause-others
returns-clause-others c = btree_map_updates_text c.args.path.now c.args.self.now.rows c.remove.new.self None c.remove.ensures.updates

pub invariant_of-self-2 : goal.invariant_of-self-2
invariant_of-self-2 c = record {
  noted = taken-noted c.args.path.now (λ path. get_by_text c.args.self.now.rows path) (λ path. get_by_text c.remove.new.self path)
      (is_noted c.args.self.now.asked) (is_noted c.remove_all.new.self)
      (btree_map_updates_text c.args.path.now c.args.self.now.rows c.remove.new.self None c.remove.ensures.updates)
      c.remove_all.ensures c.args.self.now.noted;
}
