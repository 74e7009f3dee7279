-- What a row asked for is what it says.
use Rattle.std.proofs.Common.{◌∙◌}
use Rattle.std.proofs.lemmas.Result.{IfOk-weaker}
use Rattle.std.specs.BTreeMap.{get_by_text}
use Rattle.std.specs.BTreeSet.{contains_text}
use Rattle.port_index.proofs.AskingLemmas.{asked-same}
use Rattle.port_index.proofs.memory_rows.MemoryRows.paths_asking.Goals as goal

pub returns : goal.returns
returns c = IfOk-weaker c.paths_asking.result _ _
    (λ paths are path. are path ∙ asked-same (contains_text c.args.names.now) (get_by_text c.args.self.now.noted.rows path))
    c.paths_asking.ensures
