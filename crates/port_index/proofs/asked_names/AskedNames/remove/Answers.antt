-- A name without a path goes.
use Rattle.std.proofs.Common.{◌∙◌, sym, ℕ, List, None}
use Rattle.std.proofs.lemmas.Map.Text.{btree_map_updates_text}
use Rattle.std.specs.BTreeMap.{get_by_text}
use Rattle.port_index.proofs.NotedLemmas.{Changed, noted-same}
use Rattle.port_index.proofs.asked_names.AskedNames.remove.Goals as goal

pub returns-then-leaves_none : goal.returns-then-leaves_none
returns-then-leaves_none c =
    let name = c.args.name.now in
    let old = λ (one : List ℕ). get_by_text c.leaves_none.new.self.paths one in
    let new = λ (one : List ℕ). get_by_text c.remove-none.new.self one in
    let changed : Changed name None old new =
    btree_map_updates_text name c.leaves_none.new.self.paths c.remove-none.new.self None c.remove-none.ensures.updates in
    λ one other. noted-same name None old new changed (λ q. sym (c.leaves_none.ensures.none c.if-leaves_none.true q)) one other
    ∙ c.leaves_none.ensures.less one other
