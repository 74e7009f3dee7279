-- The paths of the name have one fewer.
use Rattle.std.proofs.Common.{◌∙◌, ap, false, cond, ℕ, List, Some, rules}
use Rattle.std.proofs.lemmas.Map.Text.{btree_map_updates_text, btree_set_updates_text}
use Rattle.std.specs.BTreeMap.{get_by_text}
use Rattle.std.specs.Str.{bytes_eq}
use Rattle.port_index.specs.AskedNames.{is_in}
use Rattle.port_index.proofs.NotedLemmas.{Changed, noted-less}
use Rattle.port_index.proofs.asked_names.AskedNames.leaves_none.Goals as goal

pub returns-in-Some-clause-less : goal.returns-in-Some-clause-less
returns-in-Some-clause-less c =
    let name = c.args.name.now in
    let paths = c.remove-was_there.new.self in
    let old = λ (one : List ℕ). get_by_text c.args.self.now.paths one in
    let new = λ (one : List ℕ). get_by_text (c.get_mut.follows.lender paths) one in
    let changed : Changed name (Some paths) old new =
    btree_map_updates_text name c.args.self.now.paths (c.get_mut.follows.lender paths) (Some paths)
    ((c.get_mut.follows.holds paths).3 (search rules)) in
    noted-less name (Some paths) old new changed c.args.path.now
    (λ q. btree_set_updates_text c.args.path.now c.in-Some.paths.now paths false c.remove-was_there.ensures.updates q
    ∙ ap (λ found. cond (bytes_eq c.args.path.now q) false (is_in found q)) c.in-Some.ensures.value)
