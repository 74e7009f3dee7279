-- The paths of the name have one more, or stay.
use Rattle.std.proofs.Common.{◌∙◌, ap, ◌||◌, ℕ, List, Some, rules}
use Rattle.std.proofs.lemmas.Map.Text.{btree_map_updates_text}
use Rattle.std.proofs.lemmas.Result.{on_ok_weaker, on_err_weaker}
use Rattle.std.specs.BTreeMap.{get_by_text}
use Rattle.std.specs.BTreeSet.{contains_text}
use Rattle.std.specs.Str.{bytes_eq}
use Rattle.port_index.specs.AskedNames.{is_in}
use Rattle.port_index.proofs.NotedLemmas.{Changed, noted-more, noted-same}
use Rattle.port_index.proofs.asked_names.AskedNames.add.Goals as goal

pub returns-in-Some-clause-ok : goal.returns-in-Some-clause-ok
returns-in-Some-clause-ok c =
    let name = c.args.name.now in
    let paths = c.insert_copy.new.texts in
    let old = λ (one : List ℕ). get_by_text c.args.self.now.paths one in
    let new = λ (one : List ℕ). get_by_text (c.get_mut.follows.lender paths) one in
    let changed : Changed name (Some paths) old new =
    btree_map_updates_text name c.args.self.now.paths (c.get_mut.follows.lender paths) (Some paths)
    ((c.get_mut.follows.holds paths).3 (search rules)) in
    on_ok_weaker c.insert_copy.result (λ has. noted-more name (Some paths) old new changed c.args.path.now (λ q. has q
    ∙ ap (λ found. bytes_eq c.args.path.now q || is_in found q) c.in-Some.ensures.value))
    c.insert_copy.ensures.ok

pub returns-in-Some-clause-err : goal.returns-in-Some-clause-err
returns-in-Some-clause-err c =
    let name = c.args.name.now in
    let paths = c.insert_copy.new.texts in
    let old = λ (one : List ℕ). get_by_text c.args.self.now.paths one in
    let new = λ (one : List ℕ). get_by_text (c.get_mut.follows.lender paths) one in
    let changed : Changed name (Some paths) old new =
    btree_map_updates_text name c.args.self.now.paths (c.get_mut.follows.lender paths) (Some paths)
    ((c.get_mut.follows.holds paths).3 (search rules)) in
    on_err_weaker c.insert_copy.result (λ same. noted-same name (Some paths) old new changed
    (λ q. ap (λ texts. contains_text texts q) same ∙ ap (λ found. is_in found q) c.in-Some.ensures.value))
    c.insert_copy.ensures.err
