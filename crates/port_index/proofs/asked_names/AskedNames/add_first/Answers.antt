-- The name has its first path.
use Rattle.std.proofs.Common.{◌≡◌, ◌∙◌, ap, sym, ◌&&◌, ◌||◌, ℕ, List, Some, string_bytes}
use Rattle.std.proofs.lemmas.Map.Text.{btree_map_updates_text}
use Rattle.std.specs.BTreeMap.{get_by_text}
use Rattle.std.specs.BTreeSet.{contains_text}
use Rattle.std.specs.Str.{bytes_eq}
use Rattle.port_index.specs.AskedNames.{is_in}
use Rattle.port_index.proofs.NotedLemmas.{Changed, noted-more, none-in-empty}
use Rattle.port_index.proofs.asked_names.AskedNames.add_first.Goals as goal

pub returns-in-Ok-clause-ok : goal.returns-in-Ok-clause-ok
returns-in-Ok-clause-ok c =
    let name = string_bytes c.in_ok-name.name in
    let paths = c.insert_copy.new.texts in
    let old = λ (one : List ℕ). get_by_text c.args.self.now.paths one in
    let new = λ (one : List ℕ). get_by_text c.insert.new.self one in
    let same : name ≡ c.args.name.now = c.in_ok-name.ensures.ok in
    let changed : Changed name (Some paths) old new =
    btree_map_updates_text name c.args.self.now.paths c.insert.new.self (Some paths) c.in-Ok.ensures.updates in
    let empty : (q : List ℕ) → contains_text c.new-paths.result q ≡ is_in (old name) q = λ q.
    none-in-empty c.new-paths.result c.new-paths.ensures.empty q
    ∙ sym (ap (λ one. is_in (old one) q) same ∙ ap (λ found. is_in found q) c.requires) in
    λ one other. noted-more name (Some paths) old new changed c.args.path.now
    (λ q. c.in_ok-insert_copy.ensures.ok q ∙ ap (λ b. bytes_eq c.args.path.now q || b) (empty q)) one other
    ∙ ap (λ text. (bytes_eq text one && bytes_eq c.args.path.now other) || is_in (old one) other) same
