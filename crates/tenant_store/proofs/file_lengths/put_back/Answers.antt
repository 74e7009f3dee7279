-- The name has the length that it had.
use Rattle.std.proofs.Common.{◌∙◌, ap, sym, cond, rules, Some}
use Rattle.std.proofs.lemmas.Map.Text.{btree_map_updates_text}
use Rattle.std.specs.BTreeMap.{get_by_text}
use Rattle.std.specs.Str.{bytes_eq}
use Rattle.tenant_store.proofs.file_lengths.put_back.Goals as goal

pub returns-in-Some-get_mut : goal.returns-in-Some-get_mut
returns-in-Some-get_mut c = λ other.
    let written = (c.get_mut.follows.holds c.in-Some.length).3 (search rules) in
    btree_map_updates_text c.args.name.now c.args.lengths.now (c.get_mut.follows.lender c.in-Some.length)
    (Some c.in-Some.length) written other
    ∙ ap (λ had. cond (bytes_eq c.args.name.now other) had (get_by_text c.args.lengths.now other)) (sym c.in-Some.is)
