-- One text more is there.
use Rattle.std.proofs.Common.{◌∙◌, true, string_bytes}
use Rattle.std.proofs.lemmas.Map.Text.{btree_set_updates_text}
use Rattle.std.specs.BTreeSet.{contains_text}
use Rattle.std.specs.Str.{bytes_eq}
use Rattle.port_index.proofs.NotedLemmas.{cond-or}
use Rattle.port_index.proofs.asked_names.insert_text.Goals as goal

pub returns-in-Ok-clause-ok : goal.returns-in-Ok-clause-ok
returns-in-Ok-clause-ok c = λ other.
    btree_set_updates_text (string_bytes c.args.text) c.args.texts.now c.insert.new.self true c.in-Ok.ensures.updates other
    ∙ cond-or (bytes_eq (string_bytes c.args.text) other) (contains_text c.args.texts.now other)
