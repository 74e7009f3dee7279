-- One name has this length.
use Rattle.std.proofs.Common.{◌∙◌, ap, cond, Some, string_bytes}
use Rattle.std.proofs.lemmas.Map.Text.{btree_map_updates_text}
use Rattle.std.specs.BTreeMap.{get_by_text}
use Rattle.std.specs.Str.{bytes_eq}
use Rattle.tenant_store.proofs.file_lengths.note.Goals as goal

pub returns-in-Ok-clause-noted : goal.returns-in-Ok-clause-noted
returns-in-Ok-clause-noted c = λ other.
    btree_map_updates_text (string_bytes c.in_ok-from_str.field-0) c.args.lengths.now c.insert.new.self
    (Some c.args.length) c.in-Ok.ensures.updates other
    ∙ ap (λ text. cond (bytes_eq text other) (Some c.args.length) (get_by_text c.args.lengths.now other)) c.in_ok-from_str.ensures.ok
