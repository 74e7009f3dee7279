-- At the end, all names have been passed.
use Rattle.std.proofs.Common.{◌∙◌, ap, sym, ◌||◌, List, String, Global, map, string_bytes}
use Rattle.std.specs.BTreeMap.{get_by_text}
use Rattle.std.specs.List.{list_any}
use Rattle.std.specs.Str.{bytes_eq}
use Rattle.text_parts.specs.Ordered.{among-in_order}
use Rattle.port_index.specs.AskedNames.{asks_in}
use Rattle.port_index.specs.FilledRows.{is_one_of}
use Rattle.port_index.proofs.NotedLemmas.{or-none, asks-one}
use Rattle.port_index.proofs.noted_rows.NotedRows.paths_asking.Goals as goal

pub returns : goal.returns
returns c = λ path.
    let row = get_by_text c.args.self.now.rows path in
    let found = map string_bytes c.loop-name.paths.items in
    ap (is_one_of path) c.put_in_order.ensures ∙ among-in_order (λ one. bytes_eq one path) found
    ∙ sym (or-none (is_one_of path found))
    ∙ ap (λ (left : List (String Global)). is_one_of path found || list_any (λ (name : String Global). asks_in row (string_bytes name))
    left) (sym c.in-None.ensures.steps.0)
    ∙ c.loop-name.invariant.2 path
    ∙ asks-one c.args.names.now row
