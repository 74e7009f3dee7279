-- The path is noted with the names of its row.
use Rattle.std.proofs.Common.{◌≡◌, ◌∙◌, ap, sym, true, Some, ℕ, List, String, Global, string_bytes}
use Rattle.std.proofs.lemmas.Map.Text.{btree_map_updates_text}
use Rattle.std.specs.BTreeMap.{get_by_text, is_at}
use Rattle.std.specs.Cmp.Lexicographic.{slice_cmp}
use Rattle.std.specs.Map.{lookup}
use Rattle.std.specs.Ordering.{nat_cmp}
use Rattle.std.specs.List.{list_any}
use Rattle.std.specs.Str.{bytes_eq}
use Rattle.port_index.specs.declared.noted_rows.KnownRow.{KnownRow}
use Rattle.port_index.specs.AskedNames.{asks_in, is_noted}
use Rattle.port_index.proofs.NotedLemmas.{by_result, put-noted}
use Rattle.port_index.proofs.noted_rows.NotedRows.put.Goals as goal

pub returns-in-Ok-clause-ok : goal.returns-in-Ok-clause-ok
returns-in-Ok-clause-ok c =
    btree_map_updates_text (string_bytes c.args.path) c.args.self.now.rows c.insert.new.self (Some c.args.row) c.in-Ok.ensures.updates

pub invariant_of-self-2 : goal.invariant_of-self-2
invariant_of-self-2 c =
    let noted : (name : List ℕ) → asks_in (Some c.args.row) name ≡ true
    → is_noted c.add_all.new.self name (string_bytes c.args.path) ≡ true = λ name asks.
    ap (is_noted c.add_all.new.self name) (sym c.as_str.ensures.value)
    ∙ c.in_ok-add_all.ensures.noted name (ap (list_any (λ (one : String Global). bytes_eq (string_bytes one) name)) c.deref.ensures.value
    ∙ asks) in
    let was = is_noted c.args.self.now.asked in
    let is = is_noted c.add_all.new.self in
    let old = λ (path : List ℕ). get_by_text c.args.self.now.rows path in
    let new = λ (path : List ℕ). get_by_text c.insert.new.self path in record {
      noted = by_result c.insert.result c.insert.ensures.updates c.insert.ensures.err
          (λ updates. put-noted (string_bytes c.args.path) c.args.row old new was is
          (btree_map_updates_text (string_bytes c.args.path) c.args.self.now.rows c.insert.new.self (Some c.args.row) updates)
          noted c.add_all.ensures.stays c.args.self.now.noted)
          (λ same name path asks. c.add_all.ensures.stays name path
          (c.args.self.now.noted name path
          (ap (λ (entries : List (String Global × KnownRow)). asks_in
          (lookup (is_at (λ (key : String Global). slice_cmp nat_cmp path (string_bytes key))) entries) name) (sym same) ∙ asks)));
    }
