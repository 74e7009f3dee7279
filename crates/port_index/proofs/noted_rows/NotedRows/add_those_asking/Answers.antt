-- The next path asks. At the end, all have been passed.
use Rattle.std.proofs.Common.{◌≡◌, ◌∙◌, ap, sym, ◌&&◌, ◌||◌, ◌∷◌, [], true, false, List, String, Global, map, string_bytes}
use Rattle.std.proofs.lemmas.List.{map-append}
use Rattle.std.proofs.lemmas.List.Folds.{list_any-append}
use Rattle.std.proofs.lemmas.Slice.Eq.{bytes_eq-Decides}
use Rattle.std.specs.BTreeMap.{get_by_text}
use Rattle.std.specs.Str.{bytes_eq}
use Rattle.port_index.specs.AskedNames.{asks_in}
use Rattle.port_index.specs.FilledRows.{is_one_of}
use Rattle.port_index.proofs.NotedLemmas.{contains-key, or-none, step-asked}
use Rattle.port_index.proofs.noted_rows.NotedRows.add_those_asking.Goals as goal

pub loop-path-preserved-in_ok-push : goal.loop-path-preserved-in_ok-push
loop-path-preserved-in_ok-push c = (
  tt,
  tt,
  λ path.
      let asks = asks_in (get_by_text c.args.self.now.rows path) c.args.name.now in
      let found = map string_bytes c.loop-path.paths.items in
      let left = is_one_of path (map string_bytes c.next.new.self) in
      let one = string_bytes c.in-Some.path.now in
      let added : is_one_of path (map string_bytes c.push.new.self.items) ≡ (is_one_of path found || (bytes_eq one path || false)) =
      ap (λ items. is_one_of path (map string_bytes items)) c.in_ok-push.ensures.items
      ∙ ap (is_one_of path) (map-append string_bytes c.loop-path.paths.items (c.in_ok-from_str.field-0 ∷ []))
      ∙ list_any-append (λ other. bytes_eq other path) found (string_bytes c.in_ok-from_str.field-0 ∷ [])
      ∙ ap (λ bytes. is_one_of path found || (bytes_eq bytes path || false)) (c.in_ok-from_str.ensures.ok
      ∙ c.as_str-then-asks.ensures.value) in
      let asked : bytes_eq one path ≡ true → asks ≡ true = λ same.
      ap (λ p. asks_in (get_by_text c.args.self.now.rows p) c.args.name.now) (sym ((bytes_eq-Decides one path).0 same))
      ∙ ap (λ p. asks_in (get_by_text c.args.self.now.rows p) c.args.name.now) (sym c.as_str.ensures.value)
      ∙ sym c.asks.ensures ∙ c.if-asks.true in
      ap (λ b. b || (left && asks)) added ∙ step-asked (is_one_of path found) left (bytes_eq one path) asks asked
      ∙ ap (λ (keys : List (String Global)). is_one_of path found || (is_one_of path (map string_bytes keys) && asks))
      (sym c.in-Some.ensures.steps)
      ∙ c.loop-path.invariant.2 path,
)

pub returns : goal.returns
returns c = λ path.
    let asks = asks_in (get_by_text c.args.self.now.rows path) c.args.name.now in
    let found = is_one_of path (map string_bytes c.loop-path.paths.items) in
    sym (or-none found)
    ∙ ap (λ (keys : List (String Global)). found || (is_one_of path (map string_bytes keys) && asks)) (sym c.in-None.ensures.steps.0)
    ∙ c.loop-path.invariant.2 path
    ∙ ap (λ b. is_one_of path (map string_bytes c.args.paths.now.items) || (b && asks)) (contains-key c.args.noted.now path)
