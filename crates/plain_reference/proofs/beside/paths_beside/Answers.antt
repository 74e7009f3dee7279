-- The items of one port more are looked at.
use Rattle.std.proofs.Common.{◌≡◌, ◌∙◌, ap, sym, List, ℕ, ◌++◌, map, string_bytes, take, take_all}
use Rattle.std.specs.List.{flat_map}
use Rattle.text_parts.specs.Order.{in_order}
use Rattle.port_index.specs.Dependencies.{targets_in}
use Rattle.port_index.specs.Seen.{entries_in, known_in, known_row}
use Rattle.port_index.proofs.More.{flat_map-more}
use Rattle.port_index.proofs.TargetLemmas.{targets-among}
use Rattle.plain_reference.proofs.beside.paths_beside.Goals as goal

pub loop-path-preserved : goal.loop-path-preserved
loop-path-preserved c =
    let rows = c.args.rows.now in
    let targets = λ (path : List ℕ). targets_in (known_in (entries_in rows) path) in
    let finder = c.loop-path.invariant.finder in
    let row = ap known_row (c.get.ensures.row rows finder ∙ ap (entries_in rows) c.deref.ensures) in
    record {
      finder = c.get.ensures.finder rows finder;
      beside = c.in_ok-add_targets.ensures
          ∙ ap (λ outcome. map string_bytes c.loop-path.beside.items ++ targets_in outcome) row
          ∙ ap (λ before. before ++ targets (string_bytes c.path-item.result)) c.loop-path.invariant.beside
          ∙ sym (flat_map-more targets string_bytes c.args.listed.now c.loop-path.path-index c.path-item.result
          c.loop-path-test.true c.path-item.is);
    }

pub returns : goal.returns
returns c =
    let listed = map string_bytes c.args.listed.now in
    let known = known_in (entries_in c.args.rows.now) in
    let targets = λ (path : List ℕ). targets_in (known path) in
    ap (λ beside. in_order (listed ++ beside))
    (c.loop-path.invariant.beside ∙ ap (λ texts. flat_map targets (map string_bytes texts))
    (take_all c.loop-path.path-index c.args.listed.now c.loop-path-test.false)
    ∙ targets-among known listed)
