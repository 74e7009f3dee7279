-- The rows so far say what is beside the listed paths.
use Rattle.std.proofs.Common.{◌≡◌, ◌∙◌, ap, subst, sym, ◌||◌, ◌&&◌, List, ℕ, map, take, take_all, string_bytes}
use Rattle.std.specs.List.{filter}
use Rattle.std.specs.Str.{bytes_eq}
use Rattle.text_parts.specs.Order.{in_order}
use Rattle.text_parts.specs.Ordered.{among-in_order, in_order-again}
use Rattle.mk_paths.specs.FilesView.{view_world}
use Rattle.mk_paths.specs.World.{World, FileMap}
use Rattle.port_deps.specs.ItemText.{has_comma}
use Rattle.port_index.specs.Dependencies.{targets_in}
use Rattle.port_index.specs.FilledRows.{is_one_of}
use Rattle.port_index.specs.RowLaws.{is_target_among}
use Rattle.port_index.specs.Seen.{entries_in, known_in, known_row}
use Rattle.read_trace.specs.Recorder.{view_of}
use Rattle.index_keep.specs.Beside.{is_there_at}
use Rattle.index_keep.proofs.BesideLemmas.{added-there, one-filter, target-next}
use Rattle.index_keep.proofs.beside.paths_beside.Goals as goal

pub loop-path-preserved : goal.loop-path-preserved
loop-path-preserved g c =
    let settings = c.args.settings.now in
    let world : World = view_world (view_of g.F.Names.view c.args.files.now) settings in
    let memory = c.args.known.now in
    let known = known_in (entries_in memory) in
    let before = c.loop-path.invariant in
    let leaves = c.in_ok-add_there.ensures.leaves in
    let beside = map string_bytes c.loop-path.beside.items in
    let named = map string_bytes c.in_ok-named.named.items in
    let after = map string_bytes c.add_there.new.beside.items in
    let text = c.path-item.result in
    let place = c.loop-path.path-index in
    let targets = is_target_among known (map string_bytes (take place c.args.listed.now)) in
    let row = ap known_row (c.get.ensures.row memory before.finder ∙ ap (entries_in memory) c.deref.ensures) in
    let is : named ≡ filter has_comma (targets_in (known (string_bytes text))) = c.in_ok-named.ensures
    ∙ ap (λ outcome. filter has_comma (targets_in outcome)) row in
    let one = λ (path : List ℕ). ap (is_one_of path) is ∙ one-filter has_comma path (targets_in (known (string_bytes text))) in
    let adds = λ (path : List ℕ). subst (λ (files : FileMap). let w : World = (files, settings) in is_one_of path after ≡
    (is_one_of path beside || (is_one_of path named && is_there_at w memory path)))
    before.leaves.files (c.in_ok-add_there.ensures.adds path) in
    record {
      finder = c.get.ensures.finder memory before.finder;
      leaves = record { files = leaves.files ∙ before.leaves.files; failures = leaves.failures ∙ before.leaves.failures };
      are = λ path. adds path
          ∙ ap (λ b. b || (is_one_of path named && is_there_at world memory path)) (before.are path)
          ∙ added-there (has_comma path) (targets path) (is_there_at world memory path) (is_one_of path named)
          (is_one_of path (targets_in (known (string_bytes text)))) (one path)
          ∙ ap (λ b. has_comma path && b && is_there_at world memory path)
          (sym (target-next known c.args.listed.now place text path c.loop-path-test.true c.path-item.is));
    }

pub returns-clause-beside : goal.returns-clause-beside
returns-clause-beside g c =
    let world : World = view_world (view_of g.F.Names.view c.args.files.now) c.args.settings.now in
    let memory = c.args.known.now in
    let beside = map string_bytes c.loop-path.beside.items in
    record {
      ordered = ap in_order c.put_in_order.ensures ∙ in_order-again beside ∙ sym c.put_in_order.ensures;
      are = λ path. ap (λ paths. is_one_of path paths) c.put_in_order.ensures
          ∙ among-in_order (λ one. bytes_eq one path) beside
          ∙ c.loop-path.invariant.are path
          ∙ ap (λ texts. has_comma path && is_target_among (known_in (entries_in memory)) (map string_bytes texts) path &&
          is_there_at world memory path)
          (take_all c.loop-path.path-index c.args.listed.now c.loop-path-test.false);
    }
