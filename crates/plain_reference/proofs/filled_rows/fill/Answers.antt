-- Path after path.
use Rattle.std.proofs.Common.{◌∙◌, ℕ, List, sym, ap, ap₂, subst, [], ◌∷◌, map, take, None, string_bytes}
use Rattle.mk_paths.specs.World.{FileMap, World}
use Rattle.plain_reference.specs.Right.{AreOutcomes}
use Rattle.port_index.specs.FilledRows.{Fills}
use Rattle.plain_reference.specs.Work.{both, effort_over}
use Rattle.port_index.specs.Efforts.{lacking}
use Rattle.port_index.specs.Seen.{entries_in}
use Rattle.plain_reference.proofs.WorkLemmas.{Effort-on}
use Rattle.plain_reference.proofs.Filled.{Stay-on, Fills-on}
use Rattle.plain_reference.proofs.Kept.{KeepsFiles-on}
use Rattle.port_index.proofs.More.{map-more}
use Rattle.plain_reference.proofs.filled_rows.fill.Goals as goal

pub loop-path-preserved : goal.loop-path-preserved
loop-path-preserved g c =
    let view = g.F.Names.view in
    let settings = c.args.settings.now in
    let world : World = ((view c.args.files.now).files, settings) in
    let item = c.path-item.result in
    let one = subst (λ text. Fills world (text ∷ []) (entries_in c.loop-path.rows) (entries_in c.fill_one.new.rows)) c.deref.ensures
    (subst (λ files. Fills (files, settings) (c.deref.result.now ∷ []) (entries_in c.loop-path.rows) (entries_in c.fill_one.new.rows))
    c.loop-path.invariant.keeps.files c.in_ok-fill_one.ensures.fills) in
    let before = map string_bytes (take c.loop-path.path-index c.args.paths.now) in
    let here = λ (files : FileMap) (text : List ℕ). effort_over (files, settings) (lacking (entries_in c.loop-path.rows) (text ∷ [])) in
    record {
      effort = c.and-effort.ensures
          ∙ ap₂ both c.loop-path.invariant.effort (c.in_ok-fill_one.ensures.effort
          ∙ ap₂ here c.loop-path.invariant.keeps.files c.deref.ensures)
          ∙ Effort-on world before (string_bytes item ∷ []) (entries_in c.args.rows.now) (entries_in c.loop-path.rows)
          c.loop-path.invariant.fills
          ∙ ap (λ paths. effort_over world (lacking (entries_in c.args.rows.now) paths))
          (sym (map-more string_bytes c.args.paths.now c.loop-path.path-index item c.loop-path-test.true c.path-item.is));
      right = subst (λ files. AreOutcomes (files, settings) (entries_in c.fill_one.new.rows)) c.loop-path.invariant.keeps.files
          c.in_ok-fill_one.ensures.right;
      stay = Stay-on (entries_in c.args.rows.now) (entries_in c.loop-path.rows) (entries_in c.fill_one.new.rows) c.loop-path.invariant.stay
          c.in_ok-fill_one.ensures.stay;
      fills = subst (λ paths. Fills world paths (entries_in c.args.rows.now) (entries_in c.fill_one.new.rows))
          (sym (map-more string_bytes c.args.paths.now c.loop-path.path-index item c.loop-path-test.true c.path-item.is))
          (Fills-on world (map string_bytes (take c.loop-path.path-index c.args.paths.now)) (string_bytes item ∷ [])
          (entries_in c.args.rows.now) (entries_in c.loop-path.rows) (entries_in c.fill_one.new.rows)
          c.loop-path.invariant.fills one);
      keeps = KeepsFiles-on None (view c.args.files.now) (view c.loop-path.files) (view c.fill_one.new.files) c.loop-path.invariant.keeps
          c.in_ok-fill_one.ensures.keeps;
    }
