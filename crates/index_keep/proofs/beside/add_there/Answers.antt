-- The next path is added if it is there.
use Rattle.std.proofs.Common.{◌≡◌, ◌∙◌, ap, subst, sym, ◌||◌, ◌&&◌, ◌∷◌, [], map, string_bytes}
use Rattle.mk_paths.specs.FilesView.{view_world}
use Rattle.mk_paths.specs.World.{World, FileMap}
use Rattle.port_index.specs.FilledRows.{is_one_of}
use Rattle.read_trace.specs.Recorder.{view_of}
use Rattle.index_keep.specs.Beside.{is_there_at}
use Rattle.index_keep.proofs.ListLemmas.{added-more, map-append}
use Rattle.index_keep.proofs.beside.add_there.Goals as goal

pub loop-path-preserved-in-Continue-branch-2 : goal.loop-path-preserved-in-Continue-branch-2
loop-path-preserved-in-Continue-branch-2 g c =
    let settings = c.args.settings.now in
    let world : World = view_world (view_of g.F.Names.view c.args.files.now) settings in
    let known = c.args.known.now in
    let before = c.loop-path.invariant in
    let start = map string_bytes c.args.beside.now.items in
    let leaves = c.in_ok-is_there.ensures.leaves in
    let passes = ap (is_there_at world known) (sym c.as_str.ensures.value)
    ∙ sym (subst (λ (files : FileMap). let w : World = (files, settings) in c.in_ok-is_there.field-0 ≡ is_there_at w known
    c.as_str.result.now) before.leaves.files c.in_ok-is_there.ensures.there)
    ∙ c.if-branch.true in
    record {
      leaves = record { files = leaves.files ∙ before.leaves.files; failures = leaves.failures ∙ before.leaves.failures };
      adds = λ path. ap (λ items. is_one_of path (map string_bytes items)) c.in_ok-push.ensures.items
          ∙ ap (is_one_of path) (map-append string_bytes c.loop-path.beside.items (c.in-Some.path ∷ []))
          ∙ added-more start (map string_bytes c.loop-path.beside.items) (map string_bytes c.loop-path.yielded) (is_there_at world known)
          (string_bytes c.in-Some.path) _ passes before.adds path
          ∙ ap (λ passed. is_one_of path start || (is_one_of path passed && is_there_at world known path))
          (sym (map-append string_bytes c.loop-path.yielded (c.in-Some.path ∷ [])));
    }

pub loop-path-preserved : goal.loop-path-preserved
loop-path-preserved g c =
    let settings = c.args.settings.now in
    let world : World = view_world (view_of g.F.Names.view c.args.files.now) settings in
    let known = c.args.known.now in
    let before = c.loop-path.invariant in
    let start = map string_bytes c.args.beside.now.items in
    let leaves = c.in_ok-is_there.ensures.leaves in
    let passes = ap (is_there_at world known) (sym c.as_str.ensures.value)
    ∙ sym (subst (λ (files : FileMap). let w : World = (files, settings) in c.in_ok-is_there.field-0 ≡ is_there_at w known
    c.as_str.result.now) before.leaves.files c.in_ok-is_there.ensures.there)
    ∙ c.if-branch.false in
    record {
      leaves = record { files = leaves.files ∙ before.leaves.files; failures = leaves.failures ∙ before.leaves.failures };
      adds = λ path. added-more start (map string_bytes c.loop-path.beside.items) (map string_bytes c.loop-path.yielded)
          (is_there_at world known) (string_bytes c.in-Some.path) _ passes before.adds path
          ∙ ap (λ passed. is_one_of path start || (is_one_of path passed && is_there_at world known path))
          (sym (map-append string_bytes c.loop-path.yielded (c.in-Some.path ∷ [])));
    }
