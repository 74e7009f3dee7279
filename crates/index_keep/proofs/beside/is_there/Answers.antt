-- The path has no row, so its makefile is looked for.
use Rattle.std.proofs.Common.{◌∙◌, ap, sym, ◌||◌, is_some}
use Rattle.mk_paths.specs.FilesView.{view_world}
use Rattle.mk_paths.specs.World.{World}
use Rattle.port_index.specs.Efforts.{has_makefile}
use Rattle.read_trace.specs.Recorder.{view_of}
use Rattle.index_keep.proofs.BesideLemmas.{found-some}
use Rattle.index_keep.proofs.ListLemmas.{some-map}
use Rattle.index_keep.proofs.beside.is_there.Goals as goal

pub returns-clause-there : goal.returns-clause-there
returns-clause-there g c =
    let world : World = view_world (view_of g.F.Names.view c.args.files.now) c.args.settings.now in
    let path = c.args.path.now in
    c.is_some-2.ensures ∙ found-some world path c.in_ok-find.field-0 c.in_ok-find.ensures.found
    ∙ ap (λ b. b || has_makefile world path)
    (sym (ap is_some (sym c.get.ensures) ∙ some-map _ c.get.result ∙ sym c.is_some.ensures ∙ c.if-is_some.false))
