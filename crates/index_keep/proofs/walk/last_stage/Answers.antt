-- The paths beside the listed ones: the outdated ones, or those that the rows of listed paths name.
use Rattle.port_index.specs.FilledRows.{is_one_of}
use Rattle.port_index.specs.Seen.{entries_in}
use Rattle.std.proofs.Common.{◌&&◌, is_none, List, ℕ, ◌∙◌, ap, subst, IfSome, map, string_bytes}
use Rattle.mk_paths.specs.FilesView.{view_world}
use Rattle.mk_paths.specs.World.{World}
use Rattle.read_trace.specs.Recorder.{view_of}
use Rattle.index_keep.specs.Beside.{AreBeside}
use Rattle.index_keep.specs.Last.{Recalls}
use Rattle.index_keep.specs.Walk.{listed_of}
use Rattle.index_keep.proofs.WalkLemmas.{last-kept, last-looked}
use Rattle.index_keep.proofs.walk.last_stage.Goals as goal

pub returns-in-Some-clause-last : goal.returns-in-Some-clause-last
returns-in-Some-clause-last g c = λ rows has.
    let world : World = view_world (view_of g.F.Names.view c.args.files.now) c.args.settings.now in
    let next = c.args.next in
    last-kept c.alike_rows_list_the_same.ensures c.known_rows_are_enough.ensures world rows next has c.in-Some.last
    (subst (λ (l : _). IfSome l (Recalls world rows next.stage.known (listed_of next))) c.in-Some.is has.far.last)
    c.new.result c.new.ensures

pub returns-clause-last : goal.returns-clause-last
returns-clause-last g c = λ rows has.
    let world : World = view_world (view_of g.F.Names.view c.args.files.now) c.args.settings.now in
    let next = c.args.next in
    let beside = c.in_ok-beside-in-None.beside in
    last-looked c.alike_rows_list_the_same.ensures c.known_rows_are_enough.ensures world rows next has c.needed_are_named.ensures
    (c.makefiles_are_of_directories.ensures (view_of g.F.Names.view c.args.files.now).files) beside
    (subst (λ items. AreBeside world next.stage.known (map string_bytes items) (map string_bytes beside.items)) c.deref.ensures.value
    c.in_ok-beside-in-None.ensures.beside)
    c.in_ok-paths-in-None.paths (λ (path : List ℕ). c.in_ok-paths-in-None.ensures path
    ∙ ap (λ items. is_one_of path (map string_bytes items) && is_none (entries_in next.stage.known path)) c.deref-in-None.ensures.value)
    c.new-in-None.result c.new-in-None.ensures
