-- The next path of the directories. After them come the listed ones.
use Rattle.std.proofs.Common.{◌≡◌, ap, refl, subst, sym, IfOk}
use Rattle.mk_paths.specs.FilesView.{view_world}
use Rattle.mk_paths.specs.World.{World, FileMap, files_in}
use Rattle.read_trace.specs.Recorder.{view_of}
use Rattle.port_index.specs.TreePaths.{directories}
use Rattle.port_index.specs.Seen.{entries_in}
use Rattle.index_keep.specs.Right.{AreDecided}
use Rattle.index_keep.specs.Shown.{fresh}
use Rattle.index_keep.specs.Walk.{HasDirectories, IsDirectoryStage, IsNext, IsOnTheWay, ListsPaths, PassesStage}
use Rattle.index_keep.specs.declared.stage.Stage.{Stage}
use Rattle.index_keep.specs.declared.walk.DirectoryStage.{DirectoryStage}
use Rattle.index_keep.specs.declared.walk.Walk.TheVariants.{Listed}
use Rattle.index_keep.proofs.ShownLemmas.{entries-fresh}
use Rattle.index_keep.proofs.WalkLemmas.{all-decided, decided-same, lacking-at, listed-has, needed-has, passed-known, stage-at}
use Rattle.index_keep.proofs.WalkLemmas.{IsListedStage-after}
use Rattle.index_keep.proofs.walk.next_directory.Goals as goal

pub returns-in-Some-clause-next : goal.returns-in-Some-clause-next
returns-in-Some-clause-next g c = λ rows way.
    let world : World = view_world (view_of g.F.Names.view c.args.files.now) c.args.settings.now in
    let first = c.args.first in
    let stage = first.stage in
    let all = directories (files_in world) in
    let passes = subst (PassesStage world stage c.pass.new.self) c.in-Some.is
    (c.in_ok-found.ensures.passes (passed-known world rows all stage way.far.stage)) in
    let come : Stage = record stage { place = c.pass.new.self.place } in (
      subst (λ (s : Stage). IsDirectoryStage world rows (record first { stage = s })) (sym passes.0) (record {
        stage = stage-at world rows all stage way.far.stage c.pass.new.self.place passes.1 come refl;
        directories = way.far.directories;
        lists = way.far.lists;
      }),
      lacking-at world rows all stage way.far.stage (λ path is. needed-has world path (listed-has world path is)) c.in-Some.found passes.2,
      passes.2.found,
    )

pub returns-in_ok-listed_stage-in-None-clause-next : goal.returns-in_ok-listed_stage-in-None-clause-next
returns-in_ok-listed_stage-in-None-clause-next g c = λ rows way.
    let world : World = view_world (view_of g.F.Names.view c.args.files.now) c.args.settings.now in
    let first = c.args.first in
    let stage = first.stage in
    let all = directories (files_in world) in
    let passes = subst (PassesStage world stage c.pass.new.self) c.in-None.is
    (c.in_ok-found.ensures.passes (passed-known world rows all stage way.far.stage)) in
    let are = all-decided world rows all stage way.far.stage passes.1 in
    let next = c.in_ok-listed_stage-in-None.field-0 in
    let same : record first { stage = c.pass.new.self } ≡ first = ap (λ (s : Stage). record first { stage = s }) passes.0 in
    let has : HasDirectories world rows first = record {
      known = subst (AreDecided world (entries_in stage.known)) (sym way.far.directories)
          (decided-same world (fresh rows) (entries_in stage.known) (λ path. sym (entries-fresh rows stage.known way.far.stage.knows path))
          all are);
      lists = way.far.lists;
    } in
    let lists = subst (λ (before : DirectoryStage). ListsPaths world rows before next) same
    (c.in_ok-listed_stage-in-None.ensures world rows (subst (λ (before : DirectoryStage). HasDirectories world rows before) (sym same) has))
    in
    let then = subst (λ (files : FileMap). let w : World = (files, c.args.settings.now) in IsOnTheWay w rows (Listed next)
    → IfOk c.next_listed.result (IsNext w rows)) c.in_ok-found.ensures.leaves.files
    (c.next_listed.ensures.next rows) in
    then (record {
      kept = way.kept;
      far = IsListedStage-after world rows way.kept c.known_rows_are_enough.ensures first next way.far are lists;
    })
