-- The next path of the listed ones. After them come those beside them.
use Rattle.std.proofs.Common.{◌≡◌, ◌∙◌, ap, refl, subst, sym, IfOk}
use Rattle.mk_paths.specs.FilesView.{view_world}
use Rattle.mk_paths.specs.World.{World, FileMap}
use Rattle.read_trace.specs.Recorder.{view_of}
use Rattle.port_index.specs.Index.{listed_paths}
use Rattle.index_keep.specs.Walk.{HasListed, IsLastStage, IsListedStage, IsNext, IsOnTheWay, PassesStage}
use Rattle.index_keep.specs.declared.walk.ListedStage.{ListedStage}
use Rattle.index_keep.specs.declared.stage.Stage.{Stage}
use Rattle.index_keep.specs.declared.walk.Walk.TheVariants.{Needed}
use Rattle.index_keep.proofs.WalkLemmas.{all-decided, lacking-at, needed-has, passed-known, stage-at}
use Rattle.index_keep.proofs.walk.next_listed.Goals as goal

pub returns-in-Some-clause-next : goal.returns-in-Some-clause-next
returns-in-Some-clause-next g c = λ rows way.
    let world : World = view_world (view_of g.F.Names.view c.args.files.now) c.args.settings.now in
    let listed = c.args.listed in
    let passes = subst (PassesStage world listed.stage c.pass.new.self) c.in-Some.is
    (c.in_ok-found.ensures.passes (passed-known world rows (listed_paths world) listed.stage way.far.stage)) in
    let come : Stage = record listed.stage { place = c.pass.new.self.place } in (
      subst (λ (s : Stage). IsListedStage world rows (record listed { stage = s })) (sym passes.0) (record {
        stage = stage-at world rows (listed_paths world) listed.stage way.far.stage c.pass.new.self.place passes.1 come refl;
        directories = way.far.directories;
        listed = way.far.listed;
        last = way.far.last;
      }),
      lacking-at world rows (listed_paths world) listed.stage way.far.stage (needed-has world) c.in-Some.found passes.2,
      passes.2.found,
    )

pub returns-in_ok-last-in-None-clause-next : goal.returns-in_ok-last-in-None-clause-next
returns-in_ok-last-in-None-clause-next g c = λ rows way.
    let settings = c.args.settings.now in
    let world : World = view_world (view_of g.F.Names.view c.args.files.now) settings in
    let listed = c.args.listed in
    let passes = subst (PassesStage world listed.stage c.pass.new.self) c.in-None.is
    (c.in_ok-found.ensures.passes (passed-known world rows (listed_paths world) listed.stage way.far.stage)) in
    let last = c.in_ok-last-in-None.last in
    let same : record listed { stage = c.pass.new.self } ≡ listed = ap (λ (s : Stage). record listed { stage = s }) passes.0 in
    let has : HasListed world rows listed = record {
      kept = way.kept;
      far = way.far;
      known = all-decided world rows (listed_paths world)
          listed.stage way.far.stage passes.1;
    } in
    let far : IsLastStage world rows last =
    subst (λ (files : FileMap). let w : World = (files, settings) in HasListed w rows (record listed { stage = c.pass.new.self })
    → IsLastStage w rows last) c.in_ok-found.ensures.leaves.files
    (c.in_ok-last-in-None.ensures.last rows) (subst (λ (before : ListedStage). HasListed world rows before) (sym same) has) in
    let next = subst (λ (files : FileMap). let w : World = (files, settings) in IsOnTheWay w rows (Needed last)
    → IfOk c.next_needed.result (IsNext w rows))
    (c.in_ok-last-in-None.ensures.leaves.files ∙ c.in_ok-found.ensures.leaves.files) (c.next_needed.ensures.next rows) in
    next (record { kept = way.kept; far = far })
