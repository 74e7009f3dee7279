-- The next path of the last stage is a needed one. At its end, each needed path with a makefile has a fresh row.
use Rattle.std.proofs.Common.{subst, sym}
use Rattle.mk_paths.specs.FilesView.{view_world}
use Rattle.mk_paths.specs.World.{World}
use Rattle.read_trace.specs.Recorder.{view_of}
use Rattle.port_index.specs.Index.{needed_paths}
use Rattle.index_keep.specs.Walk.{IsLastStage, PassesStage}
use Rattle.index_keep.specs.declared.stage.Stage.{Stage}
use Rattle.index_keep.proofs.WalkLemmas.{all-decided, lacking-at, last-at, passed-known}
use Rattle.index_keep.proofs.walk.next_needed.Goals as goal

pub returns-in-Some-clause-next : goal.returns-in-Some-clause-next
returns-in-Some-clause-next g c = λ rows way.
    let world : World = view_world (view_of g.F.Names.view c.args.files.now) c.args.settings.now in
    let last = c.args.last in
    let paths = needed_paths world in
    let passes = subst (PassesStage world last.stage c.pass.new.self) c.in-Some.is
    (c.in_ok-found.ensures.passes (passed-known world rows paths last.stage way.far.stage)) in (
      last-at world rows last way.far c.pass.new.self.place passes.1 c.pass.new.self passes.0,
      lacking-at world rows paths last.stage way.far.stage (λ path is. is) c.in-Some.found passes.2,
      passes.2.found,
    )

pub returns-in-None-clause-next : goal.returns-in-None-clause-next
returns-in-None-clause-next g c = λ rows way.
    let world : World = view_world (view_of g.F.Names.view c.args.files.now) c.args.settings.now in
    let last = c.args.last in
    let paths = needed_paths world in
    let passes = subst (PassesStage world last.stage c.pass.new.self) c.in-None.is
    (c.in_ok-found.ensures.passes (passed-known world rows paths last.stage way.far.stage)) in (
      subst (λ (s : Stage). IsLastStage world rows (record last { stage = s })) (sym passes.0) way.far,
      all-decided world rows paths last.stage way.far.stage passes.1,
    )
