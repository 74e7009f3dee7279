-- The next path that has no fresh row is begun, or the walk is at its end.
use Rattle.std.proofs.Common.{subst, sym, string_bytes, IfOk}
use Rattle.mk_paths.specs.FilesView.{view_world}
use Rattle.mk_paths.specs.World.{World, FileMap}
use Rattle.turn_amounts.specs.Spent.{no_spending}
use Rattle.turn_amounts.specs.declared.spent.Spent.{Spent}
use Rattle.read_trace.specs.Recorder.{view_of}
use Rattle.index_keep.specs.Keeper.{IsReadyFor, TurnsKeeper}
use Rattle.index_keep.specs.Paths.{IsFoundAt, TurnsPath}
use Rattle.index_keep.specs.Shown.{shown, no_name}
use Rattle.index_keep.specs.Turns.{refresh_at}
use Rattle.index_keep.specs.Walk.{IsNext}
use Rattle.index_keep.proofs.keeper.Keeper.walk_on.Goals as goal

pub returns-in_ok-turned-in-Lacks-clause-turn : goal.returns-in_ok-turned-in-Lacks-clause-turn
returns-in_ok-turned-in-Lacks-clause-turn g c =
    let world : World = view_world (view_of g.F.Names.view c.args.files.now) c.args.given.settings.now in
    let old = shown no_name (g.R.PathRows.entries c.args.self.now.rows) in
    let found = c.in-Lacks.found in
    let path = string_bytes found.path in
    let next = subst (IsNext world old) c.in-Lacks.is (c.in_ok-walk.ensures.next old c.requires) in
    let ready : IsReadyFor world old c.in-Lacks.walk path = record { kept = c.requires.kept; far = next.0; lacking = next.1 } in
    let begins = subst (λ (files : FileMap). let w : World = (files, c.args.given.settings.now) in IsFoundAt w found
    → TurnsPath w path c.args.given.units no_spending c.in_ok-turned-in-Lacks.turned)
    c.in_ok-walk.ensures.leaves.files c.in_ok-turned-in-Lacks.ensures.turns in
    let turns = subst (λ (before : Spent). TurnsPath world path c.args.given.units before c.in_ok-turned-in-Lacks.turned)
    (sym c.nothing.ensures) (begins next.2) in
    subst (λ (before : Spent). IfOk c.settle.result (TurnsKeeper g.R.PathRows.entries world c.args.given.units (refresh_at old before)
    c.settle.new.self)) c.nothing.ensures
    (c.settle.ensures.settles world path c.args.given.units ready turns)

pub returns-in_ok-turned-in-Lacks-clause-kept : goal.returns-in_ok-turned-in-Lacks-clause-kept
returns-in_ok-turned-in-Lacks-clause-kept g c =
    let world : World = view_world (view_of g.F.Names.view c.args.files.now) c.args.given.settings.now in
    let old = shown no_name (g.R.PathRows.entries c.args.self.now.rows) in
    let found = c.in-Lacks.found in
    let path = string_bytes found.path in
    let next = subst (IsNext world old) c.in-Lacks.is (c.in_ok-walk.ensures.next old c.requires) in
    let ready : IsReadyFor world old c.in-Lacks.walk path = record { kept = c.requires.kept; far = next.0; lacking = next.1 } in
    let begins = subst (λ (files : FileMap). let w : World = (files, c.args.given.settings.now) in IsFoundAt w found
    → TurnsPath w path c.args.given.units no_spending c.in_ok-turned-in-Lacks.turned)
    c.in_ok-walk.ensures.leaves.files c.in_ok-turned-in-Lacks.ensures.turns in
    let turns = subst (λ (before : Spent). TurnsPath world path c.args.given.units before c.in_ok-turned-in-Lacks.turned)
    (sym c.nothing.ensures) (begins next.2) in
    c.settle.ensures.kept world path c.args.given.units ready turns

pub returns-in_ok-end-in-All-clause-turn : goal.returns-in_ok-end-in-All-clause-turn
returns-in_ok-end-in-All-clause-turn g c =
    let world : World = view_world (view_of g.F.Names.view c.args.files.now) c.args.given.settings.now in
    let old = shown no_name (g.R.PathRows.entries c.args.self.now.rows) in
    let next = subst (IsNext world old) c.in-All.is (c.in_ok-walk.ensures.next old c.requires) in
    record {
      turn = c.in_ok-end-in-All.ensures.ends world (record { kept = c.requires.kept; far = next.0; fresh = next.1 });
      done = λ done. c.in_ok-end-in-All.ensures.done;
    }

pub returns-in_ok-end-in-All-clause-profiles : goal.returns-in_ok-end-in-All-clause-profiles
returns-in_ok-end-in-All-clause-profiles g c = c.in_ok-end-in-All.ensures.profiles c.args.given.settings.now.profile

pub returns-in_err-end-in-All-clause-profiles : goal.returns-in_err-end-in-All-clause-profiles
returns-in_err-end-in-All-clause-profiles g c = c.in_err-end-in-All.ensures.profiles c.args.given.settings.now.profile
