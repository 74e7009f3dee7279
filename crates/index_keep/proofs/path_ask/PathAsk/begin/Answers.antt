-- The evaluation of the makefile that was found is asked for in the same files.
use Rattle.std.proofs.Common.{refl, subst, sym, arith, IfOk, Bor, map, option_map, string_bytes, List, String, Global}
use Rattle.mk_paths.specs.World.{World, FileMap}
use Rattle.eval_cache.specs.Keys.{key_for}
use Rattle.turn_amounts.specs.declared.spent.Spent.{Spent}
use Rattle.read_trace.specs.Recorder.{view_of}
use Rattle.turn_amounts.specs.Spent.{IsUpFrom}
use Rattle.eval_ask.specs.Ask.{HasComeTo, HasLooked, spent_in}
use Rattle.index_keep.specs.Paths.{IsPathAsk, TurnsPath}
use Rattle.index_keep.specs.declared.path_ask.PathAsk.{PathAsk}
use Rattle.index_keep.proofs.path_ask.PathAsk.begin.Goals as goal

pub go_on-requires : goal.go_on-requires
go_on-requires g c =
    let key = key_for c.args.settings.now c.args.found.makefile
    (option_map (λ (names : Bor (List (String Global))). map string_bytes names.now) c.flavors.result) in
    record {
      begun = record {
        key = key;
        come = subst (λ (f : FileMap). HasComeTo f key c.in_ok-ask.ask) (sym c.in_ok-ask.ensures.leaves.0)
            c.in_ok-ask.ensures.asks.comes;
      };
      up = subst (λ (before : Spent). IsUpFrom before (spent_in c.in_ok-ask.ask)) (sym c.nothing.ensures)
          (record { units = omega arith; checks = omega arith });
      looked = subst (λ (before : Spent). HasLooked before c.in_ok-ask.ask) (sym c.nothing.ensures) c.in_ok-ask.ensures.asks.looked;
    }

pub returns-clause-turns : goal.returns-clause-turns
returns-clause-turns g c = λ at.
    let seen = view_of g.F.Names.view in
    let files = (seen c.args.files.now).files in
    let settings = c.args.settings.now in
    let world : World = (files, settings) in
    let ask = c.in_ok-ask.ask in
    let found = c.args.found in
    let path = string_bytes found.path in
    let self : PathAsk = record { found = found; ask = ask } in
    let under : IsPathAsk world path self = record {
      at = refl;
      found = at;
      come = subst (λ flavors. HasComeTo files (key_for settings found.makefile flavors) ask) c.flavors.ensures
          c.in_ok-ask.ensures.asks.comes;
    } in
    let same = c.in_ok-ask.ensures.leaves.0 in
    let turns = subst (λ (f : FileMap). IsPathAsk (f, settings) path self
    → IfOk c.go_on.result (TurnsPath (f, settings) path c.args.units c.nothing.result)) same (c.go_on.ensures.turns settings) under in
    subst (λ (before : Spent). IfOk c.go_on.result (TurnsPath world path c.args.units before)) c.nothing.ensures turns
