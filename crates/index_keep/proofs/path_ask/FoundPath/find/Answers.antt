-- The makefile is found where the path says, or the path leads to nothing.
use Rattle.std.proofs.Common.{◌∙◌, ap, refl, subst, sym}
use Rattle.mk_paths.specs.Place.{place, places_asked}
use Rattle.mk_paths.specs.World.{World}
use Rattle.read_trace.specs.Recorder.{view_of}
use Rattle.index_keep.specs.Paths.{IsNamed}
use Rattle.index_keep.specs.declared.path_ask.FoundPath.{FoundPath}
use Rattle.index_keep.proofs.MadeLemmas.{IsFoundAt-placed, absent-there, absent-unnamed}
use Rattle.index_keep.proofs.path_ask.FoundPath.find.Goals as goal

pub returns-in_default-clause-found : goal.returns-in_default-clause-found
returns-in_default-clause-found g c =
    let world : World = ((view_of g.F.Names.view c.args.files.now).files, c.args.settings.now) in
    absent-unnamed world c.args.path.now (subst (IsNamed c.args.path.now) c.in_default.is c.in_ok-named.ensures)

pub returns-in_default-makefile-clause-found : goal.returns-in_default-makefile-clause-found
returns-in_default-makefile-clause-found g c =
    let world : World = ((view_of g.F.Names.view c.args.files.now).files, c.args.settings.now) in
    absent-there world c.args.path.now c.in-Some.named (subst (IsNamed c.args.path.now) c.in-Some.is c.in_ok-named.ensures)
    (sym (c.in_ok-makefile.ensures.place ∙ ap (place world) c.directory.ensures) ∙ c.in_default-makefile.is)

pub returns-clause-found : goal.returns-clause-found
returns-clause-found g c =
    let files = (view_of g.F.Names.view c.args.files.now).files in
    let world : World = (files, c.args.settings.now) in
    let found : FoundPath = record {
      path = c.in_ok-from_str.field-0;
      named = c.in-Some.named;
      makefile = c.in-Some-makefile.makefile;
      placed = c.in_ok-makefile.placed;
    } in
    let there = sym (c.in_ok-makefile.ensures.place ∙ ap (place world) c.directory.ensures) ∙ c.in-Some-makefile.is in
    let asked = c.in_ok-makefile.ensures.asked ∙ ap (places_asked files c.args.settings.now.path) c.directory.ensures in (
      c.in_ok-from_str.ensures.ok,
      IsFoundAt-placed world c.args.path.now c.in-Some.named (subst (IsNamed c.args.path.now) c.in-Some.is c.in_ok-named.ensures)
          c.in_ok-makefile.placed asked
          c.in_ok-makefile.ensures.answered found refl c.in_ok-from_str.ensures.ok refl there,
    )
