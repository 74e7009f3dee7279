-- The path that was passed has a fresh row, or no makefile.
use Rattle.std.proofs.Common.{◌≡◌, ◌<◌, ◌+◌, ◌∙◌, ap, subst, sym, true, false, length, arith, is_some, option_map, string_bytes}
use Rattle.std.proofs.lemmas.List.{take-map}
use Rattle.mk_paths.specs.FilesView.{view_world}
use Rattle.mk_paths.specs.World.{World, FileMap}
use Rattle.read_trace.specs.Recorder.{view_of}
use Rattle.port_index.specs.Efforts.{decided, has_makefile}
use Rattle.port_index.specs.FilledRows.{is_one_of}
use Rattle.port_index.specs.Seen.{entries_in}
use Rattle.index_keep.specs.Paths.{IsFoundAt, IsFoundOf}
use Rattle.index_keep.specs.Walk.{paths_of}
use Rattle.index_keep.proofs.ListLemmas.{none-of, one_of-place, passes-more, some-map}
use Rattle.index_keep.proofs.WalkLemmas.{decided-absent, decided-known}
use Rattle.index_keep.proofs.stage.Stage.lacking.Goals as goal

pub loop-place-preserved-then-is_some : goal.loop-place-preserved-then-is_some
loop-place-preserved-then-is_some g c =
    let world : World = view_world (view_of g.F.Names.view c.args.files.now) c.args.settings.now in
    let known = c.args.self.now.known in
    let texts = c.args.self.now.paths.items in
    let text = c.index.result.now in
    let place = c.loop-place.place in
    let before = c.loop-place.invariant in
    let inside : place < length texts = omega arith in
    let some : is_some (entries_in known (string_bytes text)) ≡ true =
    ap (λ path. is_some (entries_in known path)) (sym c.as_str-path.ensures.value) ∙ ap is_some (sym c.get.ensures)
    ∙ some-map _ c.get.result ∙ sym c.is_some.ensures ∙ c.if-is_some.true in
    record {
      passed = λ passed path one. passes-more (λ at. is_some (decided world (entries_in known) at)) texts place text inside c.index.ensures
          (decided-known world (entries_in known) (string_bytes text) some)
          (λ at among. before.passed passed at (ap (is_one_of at) (take-map string_bytes place texts) ∙ among)) path
          (sym (ap (is_one_of path) (take-map string_bytes (place + 1) texts)) ∙ one);
      leaves = before.leaves;
    }

pub returns-in-Some-clause-comes : goal.returns-in-Some-clause-comes
returns-in-Some-clause-comes g c = λ passed.
    let known = c.args.self.now.known in
    let texts = c.args.self.now.paths.items in
    let text = c.index.result.now in
    let place = c.loop-place.place in
    let before = c.loop-place.invariant in
    let inside : place < length texts = omega arith in
    let path = c.as_str-path.result.now in
    let found = c.in-Some.found in
    let now : World = view_world (view_of g.F.Names.view c.loop-place.files) c.args.settings.now in
    let is = subst (IsFoundOf now path) c.in-Some.is c.in_ok-found.ensures.found in (
      before.passed passed,
      record {
        among = ap (λ at. is_one_of at (paths_of c.args.self.now)) (is.0 ∙ c.as_str-path.ensures.value)
            ∙ one_of-place texts place text inside c.index.ensures;
        lacking = ap (entries_in known) is.0 ∙ sym c.get.ensures
            ∙ ap (option_map _) (none-of c.get.result (sym c.is_some.ensures ∙ c.if-is_some.false));
        found = subst (λ (files : FileMap). let w : World = (files, c.args.settings.now) in IsFoundAt w found) before.leaves.files is.1;
      },
    )

pub loop-place-preserved : goal.loop-place-preserved
loop-place-preserved g c =
    let world : World = view_world (view_of g.F.Names.view c.args.files.now) c.args.settings.now in
    let known = c.args.self.now.known in
    let texts = c.args.self.now.paths.items in
    let text = c.index.result.now in
    let place = c.loop-place.place in
    let before = c.loop-place.invariant in
    let inside : place < length texts = omega arith in
    let path = c.as_str-path.result.now in
    let now : World = view_world (view_of g.F.Names.view c.loop-place.files) c.args.settings.now in
    let gone : has_makefile now path ≡ false = subst (IsFoundOf now path) c.in_default.is c.in_ok-found.ensures.found in
    let absent : has_makefile world (string_bytes text) ≡ false =
    ap (has_makefile world) (sym c.as_str-path.ensures.value)
    ∙ subst (λ (files : FileMap). let w : World = (files, c.args.settings.now) in has_makefile w path ≡ false)
    before.leaves.files gone in
    record {
      passed = λ passed at one. passes-more (λ at. is_some (decided world (entries_in known) at)) texts place text inside c.index.ensures
          (decided-absent world (entries_in known) (string_bytes text) absent)
          (λ at among. before.passed passed at (ap (is_one_of at) (take-map string_bytes place texts) ∙ among)) at
          (sym (ap (is_one_of at) (take-map string_bytes (place + 1) texts)) ∙ one);
      leaves = record {
        files = c.in_ok-found.ensures.leaves.files ∙ before.leaves.files;
        failures = c.in_ok-found.ensures.leaves.failures ∙ before.leaves.failures;
      };
    }
