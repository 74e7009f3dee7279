-- The next makefile is there too. At the end, all are.
use Rattle.std.proofs.Common.{◌≡◌, ◌∙◌, ap, subst, refl, sym, Bool, true, false, ◌||◌, List, ℕ, map, string_bytes}
use Rattle.std.proofs.lemmas.Slice.Eq.{bytes_eq-Decides}
use Rattle.std.specs.FinMap.{contains_key}
use Rattle.std.specs.Str.{bytes_eq}
use Rattle.mk_paths.specs.World.{FileMap}
use Rattle.port_index.specs.FilledRows.{is_one_of}
use Rattle.port_index.specs.Makefiles.{is_makefile}
use Rattle.port_index.proofs.MakefileLemmas.{changed-named}
use Rattle.port_index.proofs.makefiles.makefiles_are_there.Goals as goal

abbrev IsThere : FileMap → List ℕ → Type 0
IsThere files name = is_makefile name ≡ true → contains_key files name ≡ true

next_name : (files : FileMap) (item name : List ℕ) (same : Bool) → bytes_eq item name ≡ same → IsThere files item
    → ((same || false) ≡ false → IsThere files name) → IsThere files name
next_name files item name true e there passed = subst (IsThere files) ((bytes_eq-Decides item name).0 e) there
next_name files item name false e there passed = passed refl

pub loop-name-preserved : goal.loop-name-preserved
loop-name-preserved g c =
    let files = (g.F.Names.view c.args.files.now).files in
    let item = string_bytes c.in-Some.name.now in
    let keeps = c.in_ok-is_there_if_makefile.ensures.keeps in
    let before = c.loop-name.invariant.2 in
    let there = subst (λ (map : FileMap). IsThere map item) before.files
    (subst (IsThere (g.F.Names.view c.loop-name.files).files) c.as_str.ensures.value
    (c.in_ok-is_there_if_makefile.ensures.there c.if-not-branch.false)) in (
      tt,
      tt,
      record { files = keeps.files ∙ before.files; failures = keeps.failures ∙ before.failures },
      λ name one left. next_name files item name (bytes_eq item name) refl there
          (λ apart. c.loop-name.invariant.3 name one
          (ap (λ names. is_one_of name (map string_bytes names)) c.in-Some.ensures.steps ∙ ap (λ b. bytes_eq item name || b) left ∙ apart)),
    )

pub returns-clause-there : goal.returns-clause-there
returns-clause-there g c = λ are name changed.
    c.loop-name.invariant.3 name (sym (changed-named c.args.names.now name) ∙ changed)
    (ap (λ names. is_one_of name (map string_bytes names)) c.in-None.ensures.steps.0)
