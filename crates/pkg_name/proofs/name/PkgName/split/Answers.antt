-- What is before the first version's dash is the stem, and the words after it are the version and the flavors.
use Rattle.std.proofs.Common.{◌∙◌, sym, ap, map}
use Rattle.std.specs.String.{string_bytes}
use Rattle.pkg_name.specs.Version.{is_version}
use Rattle.pkg_name.specs.Name.{NameParts}
use Rattle.text_parts.specs.Cuts.{now_all}
use Rattle.pkg_name.proofs.NameTexts.{name_read, split-IsName}
use Rattle.pkg_name.proofs.name.PkgName.split.Goals as goal

pub invariant_of-result-2 : goal.invariant_of-result-2
invariant_of-result-2 c =
    let parts : NameParts = record {
      stem = string_bytes c.in_ok-from_str.field-0;
      version = string_bytes c.version.inside.text;
      flavors =
          map string_bytes c.in_ok-copies_of.field-0.items;
    } in
    split-IsName c.args.text.now parts
    (name_read c.args.text.now c.in-Some.stem.now c.in-Some.behind.now c.in-Some-version_and_flavors.version.now
    (now_all c.deref.result.now)
    (now_all c.in-Some-version_and_flavors.flavors.now) parts
    c.in-Some.ensures (ap now_all c.deref.ensures.value ∙ c.in_ok-words.ensures) c.in-Some-version_and_flavors.ensures
    (ap is_version (sym c.in-Ok.ensures.text) ∙ c.in-Ok.ensures.ok)
    c.in_ok-from_str.ensures.ok (c.version.view_is ∙ c.in-Ok.ensures.text) c.in_ok-copies_of.ensures)

pub returns-clause-ok : goal.returns-clause-ok
returns-clause-ok c =
    let parts : NameParts = record {
      stem = string_bytes c.in_ok-from_str.field-0;
      version = string_bytes c.version.inside.text;
      flavors =
          map string_bytes c.in_ok-copies_of.field-0.items;
    } in
    name_read c.args.text.now c.in-Some.stem.now c.in-Some.behind.now c.in-Some-version_and_flavors.version.now (now_all c.deref.result.now)
    (now_all c.in-Some-version_and_flavors.flavors.now) parts
    c.in-Some.ensures (ap now_all c.deref.ensures.value ∙ c.in_ok-words.ensures) c.in-Some-version_and_flavors.ensures
    (ap is_version (sym c.in-Ok.ensures.text) ∙ c.in-Ok.ensures.ok)
    c.in_ok-from_str.ensures.ok (c.version.view_is ∙ c.in-Ok.ensures.text) c.in_ok-copies_of.ensures
