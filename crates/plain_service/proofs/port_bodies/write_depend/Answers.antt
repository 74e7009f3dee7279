use Rattle.std.proofs.Common.{◌≡◌, ◌∙◌, ℕ, List, OnOk, refl, ap, subst, codes}
use Rattle.port_rules.specs.Depends.{word_of_kind}
use Rattle.serde_json.specs.Data.{Data, string, object, no_members, member}
use Rattle.plain_service.specs.JsonText.{AddsValue}
use Rattle.plain_service.proofs.port_bodies.write_depend.Goals as goal

abbrev row : List ℕ → List ℕ → List ℕ → Data
row item kind subpackage =
    object (member (codes "item") (string item) (member (codes "kind") (string kind)
    (member (codes "subpackage") (string subpackage) no_members)))

same : {item kind subpackage item' kind' subpackage' : List ℕ} → item ≡ item' → kind ≡ kind' → subpackage ≡ subpackage'
    → row item kind subpackage ≡ row item' kind' subpackage'
same a b c = rw (a, b, c) refl

pub returns : goal.returns
returns c =
    let kind = c.as_str.ensures ∙ ap word_of_kind c.kind.ensures in
    subst (λ value. OnOk c.write_object.result (AddsValue c.args.out.now c.write_object.new.out value))
    (same c.item.ensures kind c.subpackage.ensures) c.write_object.ensures
