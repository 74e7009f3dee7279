use Rattle.std.proofs.Common.{◌≡◌, ◌∙◌, ℕ, List, OnOk, refl, ap, subst, codes}
use Rattle.port_rules.specs.Depends.{word_of_kind}
use Rattle.port_deps.specs.Statuses.{word_of_status as status_word}
use Rattle.serde_json.specs.Data.{Data, string, object, no_members, member}
use Rattle.plain_service.specs.JsonText.{AddsValue}
use Rattle.plain_service.proofs.list_bodies.dependent.Goals as goal

abbrev row : List ℕ → List ℕ → List ℕ → List ℕ → List ℕ → Data
row item kind path status subpackage =
    object (member (codes "item") (string item) (member (codes "kind") (string kind) (member (codes "path") (string path)
    (member (codes "status") (string status) (member (codes "subpackage") (string subpackage) no_members)))))

same : (path : List ℕ) {item kind status subpackage item' kind' status' subpackage' : List ℕ} → item ≡ item' → kind ≡ kind'
    → status ≡ status' → subpackage ≡ subpackage'
    → row item kind path status subpackage ≡ row item' kind' path status' subpackage'
same path a b c d = rw (a, b, c, d) refl

pub returns : goal.returns
returns c =
    let kind = c.as_str.ensures ∙ ap word_of_kind c.kind.ensures in
    let status = c.as_str-2.ensures ∙ ap status_word c.status.ensures in
    subst (λ value. OnOk c.write_object.result (AddsValue c.args.out.now c.write_object.new.out value))
    (same c.args.root.now c.item.ensures kind status c.subpackage.ensures) c.write_object.ensures
