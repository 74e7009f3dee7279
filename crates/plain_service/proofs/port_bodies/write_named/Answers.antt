use Rattle.std.proofs.Common.{◌≡◌, ℕ, List, OnOk, refl, subst, codes}
use Rattle.serde_json.specs.Data.{Data, string, object, no_members, member}
use Rattle.plain_service.specs.JsonText.{AddsValue}
use Rattle.plain_service.proofs.port_bodies.write_named.Goals as goal

abbrev row : List ℕ → List ℕ → List ℕ → Data
row comment name subpackage =
    object (member (codes "comment") (string comment) (member (codes "name") (string name)
    (member (codes "subpackage") (string subpackage) no_members)))

same : {comment name subpackage comment' name' subpackage' : List ℕ} → comment ≡ comment' → name ≡ name' → subpackage ≡ subpackage'
    → row comment name subpackage ≡ row comment' name' subpackage'
same a b c = rw (a, b, c) refl

pub returns : goal.returns
returns c = subst (λ value. OnOk c.write_object.result (AddsValue c.args.out.now c.write_object.new.out value))
    (same c.comment.ensures c.requires c.subpackage.ensures) c.write_object.ensures
