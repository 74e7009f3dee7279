use Rattle.std.proofs.Common.{◌≡◌, ◌∙◌, ℕ, List, [], ◌∷◌, IfOk, refl, ap, subst, map, codes, string_bytes}
use Rattle.pkg_path.specs.Paths.{PathValue, port_path}
use Rattle.port_rules.specs.Depends.{DependValue}
use Rattle.port_rules.specs.Flavors.{FlavorsValue}
use Rattle.port_rules.specs.Packages.{PackageValue}
use Rattle.port_rules.specs.Ports.{PortValue}
use Rattle.serde_json.specs.Data.{array, string}
use Rattle.serde_json.specs.View.{items_of}
use Rattle.serde_json.specs.Written.{compact_text}
use Rattle.plain_service.specs.PortBody.{texts_body, depend_body, package_body, port_body}
use Rattle.plain_service.specs.JsonText.{Member, object_of}
use Rattle.plain_service.proofs.WritingLemmas.{one_member_more}
use Rattle.plain_service.proofs.port_bodies.port.Goals as goal

-- the members of a port
abbrev members : List (List ℕ) → List DependValue → List (List ℕ) → List (List ℕ) → List ℕ → List PackageValue → List ℕ → List (List ℕ)
    → List Member
members categories depends chosen proper maintainer packages path pseudo =
    (codes "categories", texts_body categories) ∷ (codes "depends", array (items_of (map depend_body depends)))
    ∷ (codes "flavor", texts_body chosen)
    ∷ (codes "flavors", texts_body proper) ∷ (codes "maintainer", string maintainer)
    ∷ (codes "packages", array (items_of (map package_body packages)))
    ∷ (codes "path", string path) ∷ (codes "pseudo", texts_body pseudo) ∷ []

same : (path : PathValue) (port : PortValue) {categories chosen proper pseudo : List (List ℕ)}
    {depends : List DependValue} {packages : List PackageValue} {maintainer text : List ℕ}
    → categories ≡ port.categories → depends ≡ port.depends → chosen ≡ port.flavors.chosen → proper ≡ port.flavors.proper
    → maintainer ≡ port.maintainer → packages ≡ port.packages
    → text ≡ port_path path → pseudo ≡ port.flavors.pseudo
    → object_of (members categories depends chosen proper maintainer packages text pseudo) ≡ port_body path port
same path port a b c d e f g h = rw (a, b, c, d, e, f, g, h) refl

pub returns : goal.returns
returns c =
    let categories = map string_bytes c.categories.result.now in
    let depends = c.depends.result.now in
    let chosen = map string_bytes c.chosen.result.now in
    let proper = map string_bytes c.proper.result.now in
    let maintainer = c.maintainer.result.now in
    let packages = c.packages.result.now in
    let path = c.as_str.result.now in
    let pseudo = map string_bytes c.pseudo.result.now in
    let flavors = c.flavors-flavors.ensures in
    let first = one_member_more (codes "categories") (texts_body categories) c.in_ok-out.ensures c.in_ok-write_texts.ensures in
    let second = one_member_more (codes "depends") (array (items_of (map depend_body depends))) first c.in_ok-write_depends.ensures in
    let third = one_member_more (codes "flavor") (texts_body chosen) second c.in_ok-write_texts-2.ensures in
    let fourth = one_member_more (codes "flavors") (texts_body proper) third c.in_ok-write_texts-3.ensures in
    let fifth = one_member_more (codes "maintainer") (string maintainer) fourth c.in_ok-write_text.ensures in
    let sixth = one_member_more (codes "packages") (array (items_of (map package_body packages))) fifth c.in_ok-write_packages.ensures in
    let seventh = one_member_more (codes "path") (string path) sixth c.in_ok-write_text-2.ensures in
    let eighth = one_member_more (codes "pseudo") (texts_body pseudo) seventh c.in_ok-write_texts-4.ensures in
    subst (λ body. IfOk c.end_members.result (λ text. text.items ≡ compact_text body))
    (same c.args.path.now c.args.port.now c.categories.ensures c.depends.ensures
    (c.chosen.ensures ∙ ap (λ (f : FlavorsValue). f.chosen) flavors)
    (c.proper.ensures ∙ ap (λ (f : FlavorsValue). f.proper) flavors) c.maintainer.ensures c.packages.ensures
    (c.as_str.ensures.value ∙ c.in_ok-path.ensures)
    (c.pseudo.ensures ∙ ap (λ (f : FlavorsValue). f.pseudo) flavors))
    (c.end_members.ensures (members categories depends chosen proper maintainer packages path pseudo) eighth)
