-- What the parts of a port's record are written as.
use Rattle.std.proofs.Common.{◌≡◌, ℕ, List, Some, refl, ap, subst, ◌∙◌}
use Rattle.port_rules.specs.declared.depends.DependKind.{DependKind}
use Rattle.port_rules.specs.declared.depends.DependKind.TheVariants as kinds
use Rattle.pkg_name.specs.Name.{NameParts}
use Rattle.port_rules.specs.Flavors.{FlavorsValue, make_flavors}
use Rattle.port_rules.specs.Packages.{PackageValue, make_package}
use Rattle.port_rules.specs.Depends.{DependValue, make_depend}
use Rattle.port_rules.specs.Ports.{PortValue, make_port}
use Rattle.index_row.specs.Reads.{give, ◌>>=◌, give_if_some, byte, text, texts, list}
use Rattle.index_row.specs.Names.{name}
use Rattle.index_row.specs.Ports.{flavors, port_package, depend_number, depend_kind_of, depend_kind, depend, port}
use Rattle.index_row.specs.Answers.{Adds}
use Rattle.index_row.proofs.Adding.{Adds-then, Adds-last, Adds-value_in}

depend_kind_of-depend_number : (kind : DependKind) → depend_kind_of (depend_number kind) ≡ Some kind
unfolding depend_kind_of
depend_kind_of-depend_number kinds.Build = refl
depend_kind_of-depend_number kinds.Lib = refl
depend_kind_of-depend_number kinds.Run = refl
depend_kind_of-depend_number kinds.Test = refl

pub Adds-depend_kind : (old new : List ℕ) (kind : DependKind) (value : ℕ) → value ≡ depend_number kind → Adds byte old new value
    → Adds depend_kind old new kind
unfolding depend_kind
Adds-depend_kind old new kind value is one =
    Adds-then byte (λ number. give_if_some (depend_kind_of number)) old new new (depend_number kind) kind (subst (Adds byte old new) is one)
    (Adds-value_in (depend_kind_of (depend_number kind)) kind new (depend_kind_of-depend_number kind))

-- Each part is what the value says of it. So the parts, one after another, are the value.
pub Adds-depend : (old one two new : List ℕ) (kind : DependKind) (subpackage item : List ℕ) (written : DependValue)
    → Adds depend_kind old one kind → Adds text one two subpackage → Adds text two new item
    → kind ≡ written.kind → subpackage ≡ written.subpackage → item ≡ written.item → Adds depend old new written
unfolding depend
Adds-depend old one two new kind subpackage item written p q r e f g =
    let same : make_depend kind subpackage item ≡ written =
    ap (λ k. make_depend k subpackage item) e ∙ ap (λ s. make_depend written.kind s item) f
    ∙ ap (make_depend written.kind written.subpackage) g in
    subst (Adds depend old new) same
    (Adds-then depend_kind (λ kind. text >>= λ subpackage. text >>= λ item. give (make_depend kind subpackage item)) old one new kind
    (make_depend kind subpackage item) p
    (Adds-then text (λ subpackage. text >>= λ item. give (make_depend kind subpackage item)) one two new subpackage
    (make_depend kind subpackage item) q
    (Adds-last text (make_depend kind subpackage) two new item r)))

pub Adds-package : (old one two new : List ℕ) (subpackage : List ℕ) (full : NameParts) (comment : List ℕ) (written : PackageValue)
    → Adds text old one subpackage → Adds name one two full → Adds text two new comment
    → subpackage ≡ written.subpackage → full ≡ written.name → comment ≡ written.comment → Adds port_package old new written
unfolding port_package
Adds-package old one two new subpackage full comment written p q r e f g =
    let same : make_package subpackage full comment ≡ written =
    ap (λ s. make_package s full comment) e ∙ ap (λ n. make_package written.subpackage n comment) f
    ∙ ap (make_package written.subpackage written.name) g in
    subst (Adds port_package old new) same
    (Adds-then text (λ subpackage. name >>= λ full. text >>= λ comment. give (make_package subpackage full comment)) old one new subpackage
    (make_package subpackage full comment) p
    (Adds-then name (λ full. text >>= λ comment. give (make_package subpackage full comment)) one two new full
    (make_package subpackage full comment) q
    (Adds-last text (make_package subpackage full) two new comment r)))

pub Adds-flavors : (old one two new : List ℕ) (chosen proper pseudo : List (List ℕ)) (written : FlavorsValue)
    → Adds texts old one chosen → Adds texts one two proper → Adds texts two new pseudo
    → chosen ≡ written.chosen → proper ≡ written.proper → pseudo ≡ written.pseudo → Adds flavors old new written
unfolding flavors
Adds-flavors old one two new chosen proper pseudo written p q r e f g =
    let same : make_flavors chosen proper pseudo ≡ written =
    ap (λ c. make_flavors c proper pseudo) e ∙ ap (λ t. make_flavors written.chosen t pseudo) f
    ∙ ap (make_flavors written.chosen written.proper) g in
    subst (Adds flavors old new) same
    (Adds-then texts (λ chosen. texts >>= λ proper. texts >>= λ pseudo. give (make_flavors chosen proper pseudo)) old one new chosen
    (make_flavors chosen proper pseudo) p
    (Adds-then texts (λ proper. texts >>= λ pseudo. give (make_flavors chosen proper pseudo)) one two new proper
    (make_flavors chosen proper pseudo) q
    (Adds-last texts (make_flavors chosen proper) two new pseudo r)))

-- a port by its parts
pub Adds-port : (old one two three four new : List ℕ) (of : FlavorsValue) (maintainer : List ℕ) (categories : List (List ℕ))
    (packages : List PackageValue) (depends : List DependValue)
    → Adds flavors old one of → Adds text one two maintainer → Adds texts two three categories → Adds (list port_package) three four
    packages → Adds (list depend) four new depends
    → Adds port old new (make_port of maintainer categories packages depends)
unfolding port
Adds-port old one two three four new of maintainer categories packages depends p q r s t =
    let made = make_port of maintainer categories packages depends in
    Adds-then flavors
    (λ of. text >>= λ maintainer. texts >>= λ categories. list port_package >>= λ packages. list depend >>= λ depends. give
    (make_port of maintainer categories packages depends))
    old one new of made p
    (Adds-then text (λ maintainer. texts >>= λ categories. list port_package >>= λ packages. list depend >>= λ depends. give
    (make_port of maintainer categories packages depends))
    one two new maintainer made q
    (Adds-then texts (λ categories. list port_package >>= λ packages. list depend >>= λ depends. give
    (make_port of maintainer categories packages depends))
    two three new categories made r
    (Adds-then (list port_package) (λ packages. list depend >>= λ depends. give (make_port of maintainer categories packages depends))
    three four new packages made s
    (Adds-last (list depend) (make_port of maintainer categories packages) four new depends t))))

-- a port that has these parts
pub same_port : (of : FlavorsValue) (maintainer : List ℕ) (categories : List (List ℕ)) (packages : List PackageValue)
    (depends : List DependValue) (written : PortValue)
    → of ≡ written.flavors → maintainer ≡ written.maintainer → categories ≡ written.categories → packages ≡ written.packages
    → depends ≡ written.depends
    → make_port of maintainer categories packages depends ≡ written
same_port of maintainer categories packages depends written a b c d e =
    ap (λ f. make_port f maintainer categories packages depends) a
    ∙ ap (λ m. make_port written.flavors m categories packages depends) b
    ∙ ap (λ cs. make_port written.flavors written.maintainer cs packages depends) c
    ∙ ap (λ ps. make_port written.flavors written.maintainer written.categories ps depends) d
    ∙ ap (make_port written.flavors written.maintainer written.categories written.packages) e
