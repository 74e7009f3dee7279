use Rattle.std.proofs.Common.{ap, ◌∙◌, subst, Err}
use Rattle.std.proofs.lemmas.Result.{err_from_is_err_and}
use Rattle.mk_base.specs.Stops.{GivesPurely}
use Rattle.pkg_name.specs.Name.{split_name}
use Rattle.port_rules.specs.Packages.{readable}
use Rattle.port_rules.proofs.Exits.{exit}
use Rattle.port_rules.proofs.package_names.marked_name.Goals as goal

pub returns-in_err-name : goal.returns-in_err-name
returns-in_err-name c = λ m.
    let p = err_from_is_err_and c.from_residual.result c.from_residual.ensures.1 in
    exit _ _ _ _ _ _ (p.1 ∙ ap Err p.2) (c.in_err-name.ensures m)

pub returns : goal.returns
returns c = λ m.
    rw (c.in_ok-name.ensures m)
    (subst (λ text. GivesPurely (λ name. name) c.read_name-2.result m (readable (split_name text) m))
    (c.as_str.ensures.value ∙ c.in_ok-extended.ensures) (c.read_name-2.ensures m))
