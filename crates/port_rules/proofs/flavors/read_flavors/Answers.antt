use Rattle.std.proofs.Common.{rules, ap, ◌∙◌, Err}
use Rattle.std.proofs.lemmas.Result.{err_from_is_err_and}
use Rattle.port_rules.specs.Flavors.{flavors_read}
use Rattle.port_rules.proofs.Exits.{exit}
use Rattle.port_rules.proofs.FlavorTests.{checked_flavors-fault}
use Rattle.port_rules.proofs.flavors.read_flavors.Goals as goal

pub returns-in_err-pseudo : goal.returns-in_err-pseudo
unfolding flavors_read
returns-in_err-pseudo c =
    let p = err_from_is_err_and c.from_residual-in_err-pseudo.result c.from_residual-in_err-pseudo.ensures.1 in
    rw (c.in_ok-chosen.ensures, c.in_ok-proper.ensures) (exit _ _ _ _ _ _ (p.1 ∙ ap Err p.2) c.in_err-pseudo.ensures)

pub returns-then-not-branch : goal.returns-then-not-branch
unfolding flavors_read
returns-then-not-branch c =
    rw (c.in_ok-chosen.ensures, c.in_ok-proper.ensures, c.in_ok-pseudo.ensures)
    (checked_flavors-fault _ _ _ _ c.new-flavors.ensures c.in_ok-has_chosen.ensures c.if-not-branch.true)

pub returns : goal.returns
unfolding flavors_read
returns c = rw (c.in_ok-chosen.ensures, c.in_ok-proper.ensures, c.in_ok-pseudo.ensures) (search rules)
