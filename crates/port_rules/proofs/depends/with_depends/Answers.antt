use Rattle.std.proofs.Common.{rules, ap, ◌∙◌, Err}
use Rattle.std.proofs.lemmas.Result.{err_from_is_err_and}
use Rattle.port_rules.specs.Depends.{add_depends}
use Rattle.port_rules.proofs.Exits.{exit}
use Rattle.port_rules.proofs.depends.with_depends.Goals as goal

pub returns-in_err-run : goal.returns-in_err-run
unfolding add_depends
returns-in_err-run c =
    let p = err_from_is_err_and c.from_residual-in_err-run.result c.from_residual-in_err-run.ensures.1 in
    rw (c.in_ok-lib.ensures) (exit _ _ _ _ _ _ (p.1 ∙ ap Err p.2) c.in_err-run.ensures)

pub returns : goal.returns
unfolding add_depends
returns c = rw (c.in_ok-lib.ensures, c.in_ok-run.ensures) (search rules)
