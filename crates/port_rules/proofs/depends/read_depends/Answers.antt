use Rattle.std.proofs.Common.{◌++◌, [], ap, ◌∙◌, sym, map, string_bytes, Ok, Err}
use Rattle.std.proofs.lemmas.Result.{err_from_is_err_and}
use Rattle.mk_base.specs.Outcome.{each}
use Rattle.port_rules.specs.Depends.{add_depends, depends, depends_of}
use Rattle.port_rules.specs.declared.depends.DependKind.TheVariants.{Build}
use Rattle.port_rules.proofs.Exits.{exit}
use Rattle.port_rules.proofs.depends.read_depends.Goals as goal

pub returns-in_err-test : goal.returns-in_err-test
unfolding depends_of
returns-in_err-test c =
    let p = err_from_is_err_and c.from_residual-in_err-test.result c.from_residual-in_err-test.ensures.1 in
    let built = c.in_ok-put_depends.ensures ∙ ap (λ held. held ++ depends Build [] (map string_bytes c.in_ok-build.build.items))
    c.new-found.ensures.items in
    let found = ap (λ held. each (add_depends c.args.env.now) held (map string_bytes c.args.subpackages.now) c.asked_words.new.budget)
    (sym built) ∙ c.in_ok-found.ensures in
    rw (c.in_ok-build.ensures, found) (exit _ _ _ _ _ _ (p.1 ∙ ap Err p.2) c.in_err-test.ensures)

pub returns : goal.returns
unfolding depends_of
returns c =
    let built = c.in_ok-put_depends.ensures ∙ ap (λ held. held ++ depends Build [] (map string_bytes c.in_ok-build.build.items))
    c.new-found.ensures.items in
    let found = ap (λ held. each (add_depends c.args.env.now) held (map string_bytes c.args.subpackages.now) c.asked_words.new.budget)
    (sym built) ∙ c.in_ok-found.ensures in
    rw (c.in_ok-build.ensures, found, c.in_ok-test.ensures)
    (ap (λ items. Ok (items, c.asked_words-2.new.budget)) (sym c.in_ok-put_depends-2.ensures))
