use Rattle.std.proofs.Common.{◌+◌, ◌≤◌, length, Some, Ok, drop, refl, ap, sym, subst, ◌∙◌, get_or}
use Rattle.mk_ref.specs.Atoms.{Byte, EscapedDollar, opening_of}
use Rattle.mk_loop.specs.Scopes.{words_in}
use Rattle.mk_loop.specs.Places.{ContinuesPass, closes}
use Rattle.mk_loop.proofs.AtomPlaces.{byte-at-place, pair-at-place}
use Rattle.mk_loop.proofs.PassSteps.{pass-on}
use Rattle.mk_loop.proofs.Paying.{same-paid}
use Rattle.mk_loop.proofs.pass.Pass.step.Goals as goal

pub returns-in-None-clause-goes : goal.returns-in-None-clause-goes
returns-in-None-clause-goes c = λ left stands.
    let line = c.args.body.line.now in
    let words = words_in c.args.body.loops.now in
    let variables = c.args.body.variables.now in
    let pass = c.args.self in
    let m = c.args.budget.now in
    let bytes = sym c.as_bytes-bytes.ensures.value in
    subst (λ next. ContinuesPass words variables line pass left m (Ok next) m) (sym c.on.ensures)
    (pass-on words variables line pass (pass.at + 1) (Byte (get_or line pass.at 0)) left m c.requires.placed c.requires.near
    (byte-at-place line pass.at c.requires.near (ap (λ l. opening_of (drop pass.at l)) bytes ∙ sym c.in-None.ensures.opening))
    (ap (λ l. closes pass (get_or l pass.at 0)) bytes ∙ sym c.closes.ensures ∙ c.if-closes.false)
    (λ before. refl) stands)

pub returns-in-Some-Doubled-clause-goes : goal.returns-in-Some-Doubled-clause-goes
returns-in-Some-Doubled-clause-goes c = λ left stands.
    let line = c.args.body.line.now in
    let words = words_in c.args.body.loops.now in
    let variables = c.args.body.variables.now in
    let pass = c.args.self in
    let m = c.args.budget.now in
    let bytes = sym c.as_bytes-bytes.ensures.value in
    subst (λ next. ContinuesPass words variables line pass left m (Ok next) m) (sym c.on-in-Some-Doubled.ensures)
    (pass-on words variables line pass (pass.at + 2) EscapedDollar left m c.requires.placed c.requires.near
    (pair-at-place line pass.at (subst (λ l. pass.at + 2 ≤ length l) c.as_bytes-bytes.ensures.value c.in-Some-Doubled.ensures.inside)
    (ap (λ l. opening_of (drop pass.at l)) bytes ∙ sym c.in-Some-Doubled.ensures.opening ∙ ap Some c.in-Some-Doubled.field-0-is))
    (ap (λ l. closes pass (get_or l pass.at 0)) bytes ∙ sym c.closes.ensures ∙ c.if-closes.false)
    (λ before. refl) stands)

pub returns-in-None-clause-paid : goal.returns-in-None-clause-paid
returns-in-None-clause-paid c = same-paid c.args.self c.on.result c.args.budget.now (ap (λ next. next.copied) c.on.ensures)

pub returns-in-Some-Doubled-clause-paid : goal.returns-in-Some-Doubled-clause-paid
returns-in-Some-Doubled-clause-paid c = same-paid c.args.self c.on-in-Some-Doubled.result c.args.budget.now
    (ap (λ next. next.copied) c.on-in-Some-Doubled.ensures)
