use Rattle.std.proofs.Common.{◌≡◌, ◌+◌, take, drop, Some, None, refl, ap, sym, subst, ◌∙◌, arith, Ok, IfOk}
use Rattle.std.proofs.lemmas.Result.{err_from_is_err_and}
use Rattle.mk_base.specs.declared.stops.PureStop.TheVariants as pure
use Rattle.mk_ref.specs.Atoms.{Reference}
use Rattle.mk_loop.specs.LoopWords.{word_named}
use Rattle.mk_loop.specs.BodyLine.{as_written, put_reference, stays, put}
use Rattle.mk_loop.specs.Scopes.{words_in}
use Rattle.mk_loop.specs.Places.{ContinuesPass}
use Rattle.mk_loop.proofs.AtomPlaces.{letter-at-place}
use Rattle.mk_loop.proofs.Steps.{stays-letter}
use Rattle.mk_loop.proofs.PassSteps.{letter-at, letter-word, begin, pass-on, pass-put, pass-unpaid, put-placed}
use Rattle.mk_loop.proofs.Paying.{same-paid, put-paid}
use Rattle.mk_loop.proofs.pass.Pass.letter.Goals as goal

pub range-requires-clause-end_boundary : goal.range-requires-clause-end_boundary
range-requires-clause-end_boundary c =
    (letter-at c.args.body.line.now c.args.self.at c.requires.placed.text c.requires.room c.requires.opens).cuts.two

pub returns-in_err-pay-in-Some-clause-goes : goal.returns-in_err-pay-in-Some-clause-goes
returns-in_err-pay-in-Some-clause-goes c =
    let line = c.args.body.line.now in
    let words = words_in c.args.body.loops.now in
    let variables = c.args.body.variables.now in
    let pass = c.args.self in
    let at = pass.at in
    let letter = letter-at line at c.requires.placed.text c.requires.room c.requires.opens in
    let name = take 1 (drop 1 (drop at line)) in
    let written = take 2 (drop at line) in
    let named : word_named words name ≡ Some c.in-Some.word.now = letter-word words line at c.range.result.now (Some c.in-Some.word.now)
    letter c.range.ensures.value c.in-Some.ensures in
    let p = err_from_is_err_and c.from_residual.result c.from_residual.ensures.1 in
    rw (p.1, p.2)
    (λ left stands.
    pass-unpaid words variables line pass left (Reference written name None) (drop (at + 2) line) written name None c.in-Some.word.now
    c.args.budget.now c.pay.new.self (pure.Fault c.in_err-pay-in-Some.field-0.0) refl named
    (begin words variables line pass left (Reference written name None) (at + 2) (omega arith)
    (letter-at-place line at c.requires.room c.requires.opens) c.requires.stays stands)
    c.in_err-pay-in-Some.ensures.gives)

pub returns-in-None-clause-goes : goal.returns-in-None-clause-goes
returns-in-None-clause-goes c = λ left stands.
    let line = c.args.body.line.now in
    let words = words_in c.args.body.loops.now in
    let variables = c.args.body.variables.now in
    let pass = c.args.self in
    let at = pass.at in
    let letter = letter-at line at c.requires.placed.text c.requires.room c.requires.opens in
    let name = take 1 (drop 1 (drop at line)) in
    let written = take 2 (drop at line) in
    let m = c.args.budget.now in
    let named : word_named words name ≡ None = letter-word words line at c.range.result.now None letter
    c.range.ensures.value c.in-None.ensures in
    subst (λ next. ContinuesPass words variables line pass left m (Ok next) m) (sym c.on.ensures)
    (pass-on words variables line pass (at + 2) (Reference written name None) left m c.requires.placed (omega arith)
    (letter-at-place line at c.requires.room c.requires.opens) c.requires.stays
    (λ before. ap (λ found. put_reference variables (put words variables) before written None found m) named
    ∙ ap (λ l. stays (put words variables) before l m) letter.written ∙ stays-letter words variables 36 letter.letter before m
    ∙ ap (λ l. Ok (as_written before l, m)) (sym letter.written))
    stands)

pub returns-in_ok-pay-in-Some-clause-placed : goal.returns-in_ok-pay-in-Some-clause-placed
returns-in_ok-pay-in-Some-clause-placed c =
    let line = c.args.body.line.now in
    let at = c.args.self.at in
    let letter = letter-at line at c.requires.placed.text c.requires.room c.requires.opens in
    let two : at + 2 ≡ at + 1 + 1 = omega arith in
    put-placed line c.args.self (at + 1) c.put.result c.requires.placed (omega arith) letter.ascii c.put.ensures.around
    (subst (λ n. IfOk c.put.result (λ next. next.copied ≡ n)) two c.put.ensures.copied)
    (subst (λ n. IfOk c.put.result (λ next. next.at ≡ n)) two c.put.ensures.at)

pub returns-in_ok-pay-in-Some-clause-goes : goal.returns-in_ok-pay-in-Some-clause-goes
returns-in_ok-pay-in-Some-clause-goes c = λ left stands.
    let line = c.args.body.line.now in
    let words = words_in c.args.body.loops.now in
    let variables = c.args.body.variables.now in
    let pass = c.args.self in
    let at = pass.at in
    let letter = letter-at line at c.requires.placed.text c.requires.room c.requires.opens in
    let name = take 1 (drop 1 (drop at line)) in
    let written = take 2 (drop at line) in
    let named : word_named words name ≡ Some c.in-Some.word.now = letter-word words line at c.range.result.now (Some c.in-Some.word.now)
    letter c.range.ensures.value c.in-Some.ensures in
    pass-put words variables line pass (at + 2) left (Reference written name None) written name c.in-Some.word.now c.args.budget.now
    c.pay.new.self tt c.put.result refl named c.in_ok-pay-in-Some.ensures.gives
    (begin words variables line pass left (Reference written name None) (at + 2) (omega arith)
    (letter-at-place line at c.requires.room c.requires.opens) c.requires.stays stands)
    (c.put.ensures.gives c.pay.new.self) c.put.ensures.around c.put.ensures.copied c.put.ensures.at stands

pub returns-in_ok-pay-in-Some-clause-paid : goal.returns-in_ok-pay-in-Some-clause-paid
returns-in_ok-pay-in-Some-clause-paid c = put-paid c.args.self (c.args.self.at + 2) c.args.budget.now c.pay.new.self tt c.put.result
    c.in_ok-pay-in-Some.ensures.gives (omega arith) c.put.ensures.copied

pub returns-in-None-clause-paid : goal.returns-in-None-clause-paid
returns-in-None-clause-paid c = same-paid c.args.self c.on.result c.args.budget.now (ap (λ next. next.copied) c.on.ensures)
