use Rattle.std.proofs.Common.{◌+◌, drop, Some, None, ap, sym, subst, ◌∙◌, get_or, arith}
use Rattle.std.proofs.lemmas.Result.{err_from_is_err_and}
use Rattle.mk_base.specs.declared.stops.PureStop.TheVariants as pure
use Rattle.mk_ref.specs.declared.opening.Opening.TheVariants.{Marked}
use Rattle.mk_ref.specs.Atoms.{before_colon}
use Rattle.mk_ref.proofs.PieceSteps.{may_cut}
use Rattle.mk_loop.specs.Scopes.{words_in}
use Rattle.mk_loop.specs.Places.{EndsName}
use Rattle.mk_loop.proofs.PassSteps.{ascii-mark, named-none, kept-placed, after-placed, put-placed, pass-keep, marked-put, marked-unpaid}
use Rattle.mk_loop.proofs.PassSteps.{marked-replace, name-word}
use Rattle.mk_loop.proofs.Paying.{same-paid, step-paid, put-paid}
use Rattle.mk_loop.proofs.pass.Pass.marked.Goals as goal

pub returns-in_default-clause-placed : goal.returns-in_default-clause-placed
returns-in_default-clause-placed c =
    let k = c.in_ok-keep.ensures in
    let line = c.args.body.line.now in
    kept-placed line c.args.self c.in_ok-keep.field-0 c.args.mark c.requires.placed c.requires.room
    (ascii-mark (drop c.args.self.at line) c.args.mark c.requires.opens) k.joined k.around k.copied k.at

pub returns-in_default-clause-goes : goal.returns-in_default-clause-goes
returns-in_default-clause-goes c = λ left stands.
    let k = c.in_ok-keep.ensures in
    let line = c.args.body.line.now in
    let words = words_in c.args.body.loops.now in
    let start = c.args.self.at + 2 in
    let ends : EndsName line start c.args.mark None =
    subst (EndsName line start c.args.mark) c.in_default.is (subst (λ l. EndsName l start c.args.mark c.name_end.result)
    c.as_bytes-bytes.ensures.value c.name_end.ensures) in
    pass-keep words c.args.body.variables.now line c.args.self c.in_ok-keep.field-0 c.args.mark left c.args.budget.now c.requires.placed
    c.requires.room c.requires.opens c.requires.stays
    (λ atoms rest read alone. named-none words (before_colon atoms) alone (ends atoms rest read))
    k.joined k.around k.copied k.at stands

pub range-requires-clause-start_boundary : goal.range-requires-clause-start_boundary
range-requires-clause-start_boundary c = λ some. (may_cut c.args.body.line.now c.args.self.at (Marked c.args.mark) c.requires.placed.text
    c.requires.room c.requires.opens).two

pub returns-in_default-word_in-clause-placed : goal.returns-in_default-word_in-clause-placed
returns-in_default-word_in-clause-placed c =
    let k = c.in_ok-keep-2.ensures in
    let line = c.args.body.line.now in
    kept-placed line c.args.self c.in_ok-keep-2.field-0 c.args.mark c.requires.placed c.requires.room
    (ascii-mark (drop c.args.self.at line) c.args.mark c.requires.opens) k.joined k.around k.copied k.at

pub returns-in_default-word_in-clause-goes : goal.returns-in_default-word_in-clause-goes
returns-in_default-word_in-clause-goes c = λ left stands.
    let k = c.in_ok-keep-2.ensures in
    let line = c.args.body.line.now in
    let words = words_in c.args.body.loops.now in
    let start = c.args.self.at + 2 in
    let ends : EndsName line start c.args.mark (Some c.in-Some.end) = subst (λ l. EndsName l start c.args.mark (Some c.in-Some.end))
    c.as_bytes-bytes.ensures.value c.in-Some.ensures in
    pass-keep words c.args.body.variables.now line c.args.self c.in_ok-keep-2.field-0 c.args.mark left c.args.budget.now c.requires.placed
    c.requires.room c.requires.opens c.requires.stays
    (λ atoms rest read alone. name-word words line start c.args.mark c.in-Some.end atoms rest c.range.result.now (ends.3 atoms rest read)
    alone c.range.ensures.value ∙ sym c.in_default-word_in.ensures)
    k.joined k.around k.copied k.at stands

pub returns-in_err-pay-clause-goes : goal.returns-in_err-pay-clause-goes
returns-in_err-pay-clause-goes c =
    let line = c.args.body.line.now in
    let start = c.args.self.at + 2 in
    let ends : EndsName line start c.args.mark (Some c.in-Some.end) = subst (λ l. EndsName l start c.args.mark (Some c.in-Some.end))
    c.as_bytes-bytes.ensures.value c.in-Some.ensures in
    let p = err_from_is_err_and c.from_residual-in_err-pay.result c.from_residual-in_err-pay.ensures.1 in
    rw (p.1, p.2)
    (λ left stands.
    marked-unpaid (words_in c.args.body.loops.now) c.args.body.variables.now line c.args.self c.args.mark c.in-Some.end left
    c.in-Some-word_in.word.now c.range.result.now c.args.budget.now c.pay.new.self (pure.Fault c.in_err-pay.field-0.0)
    c.requires.room c.requires.opens c.requires.stays ends c.range.ensures.value c.in-Some-word_in.ensures
    c.in_err-pay.ensures.gives stands)

pub returns-then-bytes-end-clause-placed : goal.returns-then-bytes-end-clause-placed
returns-then-bytes-end-clause-placed c =
    let line = c.args.body.line.now in
    let start = c.args.self.at + 2 in
    let ends : EndsName line start c.args.mark (Some c.in-Some.end) = subst (λ l. EndsName l start c.args.mark (Some c.in-Some.end))
    c.as_bytes-bytes.ensures.value c.in-Some.ensures in
    put-placed line c.args.self c.in-Some.end c.put.result c.requires.placed ends.1 ends.2 c.put.ensures.around
    c.put.ensures.copied c.put.ensures.at

pub returns-then-bytes-end-clause-goes : goal.returns-then-bytes-end-clause-goes
returns-then-bytes-end-clause-goes c = λ left stands.
    let line = c.args.body.line.now in
    let start = c.args.self.at + 2 in
    let ends : EndsName line start c.args.mark (Some c.in-Some.end) = subst (λ l. EndsName l start c.args.mark (Some c.in-Some.end))
    c.as_bytes-bytes.ensures.value c.in-Some.ensures in
    marked-put (words_in c.args.body.loops.now) c.args.body.variables.now line c.args.self c.args.mark c.in-Some.end left
    c.in-Some-word_in.word.now c.range.result.now c.args.budget.now c.pay.new.self tt c.put.result
    c.requires.room c.requires.opens c.requires.stays ends (ap (λ l. get_or l c.in-Some.end 0) (sym c.as_bytes-bytes.ensures.value)
    ∙ c.if-bytes-end.true) c.range.ensures.value c.in-Some-word_in.ensures c.in_ok-pay.ensures.gives
    (c.put.ensures.gives c.pay.new.self) c.put.ensures.around c.put.ensures.copied c.put.ensures.at stands

pub returns-in_ok-replace-clause-placed : goal.returns-in_ok-replace-clause-placed
returns-in_ok-replace-clause-placed c =
    let k = c.in_ok-replace.ensures in
    let line = c.args.body.line.now in
    let start = c.args.self.at + 2 in
    let ends : EndsName line start c.args.mark (Some c.in-Some.end) = subst (λ l. EndsName l start c.args.mark (Some c.in-Some.end))
    c.as_bytes-bytes.ensures.value c.in-Some.ensures in
    after-placed line c.in_ok-replace.field-0 c.in-Some.end c.requires.placed.text ends.1 ends.2 k.marks k.copied k.at

pub returns-in_ok-replace-clause-goes : goal.returns-in_ok-replace-clause-goes
returns-in_ok-replace-clause-goes c = λ left stands.
    let k = c.in_ok-replace.ensures in
    let line = c.args.body.line.now in
    let start = c.args.self.at + 2 in
    let ends : EndsName line start c.args.mark (Some c.in-Some.end) = subst (λ l. EndsName l start c.args.mark (Some c.in-Some.end))
    c.as_bytes-bytes.ensures.value c.in-Some.ensures in
    marked-replace (words_in c.args.body.loops.now) c.args.body.variables.now line c.args.self c.in_ok-replace.field-0 c.args.mark
    c.in-Some.end left c.in-Some-word_in.word.now c.range.result.now c.args.budget.now c.pay.new.self tt
    c.requires.room c.requires.opens c.requires.stays ends
    (λ shut. c.if-bytes-end.false (ap (λ l. get_or l c.in-Some.end 0) c.as_bytes-bytes.ensures.value ∙ shut)) c.range.ensures.value
    c.in-Some-word_in.ensures c.in_ok-pay.ensures.gives
    k.joined k.around k.copied k.at stands

pub returns-in_default-clause-paid : goal.returns-in_default-clause-paid
returns-in_default-clause-paid c = same-paid c.args.self c.in_ok-keep.field-0 c.args.budget.now c.in_ok-keep.ensures.copied

pub returns-in_default-word_in-clause-paid : goal.returns-in_default-word_in-clause-paid
returns-in_default-word_in-clause-paid c = same-paid c.args.self c.in_ok-keep-2.field-0 c.args.budget.now c.in_ok-keep-2.ensures.copied

pub returns-then-bytes-end-clause-paid : goal.returns-then-bytes-end-clause-paid
returns-then-bytes-end-clause-paid c = put-paid c.args.self (c.in-Some.end + 1) c.args.budget.now c.pay.new.self tt c.put.result
    c.in_ok-pay.ensures.gives (omega arith) c.put.ensures.copied

pub returns-in_ok-replace-clause-paid : goal.returns-in_ok-replace-clause-paid
returns-in_ok-replace-clause-paid c = step-paid c.args.self c.in_ok-replace.field-0 c.args.budget.now c.pay.new.self tt
    c.in_ok-pay.ensures.gives (omega (arith, c.in_ok-replace.ensures.copied))
