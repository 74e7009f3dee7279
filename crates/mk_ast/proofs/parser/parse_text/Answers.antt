use Rattle.std.proofs.Common.{◌≡◌, sym, ap, subst, ◌∙◌}
use Rattle.std.proofs.lemmas.Result.{err_from_is_err_and}
use Rattle.std.proofs.lemmas.List.{nil_from_length}
use Rattle.mk_ast.specs.declared.nodes.TheConstants.{BLOCKS}
use Rattle.mk_ast.specs.Blocks.{whole_reading, read_on}
use Rattle.mk_ast.specs.Parser.{HoldsOfAnswer, with_kind}
use Rattle.mk_ast.specs.ReaderViews.{state_of_reader}
use Rattle.mk_ast.proofs.LineRuns.{read-end, read-next, read-wrong}
use Rattle.mk_ast.proofs.parser.parse_text.Goals as goal

pub returns-in_err-reader : goal.returns-in_err-reader
returns-in_err-reader c =
    let p = err_from_is_err_and c.from_residual-in_err-reader.result c.from_residual-in_err-reader.ensures.1 in
    rw (p.1, p.2)
    (read-wrong BLOCKS (state_of_reader c.loop-line.reader) c.in-Some.line c.next.new.self.rest.items c.in_err-reader.field-0.0 _
    (c.loop-line.invariant.2 ∙ ap (read_on BLOCKS (state_of_reader c.loop-line.reader)) c.in-Some.ensures.steps.0) c.in_err-reader.ensures)

pub loop-line-preserved : goal.loop-line-preserved
loop-line-preserved c = (
  tt,
  tt,
  c.loop-line.invariant.2 ∙ ap (read_on BLOCKS (state_of_reader c.loop-line.reader)) c.in-Some.ensures.steps.0
      ∙ read-next BLOCKS (state_of_reader c.loop-line.reader) (state_of_reader c.in_ok-reader.reader) c.in-Some.line
      c.next.new.self.rest.items c.in_ok-reader.ensures,
)

pub returns : goal.returns
returns c =
    let none = nil_from_length c.loop-line.line-iterator.rest.items (sym c.loop-line.line-iterator.rest.ok.0 ∙ c.in-None.ensures.steps.0) in
    let all = c.loop-line.invariant.2 ∙ ap (read_on BLOCKS (state_of_reader c.loop-line.reader)) none
    ∙ read-end BLOCKS (state_of_reader c.loop-line.reader) in
    subst (λ reading. HoldsOfAnswer c.finish.result (λ answer. answer ≡ with_kind (whole_reading reading))) (sym all) c.finish.ensures
