use Rattle.std.proofs.Common.{◌++◌, ◌∙◌, codes, decimal}
use Rattle.portsd_text.proofs.WriteFacts.{first_fails, second_fails, third_fails, three_written}
use Rattle.portsd_text.proofs.failure.say_line.Goals as goal

pub returns-in_err-write_whole-clause-front : goal.returns-in_err-write_whole-clause-front
returns-in_err-write_whole-clause-front g c =
    first_fails (g.E.Write.contents c.args.err.now) (g.E.Write.contents c.write_whole.new.out) c.as_bytes.result.now (codes "portsd: line ")
    (decimal c.args.line ++ c.args.what.now) c.from_residual.result c.as_bytes.ensures.value c.in_err-write_whole.ensures.front

pub returns-in_err-write_whole-2-clause-front : goal.returns-in_err-write_whole-2-clause-front
returns-in_err-write_whole-2-clause-front g c =
    second_fails (g.E.Write.contents c.args.err.now) (g.E.Write.contents c.write_whole.new.out) (g.E.Write.contents c.write_whole-2.new.out)
    c.as_bytes.result.now c.as_bytes-2.result.now (codes "portsd: line ") (decimal c.args.line) c.args.what.now
    c.from_residual-in_err-write_whole-2.result c.as_bytes.ensures.value (c.as_bytes-2.ensures.value ∙ c.format.ensures.text)
    c.in_ok-write_whole.ensures.written c.in_err-write_whole-2.ensures.front

pub returns-clause-written : goal.returns-clause-written
returns-clause-written g c =
    three_written (g.E.Write.contents c.args.err.now) (g.E.Write.contents c.write_whole.new.out)
    (g.E.Write.contents c.write_whole-2.new.out) (g.E.Write.contents c.write_whole-3.new.out) c.as_bytes.result.now
    c.as_bytes-2.result.now c.as_bytes-3.result.now (codes "portsd: line ") (decimal c.args.line) c.args.what.now c.write_whole-3.result
    c.as_bytes.ensures.value (c.as_bytes-2.ensures.value ∙ c.format.ensures.text) c.as_bytes-3.ensures.value
    c.in_ok-write_whole.ensures.written c.in_ok-write_whole-2.ensures.written c.write_whole-3.ensures.written

pub returns-clause-front : goal.returns-clause-front
returns-clause-front g c =
    third_fails (g.E.Write.contents c.args.err.now) (g.E.Write.contents c.write_whole.new.out) (g.E.Write.contents c.write_whole-2.new.out)
    (g.E.Write.contents c.write_whole-3.new.out) c.as_bytes.result.now c.as_bytes-2.result.now c.as_bytes-3.result.now
    (codes "portsd: line ") (decimal c.args.line) c.args.what.now c.write_whole-3.result c.as_bytes.ensures.value
    (c.as_bytes-2.ensures.value ∙ c.format.ensures.text) c.as_bytes-3.ensures.value c.in_ok-write_whole.ensures.written
    c.in_ok-write_whole-2.ensures.written c.write_whole-3.ensures.front
