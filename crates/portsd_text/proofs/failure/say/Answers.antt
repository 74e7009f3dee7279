use Rattle.refusals.specs.Refused.{refused}
use Rattle.portsd_text.specs.declared.failure.Failure.TheVariants as failures
use Rattle.portsd_text.specs.Failures.{failure_text}
use Rattle.portsd_text.proofs.WriteFacts.{front_along}
use Rattle.portsd_text.proofs.failure.say.Goals as goal

pub returns-in-BadEvent-clause-front : goal.returns-in-BadEvent-clause-front
returns-in-BadEvent-clause-front g c = rw c.in-BadEvent.is c.say_line.ensures.front

pub returns-in-NotAllowed-clause-written : goal.returns-in-NotAllowed-clause-written
returns-in-NotAllowed-clause-written g c = rw c.in-NotAllowed.is c.say_line-in-NotAllowed.ensures.written

pub returns-in-NotAllowed-clause-front : goal.returns-in-NotAllowed-clause-front
returns-in-NotAllowed-clause-front g c = rw c.in-NotAllowed.is c.say_line-in-NotAllowed.ensures.front

pub returns-in-CannotWrite-clause-written : goal.returns-in-CannotWrite-clause-written
returns-in-CannotWrite-clause-written g c = rw (c.in-CannotWrite.is, ← c.as_bytes-in-CannotWrite.ensures.value)
    c.write_whole-in-CannotWrite.ensures.written

pub returns-in-CannotWrite-clause-front : goal.returns-in-CannotWrite-clause-front
returns-in-CannotWrite-clause-front g c = rw c.in-CannotWrite.is
    (front_along (g.E.Write.contents c.args.err.now) (g.E.Write.contents c.write_whole-in-CannotWrite.new.out)
    c.as_bytes-in-CannotWrite.result.now (failure_text failures.CannotWrite) c.write_whole-in-CannotWrite.result
    c.as_bytes-in-CannotWrite.ensures.value c.write_whole-in-CannotWrite.ensures.front)

pub returns-in-Memory-clause-written : goal.returns-in-Memory-clause-written
returns-in-Memory-clause-written g c = rw (c.in-Memory.is, ← c.as_bytes-in-Memory.ensures.value) c.write_whole-in-Memory.ensures.written

pub returns-in-Memory-clause-front : goal.returns-in-Memory-clause-front
returns-in-Memory-clause-front g c =
    rw c.in-Memory.is (front_along (g.E.Write.contents c.args.err.now) (g.E.Write.contents c.write_whole-in-Memory.new.out)
    c.as_bytes-in-Memory.result.now (failure_text (failures.Memory refused)) c.write_whole-in-Memory.result
    c.as_bytes-in-Memory.ensures.value c.write_whole-in-Memory.ensures.front)
