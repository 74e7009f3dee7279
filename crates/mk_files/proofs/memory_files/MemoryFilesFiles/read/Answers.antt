-- What was got is the answer; there is no log.
use Rattle.std.proofs.Common.{◌∙◌, ap, sym, refl, Some}
use Rattle.std.specs.Option.{option_copied}
use Rattle.mk_files.proofs.memory_files.MemoryFilesFiles.read.Goals as goal

pub returns-in_default-clause-answer : goal.returns-in_default-clause-answer
returns-in_default-clause-answer c = (sym (ap option_copied c.in_default.is) ∙ c.get.ensures, refl)

pub returns-in-Ok-clause-answer : goal.returns-in-Ok-clause-answer
returns-in-Ok-clause-answer c = (ap Some c.in-Ok.ensures ∙ sym (ap option_copied c.in-Some.is) ∙ c.get.ensures, refl)
