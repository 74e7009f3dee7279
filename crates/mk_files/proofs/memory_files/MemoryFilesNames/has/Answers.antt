-- The map of texts answers as its map of bytes; there is no log.
use Rattle.std.proofs.Common.{◌∙◌, ap, is_some, refl}
use Rattle.std.specs.FinMap as finite
use Rattle.mk_files.specs.MemoryFiles.{Holding}
use Rattle.mk_files.proofs.HeldFiles.{get-view}
use Rattle.mk_files.proofs.memory_files.MemoryFilesNames.has.Goals as goal

pub returns-clause-answer : goal.returns-clause-answer
returns-clause-answer c = (
  c.contains_key.ensures
      ∙ ap is_some (get-view c.self.inside.files c.args.self.now.files c.as_str.result.now
      (ap (λ (held : Holding). held.files) c.self.view_is)
      ∙ ap (finite.get c.args.self.now.files) c.as_str.ensures.text),
  refl,
)
