-- The map of texts answers as its map of bytes.
use Rattle.std.proofs.Common.{◌∙◌, ap}
use Rattle.std.specs.FinMap as finite
use Rattle.mk_files.specs.MemoryFiles.{Holding}
use Rattle.mk_files.proofs.HeldFiles.{get-view}
use Rattle.mk_files.proofs.memory_files.MemoryFiles.get.Goals as goal

pub returns : goal.returns
returns c =
    c.get.ensures.value ∙ get-view c.self.inside.files c.args.self.now.files c.as_str.result.now
    (ap (λ (held : Holding). held.files) c.self.view_is)
    ∙ ap (finite.get c.args.self.now.files) c.as_str.ensures.text
