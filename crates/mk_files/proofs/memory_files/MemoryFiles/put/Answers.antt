-- One name has another content.
use Rattle.std.proofs.Common.{◌∙◌, ap}
use Rattle.std.specs.FinMap as finite
use Rattle.mk_files.specs.MemoryFiles.{Holding, files_of, with_file}
use Rattle.mk_files.proofs.HeldFiles.{files_of-insert}
use Rattle.mk_files.proofs.memory_files.MemoryFiles.put.Goals as goal

pub returns-clause-ok : goal.returns-clause-ok
returns-clause-ok c =
    let step =
    files_of-insert c.self.inside.files c.insert.new.self c.into_text.result c.args.content c.in_ok-insert.ensures.updates
    ∙ ap (λ name. finite.insert (files_of c.self.inside.files.entries) name c.args.content) c.into_text.ensures.text in
    let held : Holding = record { files = files_of c.self.inside.files.entries; failures = c.self.inside.failures } in
    ap (λ files. record held { files = files }) step ∙ ap (λ (held : Holding). with_file held c.args.name c.args.content) c.self.view_is
