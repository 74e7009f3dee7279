-- One name is gone.
use Rattle.std.proofs.Common.{◌∙◌, ap, is_some}
use Rattle.std.specs.FinMap as finite
use Rattle.mk_files.specs.MemoryFiles.{Holding, files_of, without_file}
use Rattle.mk_files.proofs.HeldFiles.{files_of-remove, get-view}
use Rattle.mk_files.proofs.memory_files.MemoryFiles.remove.Goals as goal

pub returns-clause-was_there : goal.returns-clause-was_there
returns-clause-was_there c =
    c.is_some.ensures
    ∙ ap is_some (c.remove.ensures.value ∙ get-view c.self.inside.files c.args.self.now.files c.as_str.result.now
    (ap (λ (held : Holding). held.files) c.self.view_is)
    ∙ ap (finite.get c.args.self.now.files) c.as_str.ensures.text)

pub returns-clause-removed : goal.returns-clause-removed
returns-clause-removed c =
    let step =
    files_of-remove c.self.inside.files c.remove.new.self c.as_str.result.now c.remove.ensures.updates
    ∙ ap (λ name. finite.remove (files_of c.self.inside.files.entries) name) c.as_str.ensures.text in
    let held : Holding = record { files = files_of c.self.inside.files.entries; failures = c.self.inside.failures } in
    ap (λ files. record held { files = files }) step ∙ ap (λ (held : Holding). without_file held c.args.name.now) c.self.view_is
