-- All names were taken, and the keys of a map are in order.
use Rattle.std.proofs.Common.{◌++◌, sym, ◌∙◌, ap, map, string_bytes, append-nil}
use Rattle.mk_files.proofs.ListedFiles.{keys-files_of}
use Rattle.mk_files.proofs.memory_files.names_of.Goals as goal

pub returns : goal.returns
returns c =
    let names = map string_bytes c.loop-name.names.items in
    sym (append-nil names) ∙ ap (λ left. names ++ map string_bytes left) (sym c.in-None.ensures.steps.0) ∙ c.loop-name.invariant.2
    ∙ keys-files_of c.args.files.now.entries c.keys-name-items.ensures.ordered
