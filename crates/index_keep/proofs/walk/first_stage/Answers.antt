-- Other directories are those of the files.
use Rattle.std.proofs.Common.{◌∙◌, ap, sym}
use Rattle.port_index.specs.TreePaths as tree_paths
use Rattle.index_keep.proofs.walk.first_stage.Goals as goal

pub returns-clause-stage : goal.returns-clause-stage
returns-clause-stage g c = λ world rows same says may.
    c.in_ok-other_stage.ensures world rows says (c.in_ok-directories.ensures.ok ∙ ap tree_paths.directories (sym same))
