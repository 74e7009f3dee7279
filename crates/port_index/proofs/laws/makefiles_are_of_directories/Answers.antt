use Rattle.port_index.proofs.DirectoryLemmas.{of-directories}
use Rattle.port_index.proofs.laws.makefiles_are_of_directories.Goals as goal

pub returns : goal.returns
returns c = λ files. of-directories (files, c.args.settings.now) c.trees-trees.ensures.is_path
