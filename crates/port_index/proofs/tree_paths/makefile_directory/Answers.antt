-- A name that doesn't end so has no end to be stripped.
use Rattle.std.proofs.Common.{◌∙◌, ap, codes, option_copied, option_map, option_and_then}
use Rattle.port_index.specs.TreePaths.{after_slash, directory_below}
use Rattle.port_index.proofs.Names.{without_suffix-none}
use Rattle.port_index.proofs.tree_paths.makefile_directory.Goals as goal

pub returns-in_err-strip_suffix : goal.returns-in_err-strip_suffix
returns-in_err-strip_suffix c =
    ap option_copied c.from_residual.ensures
    ∙ ap (λ place. option_map directory_below (option_and_then after_slash place)) (without_suffix-none (codes "/Makefile") c.args.name.now
    c.in_err-strip_suffix.ensures.cases)
