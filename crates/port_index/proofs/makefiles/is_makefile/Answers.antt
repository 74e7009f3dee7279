use Rattle.std.proofs.Common.{codes}
use Rattle.std.proofs.lemmas.Str.Pattern.{ends_text}
use Rattle.port_index.proofs.makefiles.is_makefile.Goals as goal

pub returns : goal.returns
returns c = ends_text c.ends_with.result (codes "/Makefile") c.args.name.now c.ends_with.ensures.cases
