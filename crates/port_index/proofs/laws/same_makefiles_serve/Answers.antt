use Rattle.port_index.proofs.MakefileLemmas.{same-makefiles}
use Rattle.port_index.proofs.laws.same_makefiles_serve.Goals as goal

pub returns : goal.returns
returns c = same-makefiles
