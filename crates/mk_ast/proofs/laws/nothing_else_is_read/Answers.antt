use Rattle.mk_ast.proofs.ReadOnce.{read-once}
use Rattle.mk_ast.proofs.laws.nothing_else_is_read.Goals as goal

pub returns : goal.returns
returns c = read-once
