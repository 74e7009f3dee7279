use Rattle.mk_ast.proofs.ReadOnce.{parts-one}
use Rattle.mk_ast.proofs.laws.parts_have_one_block.Goals as goal

pub returns : goal.returns
returns c = parts-one
