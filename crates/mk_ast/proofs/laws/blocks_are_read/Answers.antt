use Rattle.mk_ast.proofs.ReadLaws.{blocks-read}
use Rattle.mk_ast.proofs.laws.blocks_are_read.Goals as goal

pub returns : goal.returns
returns c = blocks-read
