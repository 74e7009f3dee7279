use Rattle.mk_ast.proofs.ParseLaws.{parse-once}
use Rattle.mk_ast.proofs.laws.nothing_else_is_parsed.Goals as goal

pub returns : goal.returns
returns c = parse-once
