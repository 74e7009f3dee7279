use Rattle.std.proofs.Common.{refl, sym, ap}
use Rattle.mk_ast.specs.Blocks.{ReadingState}
use Rattle.mk_ast.specs.Views.{tree_of}
use Rattle.mk_ast.proofs.NodeTrees.{added}
use Rattle.mk_ast.proofs.reader.ending.Goals as goal

pub returns : goal.returns
returns c = λ stack.
    ap (λ block. let held : ReadingState = record { current = block; stack = stack } in held)
    (sym (added c.args.before.items c.push.new.self.items c.args.node (tree_of c.args.node) c.in_ok-push.ensures.items refl))
