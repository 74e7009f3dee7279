use Rattle.std.proofs.Common.{Some, map, reverse, ap}
use Rattle.mk_ast.specs.Trees.{LineTree}
use Rattle.mk_ast.specs.ReaderViews.{open_of}
use Rattle.mk_ast.specs.Blocks.{ReadingState}
use Rattle.mk_ast.proofs.NodeTrees.{added, tree-line}
use Rattle.mk_ast.proofs.reader.Reader.add.Goals as goal

pub returns : goal.returns
returns c =
    let stack = reverse (map open_of c.args.self.stack.items) in
    ap (λ block. let held : ReadingState = record { current = block; stack = stack } in Some held)
    (added c.args.self.current.items c.push.new.self.items _ (LineTree c.args.line) c.in_ok-push.ensures.items (tree-line c.args.line))
