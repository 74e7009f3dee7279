-- The trees of nodes, one after another and one by one.
use Rattle.std.proofs.Common.{◌≡◌, List, [], ◌∷◌, ◌++◌, refl, sym, ap, ◌∙◌}
use Rattle.mk_text.specs.Lines.{LogicalLine}
use Rattle.mk_ast.specs.declared.nodes.Node.{Node, Node-F, fold-roll-Node}
use Rattle.mk_ast.specs.declared.nodes.Node.TheVariants.{Line, rolls-Line}
use Rattle.mk_ast.specs.Trees.{Tree, LineTree, Block, MoreBlock}
use Rattle.mk_ast.specs.Blocks.{add}
use Rattle.mk_ast.specs.Views.{branch_step, node_step, tree_of, block_of}

-- one node more
pub block-push : (nodes : List Node) (node : Node) → block_of (nodes ++ node ∷ []) ≡ add (block_of nodes) (tree_of node)
block-push [] node = refl
block-push (first ∷ nodes) node = ap (MoreBlock (tree_of first)) (block-push nodes node)

pub added : (nodes now : List Node) (node : Node) (tree : Tree) → now ≡ nodes ++ node ∷ [] → tree_of node ≡ tree
    → add (block_of nodes) tree ≡ block_of now
added nodes now node tree is same = sym (ap block_of is ∙ block-push nodes node ∙ ap (add (block_of nodes)) same)

pub tree-line : (line : LogicalLine) → tree_of (Line line) ≡ LineTree line
tree-line line = ap tree_of (sym (rolls-Line line)) ∙ fold-roll-Node Tree (LogicalLine × Block) node_step branch_step (Node-F.Line line)
