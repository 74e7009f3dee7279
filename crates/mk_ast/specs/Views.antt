-- The tree that the code's nodes are.
use Rattle.std.specs.Prelude.{List, [], ◌∷◌, option_map, map}
use Rattle.mk_text.specs.Lines.{LogicalLine}
use Rattle.mk_ast.specs.declared.nodes.Node.{Node, Node-F, fold-Node}
use Rattle.mk_ast.specs.declared.nodes.Branch.{Branch, Branch-F, fold-Branch}
use Rattle.mk_ast.specs.declared.nodes.Makefile.{Makefile}
use Rattle.mk_ast.specs.Trees.{Tree, LineTree, ChoiceTree, LoopTree, Block, EmptyBlock, MoreBlock}
use Rattle.mk_ast.specs.Blocks.{branches_from}
pub use Rattle.mk_ast.specs.Blocks.{last_branch}

-- trees that follow one another
abbrev pub block_from : List Tree → Block
block_from [] = EmptyBlock
block_from (tree ∷ trees) = MoreBlock tree (block_from trees)

-- one level, with each node inside already seen as its tree and each branch as its line and block
abbrev pub branch_step : Branch-F Tree (LogicalLine × Block) → LogicalLine × Block
branch_step branch = (branch.head, block_from branch.body.value.items)

abbrev pub node_step : Node-F Tree (LogicalLine × Block) → Tree
node_step (Node-F.Line line) = LineTree line
node_step (Node-F.Choice head body branches otherwise) =
    ChoiceTree head (block_from body.value.items)
    (branches_from branches.value.items (last_branch (option_map (λ block. block_from block.value.items) otherwise)))
node_step (Node-F.Loop head body) = LoopTree head (block_from body.value.items)

-- the tree of a node
abbrev pub tree_of : Node → Tree
tree_of = fold-Node Tree (LogicalLine × Block) node_step branch_step

-- a branch as its line and its block
abbrev pub branch_of : Branch → LogicalLine × Block
branch_of = fold-Branch Tree (LogicalLine × Block) node_step branch_step

-- the block of nodes
abbrev pub block_of : List Node → Block
block_of nodes = block_from (map tree_of nodes)

-- the tree of a makefile
abbrev pub makefile_tree : Makefile → Block
makefile_tree makefile = block_of makefile.nodes.value.items
