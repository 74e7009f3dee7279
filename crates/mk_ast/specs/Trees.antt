-- The tree of a makefile: its lines and blocks, one inside another.
use Rattle.std.specs.Prelude.{◌≡◌, ◌≤◌, ℕ, suc, max, List, [], ◌∷◌, ◌++◌}
use Rattle.mk_text.specs.Lines.{LogicalLine}
use Rattle.mk_ast.specs.Parts.{Part, IfPart, ElifPart, ElsePart, EndifPart, ForPart, EndforPart, PlainPart}

mutual
  -- a line that frames no block; a choice, with the line of its `.if`, what follows that, and its later
  -- branches; a loop, with the line of its `.for` and its body
  pub data Tree : Type 0 where
    LineTree : LogicalLine → Tree
    ChoiceTree : LogicalLine → Block → Branches → Tree
    LoopTree : LogicalLine → Block → Tree

  -- trees that follow one another
  pub data Block : Type 0 where
    EmptyBlock : Block
    MoreBlock : Tree → Block → Block

  -- the branches of a choice after its first: none; one with the line of its `.elif`, and the later ones;
  -- or that of its `.else`
  pub data Branches : Type 0 where
    NoBranches : Branches
    ElifBranch : LogicalLine → Block → Branches → Branches
    ElseBranch : Block → Branches

-- the parts of a tree, of a block, of branches, read in order
abbrev mutual
  pub tree_parts : Tree → List Part
  tree_parts (LineTree line) = PlainPart line ∷ []
  tree_parts (ChoiceTree line block branches) = IfPart line ∷ block_parts block ++ branch_parts branches ++ EndifPart ∷ []
  tree_parts (LoopTree line block) = ForPart line ∷ block_parts block ++ EndforPart ∷ []

  pub block_parts : Block → List Part
  block_parts EmptyBlock = []
  block_parts (MoreBlock tree block) = tree_parts tree ++ block_parts block

  pub branch_parts : Branches → List Part
  branch_parts NoBranches = []
  branch_parts (ElifBranch line block branches) = ElifPart line ∷ block_parts block ++ branch_parts branches
  branch_parts (ElseBranch block) = ElsePart ∷ block_parts block

-- how many blocks are one inside another, at most
abbrev mutual
  pub tree_depth : Tree → ℕ
  tree_depth (LineTree line) = 0
  tree_depth (ChoiceTree line block branches) = suc (max (block_depth block) (branch_depth branches))
  tree_depth (LoopTree line block) = suc (block_depth block)

  pub block_depth : Block → ℕ
  block_depth EmptyBlock = 0
  block_depth (MoreBlock tree block) = max (tree_depth tree) (block_depth block)

  pub branch_depth : Branches → ℕ
  branch_depth NoBranches = 0
  branch_depth (ElifBranch line block branches) = max (block_depth block) (branch_depth branches)
  branch_depth (ElseBranch block) = block_depth block

-- these parts, in order, are those of a block in which at most this many blocks are one inside another
pub record IsReadAs (limit : ℕ) (parts : List Part) (block : Block) : Type 0 where
  pub in_order : block_parts block ≡ parts
  pub not_deep : block_depth block ≤ limit
