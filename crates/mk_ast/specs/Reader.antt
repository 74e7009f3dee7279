-- The tree that the lines of a makefile are read as, or where its blocks go wrong. It is this project's
-- choice that no more than 64 blocks may be one inside another, and at which line a fault is reported.
use Rattle.std.specs.Prelude.{◌≡◌, ◌⊎◌, ℕ, List, [], ◌∷◌, ◌++◌, map, Result, Ok, Err}
use Rattle.mk_text.specs.Lines.{LogicalLine}
use Rattle.mk_ast.specs.Parts.{Part, part_of}
use Rattle.mk_ast.specs.Trees.{Tree, Block, tree_parts, IsReadAs}

-- the parts that lines are
abbrev pub parts_of : List LogicalLine → List Part
parts_of lines = map part_of lines

-- these parts begin some makefile: with more parts after them they can be read as a block
abbrev pub CanGoOn : ℕ → List Part → Type 0
CanGoOn limit parts = (more : List Part) × (block : Block) × IsReadAs limit (parts ++ more) block

-- the line of this number is the first that is out of place: what comes before it begins some makefile, and
-- with this line added it no longer does
pub record IsOutOfPlace (limit : ℕ) (lines : List LogicalLine) (number : ℕ) : Type 0 where
  pub front : List LogicalLine
  pub line : LogicalLine
  pub rest : List LogicalLine
  pub cut : lines ≡ front ++ line ∷ rest
  pub number_is : number ≡ line.line
  pub goes_on : CanGoOn limit (parts_of front)
  pub wrong : ¬ (CanGoOn limit (parts_of front ++ part_of line ∷ []))

-- The line of this number begins the innermost block that doesn't end. No line is out of place, and from
-- this one on the lines are one tree once one more part is put after them.
pub record IsUnclosed (limit : ℕ) (lines : List LogicalLine) (number : ℕ) : Type 0 where
  pub front : List LogicalLine
  pub line : LogicalLine
  pub rest : List LogicalLine
  pub cut : lines ≡ front ++ line ∷ rest
  pub number_is : number ≡ line.line
  pub goes_on : CanGoOn limit (parts_of lines)
  pub last : Part
  pub tree : Tree
  pub closed : tree_parts tree ≡ parts_of (line ∷ rest) ++ last ∷ []

-- What lines are read as: the block whose parts, in order, they are; or the number of the line at which the
-- blocks are at fault.
abbrev pub Reads : ℕ → List LogicalLine → Result Block ℕ → Type 0
Reads limit lines (Ok block) = IsReadAs limit (parts_of lines) block
Reads limit lines (Err number) = IsOutOfPlace limit lines number ⊎ IsUnclosed limit lines number
