-- The line that a part keeps.
use Rattle.std.proofs.Common.{◌≡◌, List, [], ◌∷◌, refl}
use Rattle.mk_text.specs.Lines.{LogicalLine}
use Rattle.mk_ast.specs.declared.kinds.Directive.{Directive}
use Rattle.mk_ast.specs.declared.kinds.Directive.TheVariants as words
use Rattle.mk_ast.specs.Kinds.{TextLineKind, CommandLine, BlankLine, DirectiveLine, AssignmentLine, DependencyLine, BadLine, line_kind}
use Rattle.mk_ast.specs.Parts.{Part, IfPart, ElifPart, ElsePart, EndifPart, ForPart, EndforPart, PlainPart, part_with, part_by, part_of}
use Rattle.mk_ast.specs.Trees.{Tree, LineTree, ChoiceTree, LoopTree, tree_parts}

-- the line that a part keeps, or another
abbrev pub kept : LogicalLine → Part → LogicalLine
kept other (IfPart line) = line
kept other (ElifPart line) = line
kept other ElsePart = other
kept other EndifPart = other
kept other (ForPart line) = line
kept other EndforPart = other
kept other (PlainPart line) = line

kept-with : (line : LogicalLine) (word : Directive) → kept line (part_with line word) ≡ line
kept-with line words.If = refl
kept-with line words.Ifdef = refl
kept-with line words.Ifndef = refl
kept-with line words.Ifmake = refl
kept-with line words.Ifnmake = refl
kept-with line words.Elif = refl
kept-with line words.Elifdef = refl
kept-with line words.Elifndef = refl
kept-with line words.Elifmake = refl
kept-with line words.Elifnmake = refl
kept-with line words.Else = refl
kept-with line words.Endif = refl
kept-with line words.For = refl
kept-with line words.Endfor = refl
kept-with line words.Include = refl
kept-with line words.Sinclude = refl
kept-with line words.Undef = refl

kept-by : (line : LogicalLine) (kind : TextLineKind) → kept line (part_by line kind) ≡ line
kept-by line CommandLine = refl
kept-by line BlankLine = refl
kept-by line (DirectiveLine word rest) = kept-with line word
kept-by line (AssignmentLine operator name value) = refl
kept-by line DependencyLine = refl
kept-by line BadLine = refl

-- a line's part keeps the line, if it keeps any
pub kept-of : (line : LogicalLine) → kept line (part_of line) ≡ line
unfolding part_of
kept-of line = kept-by line (line_kind line.text)

-- the first line of a tree
abbrev pub tree_head : Tree → LogicalLine
tree_head (LineTree line) = line
tree_head (ChoiceTree line block later) = line
tree_head (LoopTree line block) = line

-- the first part, or another
abbrev pub first_part : Part → List Part → Part
first_part other [] = other
first_part other (part ∷ parts) = part

-- the first part of a tree keeps its first line
pub kept-tree : (other : LogicalLine) (none : Part) (tree : Tree) → kept other (first_part none (tree_parts tree)) ≡ tree_head tree
kept-tree other none (LineTree line) = refl
kept-tree other none (ChoiceTree line block later) = refl
kept-tree other none (LoopTree line block) = refl
