-- The parts that the lines of a makefile are: those that frame its blocks, and all others (make(1),
-- "INCLUDE STATEMENTS, CONDITIONALS AND FOR LOOPS").
use Rattle.mk_text.specs.Lines.{LogicalLine}
use Rattle.mk_ast.specs.declared.kinds.Directive.{Directive}
use Rattle.mk_ast.specs.declared.kinds.Directive.TheVariants as words
use Rattle.mk_ast.specs.Kinds.{TextLineKind, DirectiveLine, line_kind}

-- a line as a part, with the line if a tree keeps it; what follows `.else`, `.endif` and `.endfor` is
-- ignored
pub data Part : Type 0 where
  IfPart : LogicalLine → Part
  ElifPart : LogicalLine → Part
  ElsePart : Part
  EndifPart : Part
  ForPart : LogicalLine → Part
  EndforPart : Part
  PlainPart : LogicalLine → Part

-- the part that a directive makes of its line
abbrev pub part_with : LogicalLine → Directive → Part
part_with line words.If = IfPart line
part_with line words.Ifdef = IfPart line
part_with line words.Ifndef = IfPart line
part_with line words.Ifmake = IfPart line
part_with line words.Ifnmake = IfPart line
part_with line words.Elif = ElifPart line
part_with line words.Elifdef = ElifPart line
part_with line words.Elifndef = ElifPart line
part_with line words.Elifmake = ElifPart line
part_with line words.Elifnmake = ElifPart line
part_with line words.Else = ElsePart
part_with line words.Endif = EndifPart
part_with line words.For = ForPart line
part_with line words.Endfor = EndforPart
part_with line words.Include = PlainPart line
part_with line words.Sinclude = PlainPart line
part_with line words.Undef = PlainPart line

-- the part that a line of a kind is: only directives frame blocks
abbrev pub part_by : LogicalLine → TextLineKind → Part
part_by line (DirectiveLine word rest) = part_with line word
part_by line kind = PlainPart line

-- the part that a line is
unfoldable pub part_of : LogicalLine → Part
part_of line = part_by line (line_kind line.text)
