-- Parts as the code has them.
use Rattle.mk_text.specs.Lines.{LogicalLine}
use Rattle.mk_ast.specs.declared.parts.InnerPart.{InnerPart}
use Rattle.mk_ast.specs.declared.parts.InnerPart.TheVariants as i
use Rattle.mk_ast.specs.declared.parts.FramePart.{FramePart}
use Rattle.mk_ast.specs.declared.parts.FramePart.TheVariants as v
use Rattle.mk_ast.specs.Parts.{Part, IfPart, ElifPart, ElsePart, EndifPart, ForPart, EndforPart, PlainPart}

-- a part that is inside a block, with its line
abbrev pub inner_part : InnerPart → LogicalLine → Part
inner_part i.Elif line = ElifPart line
inner_part i.Else line = ElsePart
inner_part i.Endif line = EndifPart
inner_part i.Endfor line = EndforPart

-- a part with its line
abbrev pub shown_part : FramePart → LogicalLine → Part
shown_part v.If line = IfPart line
shown_part v.For line = ForPart line
shown_part (v.Inner part) line = inner_part part line
shown_part v.Plain line = PlainPart line
