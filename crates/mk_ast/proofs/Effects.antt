-- What each part makes of an open block, case by case.
use Rattle.std.proofs.Common.{List, [], ◌∷◌, ◌++◌}
use Rattle.mk_text.specs.Lines.{LogicalLine}
use Rattle.mk_ast.specs.Parts.{Part, IfPart, ElifPart, ElsePart, EndifPart, ForPart, EndforPart, PlainPart}
use Rattle.mk_ast.specs.Trees.{ChoiceTree, LoopTree, Block, NoBranches, ElseBranch}
use Rattle.mk_ast.specs.Blocks.{branches_from, Stage, InIf, InElif, InElse, InFor, PartEffect, GoesOn, Ends, Wrong, part_effect}

-- a property of each effect that a part can have on an open block, and of none
pub record HoldsOfEffects (P : LogicalLine → Stage → Block → Part → PartEffect → Type 0) : Type 0 where
  pub if_elif : (head : LogicalLine) (block : Block) (line : LogicalLine)
      → P head InIf block (ElifPart line) (GoesOn (InElif block [] line))
  pub if_else : (head : LogicalLine) (block : Block) → P head InIf block ElsePart (GoesOn (InElse block []))
  pub if_endif : (head : LogicalLine) (block : Block) → P head InIf block EndifPart (Ends (ChoiceTree head block NoBranches))
  pub elif_elif : (head : LogicalLine) (first : Block) (later : List (LogicalLine × Block)) (last : LogicalLine)
      (block : Block) (line : LogicalLine)
      → P head (InElif first later last) block (ElifPart line) (GoesOn (InElif first (later ++ (last, block) ∷ []) line))
  pub elif_else : (head : LogicalLine) (first : Block) (later : List (LogicalLine × Block)) (last : LogicalLine) (block : Block)
      → P head (InElif first later last) block ElsePart (GoesOn (InElse first (later ++ (last, block) ∷ [])))
  pub elif_endif : (head : LogicalLine) (first : Block) (later : List (LogicalLine × Block)) (last : LogicalLine) (block : Block)
      → P head (InElif first later last) block EndifPart
      (Ends (ChoiceTree head first (branches_from (later ++ (last, block) ∷ []) NoBranches)))
  pub else_endif : (head : LogicalLine) (first : Block) (later : List (LogicalLine × Block)) (block : Block)
      → P head (InElse first later) block EndifPart (Ends (ChoiceTree head first (branches_from later (ElseBranch block))))
  pub for_endfor : (head : LogicalLine) (block : Block) → P head InFor block EndforPart (Ends (LoopTree head block))
  pub wrong : (head : LogicalLine) (stage : Stage) (block : Block) (part : Part) → P head stage block part Wrong

pub of-effect : (P : LogicalLine → Stage → Block → Part → PartEffect → Type 0) → HoldsOfEffects P
    → (head : LogicalLine) (stage : Stage) (block : Block) (part : Part) → P head stage block part (part_effect head stage block part)
of-effect P is head InIf block (IfPart line) = is.wrong head InIf block (IfPart line)
of-effect P is head InIf block (ElifPart line) = is.if_elif head block line
of-effect P is head InIf block ElsePart = is.if_else head block
of-effect P is head InIf block EndifPart = is.if_endif head block
of-effect P is head InIf block (ForPart line) = is.wrong head InIf block (ForPart line)
of-effect P is head InIf block EndforPart = is.wrong head InIf block EndforPart
of-effect P is head InIf block (PlainPart line) = is.wrong head InIf block (PlainPart line)
of-effect P is head (InElif first later last) block (IfPart line) = is.wrong head (InElif first later last) block (IfPart line)
of-effect P is head (InElif first later last) block (ElifPart line) = is.elif_elif head first later last block line
of-effect P is head (InElif first later last) block ElsePart = is.elif_else head first later last block
of-effect P is head (InElif first later last) block EndifPart = is.elif_endif head first later last block
of-effect P is head (InElif first later last) block (ForPart line) = is.wrong head (InElif first later last) block (ForPart line)
of-effect P is head (InElif first later last) block EndforPart = is.wrong head (InElif first later last) block EndforPart
of-effect P is head (InElif first later last) block (PlainPart line) = is.wrong head (InElif first later last) block (PlainPart line)
of-effect P is head (InElse first later) block (IfPart line) = is.wrong head (InElse first later) block (IfPart line)
of-effect P is head (InElse first later) block (ElifPart line) = is.wrong head (InElse first later) block (ElifPart line)
of-effect P is head (InElse first later) block ElsePart = is.wrong head (InElse first later) block ElsePart
of-effect P is head (InElse first later) block EndifPart = is.else_endif head first later block
of-effect P is head (InElse first later) block (ForPart line) = is.wrong head (InElse first later) block (ForPart line)
of-effect P is head (InElse first later) block EndforPart = is.wrong head (InElse first later) block EndforPart
of-effect P is head (InElse first later) block (PlainPart line) = is.wrong head (InElse first later) block (PlainPart line)
of-effect P is head InFor block (IfPart line) = is.wrong head InFor block (IfPart line)
of-effect P is head InFor block (ElifPart line) = is.wrong head InFor block (ElifPart line)
of-effect P is head InFor block ElsePart = is.wrong head InFor block ElsePart
of-effect P is head InFor block EndifPart = is.wrong head InFor block EndifPart
of-effect P is head InFor block (ForPart line) = is.wrong head InFor block (ForPart line)
of-effect P is head InFor block EndforPart = is.for_endfor head block
of-effect P is head InFor block (PlainPart line) = is.wrong head InFor block (PlainPart line)
