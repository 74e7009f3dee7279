-- What is held after some parts is made of just these parts, and isn't too deep.
use Rattle.std.proofs.Common.{◌≡◌, ℕ, true, false, nat_lt, cond, List, [], ◌∷◌, ◌++◌, length, Option, Some, None, refl, ap, ◌∙◌}
use Rattle.std.proofs.Common.{append_assoc, append-nil}
use Rattle.mk_text.specs.Lines.{LogicalLine}
use Rattle.mk_ast.specs.Parts.{Part, IfPart, ElifPart, ElsePart, EndifPart, ForPart, EndforPart, PlainPart}
use Rattle.mk_ast.specs.Trees.{Block, EmptyBlock, NoBranches, ElseBranch, tree_parts, block_parts}
use Rattle.mk_ast.specs.Blocks.{Stage, InIf, InElif, InElse, InFor, Open, ReadingState, PartEffect, GoesOn, Ends, Wrong, part_effect}
use Rattle.mk_ast.specs.Blocks.{apply_effect, go_on, begin, step}
use Rattle.mk_ast.proofs.BlockParts.{parts-add, listed_parts, parts-listed, parts-from}
use Rattle.mk_ast.proofs.Effects.{of-effect}

-- the parts of an open block, from its first line to the last part of its frame
abbrev pub stage_parts : LogicalLine → Stage → List Part
stage_parts head InIf = IfPart head ∷ []
stage_parts head (InElif first later last) = IfPart head ∷ block_parts first ++ listed_parts later ++ ElifPart last ∷ []
stage_parts head (InElse first later) = IfPart head ∷ block_parts first ++ listed_parts later ++ ElsePart ∷ []
stage_parts head InFor = ForPart head ∷ []

abbrev pub stack_parts : List Open → List Part
stack_parts [] = []
stack_parts (open' ∷ stack) = stack_parts stack ++ block_parts open'.before ++ stage_parts open'.head open'.stage

abbrev pub state_parts : ReadingState → List Part
state_parts held = stack_parts held.stack ++ block_parts held.current

-- the parts of an open block and one part more
abbrev pub EffectParts : LogicalLine → Stage → Block → Part → PartEffect → Type 0
EffectParts head stage block part (GoesOn next) = stage_parts head next ≡ stage_parts head stage ++ block_parts block ++ part ∷ []
EffectParts head stage block part (Ends tree) = tree_parts tree ≡ stage_parts head stage ++ block_parts block ++ part ∷ []
EffectParts head stage block part Wrong = Unit {0}

-- a branch that ends
more-listed : (front later block end listed : List Part) (last : Part) → listed ≡ later ++ last ∷ block
    → (front ++ listed) ++ end ≡ (((front ++ later) ++ last ∷ []) ++ block) ++ end
more-listed front later block end listed last is = ap (λ l. (front ++ l) ++ end) is ∙ simp append_assoc

pub parts-part_effect : (head : LogicalLine) (stage : Stage) (block : Block) (part : Part)
    → EffectParts head stage block part (part_effect head stage block part)
parts-part_effect = of-effect EffectParts (record {
  if_elif = λ head block line. simp append_assoc;
  if_else = λ head block. simp append_assoc;
  if_endif = λ head block. simp append_assoc;
  elif_elif = λ head first later last block line. more-listed (IfPart head ∷ block_parts first) (listed_parts later) (block_parts block)
      (ElifPart line ∷ []) _ (ElifPart last) (parts-listed later last block);
  elif_else = λ head first later last block. more-listed (IfPart head ∷ block_parts first) (listed_parts later) (block_parts block)
      (ElsePart ∷ []) _ (ElifPart last) (parts-listed later last block);
  elif_endif = λ head first later last block.
      more-listed (IfPart head ∷ block_parts first) (listed_parts later) (block_parts block) (EndifPart ∷ []) _ (ElifPart last)
      (parts-from (later ++ (last, block) ∷ []) NoBranches ∙ append-nil (listed_parts (later ++ (last, block) ∷ []))
      ∙ parts-listed later last block);
  else_endif = λ head first later block.
      more-listed (IfPart head ∷ block_parts first) (listed_parts later) (block_parts block) (EndifPart ∷ []) _ ElsePart
      (parts-from later (ElseBranch block));
  for_endfor = λ head block. refl;
  wrong = λ head stage block part. tt;
})

-- what is held with one part more
abbrev pub StepParts : List Part → Part → Option ReadingState → Type 0
StepParts parts part None = Unit {0}
StepParts parts part (Some held) = state_parts held ≡ parts ++ part ∷ []

parts-apply_effect : (innermost : Open) (stack : List Open) (block : Block) (part : Part) (result : PartEffect)
    → EffectParts innermost.head innermost.stage block part result
    → StepParts (stack_parts (innermost ∷ stack) ++ block_parts block) part (apply_effect innermost stack result)
parts-apply_effect innermost stack block part (GoesOn next) is = simp (append-nil, is, append_assoc)
parts-apply_effect innermost stack block part (Ends tree) is = simp (parts-add, is, append_assoc)
parts-apply_effect innermost stack block part Wrong is = tt

parts-go_on : (stack : List Open) (block : Block) (part : Part) → StepParts (stack_parts stack ++ block_parts block) part
    (go_on stack block part)
parts-go_on [] block part = tt
parts-go_on (innermost ∷ stack) block part =
    parts-apply_effect innermost stack block part (part_effect innermost.head innermost.stage block part)
    (parts-part_effect innermost.head innermost.stage block part)

parts-begin : (limit : ℕ) (held : ReadingState) (line : LogicalLine) (stage : Stage) (part : Part) → stage_parts line stage ≡ part ∷ []
    → StepParts (state_parts held) part (begin limit held line stage)
parts-begin limit held line stage part is =
    elim (nat_lt (length held.stack) limit) as (λ b. StepParts (state_parts held) part
    (cond b (Some (record { current = EmptyBlock; stack = record { before = held.current; head = line; stage = stage } ∷ held.stack }))
    None)) [
      | true ↦
          simp (append-nil, is, append_assoc)
      | false ↦ tt
    ]

pub parts-step : (limit : ℕ) (held : ReadingState) (part : Part) → StepParts (state_parts held) part (step limit held part)
unfolding step
parts-step limit held (PlainPart line) =
    simp (parts-add, append_assoc)
parts-step limit held (IfPart line) = parts-begin limit held line InIf (IfPart line) refl
parts-step limit held (ForPart line) = parts-begin limit held line InFor (ForPart line) refl
parts-step limit held (ElifPart line) = parts-go_on held.stack held.current (ElifPart line)
parts-step limit held ElsePart = parts-go_on held.stack held.current ElsePart
parts-step limit held EndifPart = parts-go_on held.stack held.current EndifPart
parts-step limit held EndforPart = parts-go_on held.stack held.current EndforPart
