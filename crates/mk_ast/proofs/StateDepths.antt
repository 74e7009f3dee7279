-- What is held after some parts isn't deeper than the limit.
use Rattle.std.proofs.Common.{◌≡◌, ◌+◌, ◌<◌, ◌≤◌, ℕ, suc, max, refl, Bool, true, false, nat_lt, cond, List, [], ◌∷◌, ◌++◌, length, Option}
use Rattle.std.proofs.Common.{Some, None, arith}
use Rattle.std.proofs.lemmas.Bool.{ltb-true}
use Rattle.mk_text.specs.Lines.{LogicalLine}
use Rattle.mk_ast.specs.Parts.{Part, IfPart, ElifPart, ElsePart, EndifPart, ForPart, EndforPart, PlainPart}
use Rattle.mk_ast.specs.Trees.{LineTree, Block, EmptyBlock, NoBranches, ElseBranch, tree_depth, block_depth}
use Rattle.mk_ast.specs.Blocks.{Stage, InIf, InElif, InElse, InFor, Open, ReadingState, PartEffect, GoesOn, Ends, Wrong, part_effect}
use Rattle.mk_ast.specs.Blocks.{apply_effect, go_on, begin, step}
use Rattle.mk_ast.proofs.BlockParts.{depth-add, listed_depth, depth-listed, depth-from}
use Rattle.mk_ast.proofs.Effects.{of-effect}

-- how deep the branches of an open block are
abbrev pub stage_depth : Stage → ℕ
stage_depth InIf = 0
stage_depth (InElif first later last) = max (block_depth first) (listed_depth later)
stage_depth (InElse first later) = max (block_depth first) (listed_depth later)
stage_depth InFor = 0

abbrev pub StackFits : ℕ → List Open → Type 0
StackFits limit [] = Unit {0}
StackFits limit (open' ∷ stack) =
    (block_depth open'.before + length stack ≤ limit) × (suc (stage_depth open'.stage) + length stack ≤ limit) × StackFits limit stack

pub record IsWithin (limit : ℕ) (held : ReadingState) : Type 0 where
  pub current : block_depth held.current + length held.stack ≤ limit
  pub below : StackFits limit held.stack

-- what a part makes of an open block isn't deeper than the block with what is in it
abbrev EffectFits : Stage → Block → PartEffect → Type 0
EffectFits stage block (GoesOn next) = stage_depth next ≤ max (stage_depth stage) (block_depth block)
EffectFits stage block (Ends tree) = tree_depth tree ≤ suc (max (stage_depth stage) (block_depth block))
EffectFits stage block Wrong = Unit {0}

depth-part_effect : (head : LogicalLine) (stage : Stage) (block : Block) (part : Part)
    → EffectFits stage block (part_effect head stage block part)
depth-part_effect = of-effect (λ head stage block part. EffectFits stage block) (record {
  if_elif = λ head block line. omega arith;
  if_else = λ head block. omega arith;
  if_endif = λ head block. omega arith;
  elif_elif = λ head first later last block line. omega (arith, depth-listed later last block);
  elif_else = λ head first later last block. omega (arith, depth-listed later last block);
  elif_endif = λ head first later last block. omega (
    arith,
    depth-listed later last block,
    depth-from
        (later ++ (last, block) ∷ []) NoBranches,
  );
  else_endif = λ head first later block. omega (arith, depth-from later (ElseBranch block));
  for_endfor = λ head block. omega arith;
  wrong = λ head stage block part. tt;
})

abbrev pub IfWithin : ℕ → Option ReadingState → Type 0
IfWithin limit None = Unit {0}
IfWithin limit (Some held) = IsWithin limit held

within-apply_effect : (limit : ℕ) (innermost : Open) (stack : List Open) (block : Block) (result : PartEffect)
    → block_depth block + suc (length stack) ≤ limit → StackFits limit (innermost ∷ stack) → EffectFits innermost.stage block result
    → IfWithin limit (apply_effect innermost stack result)
within-apply_effect limit innermost stack block (GoesOn next) current below fits =
    let near : suc (stage_depth next) + length stack ≤ limit = omega (arith, below.1) in
    record { current = omega (arith, below.1); below = (below.0, near, below.2) }
within-apply_effect limit innermost stack block (Ends tree) current below fits =
    record { current = omega (arith, below.0, below.1, depth-add innermost.before tree); below = below.2 }
within-apply_effect limit innermost stack block Wrong current below fits = tt

within-go_on : (limit : ℕ) (stack : List Open) (block : Block) (part : Part) → block_depth block + length stack ≤
    limit → StackFits limit stack
    → IfWithin limit (go_on stack block part)
within-go_on limit [] block part current below = tt
within-go_on limit (innermost ∷ stack) block part current below =
    within-apply_effect limit innermost stack block (part_effect innermost.head innermost.stage block part) current below
    (depth-part_effect innermost.head innermost.stage block part)

within-begin : (limit : ℕ) (held : ReadingState) (line : LogicalLine) (stage : Stage) → IsWithin limit held → stage_depth stage ≡ 0
    → IfWithin limit (begin limit held line stage)
within-begin limit held line stage is none =
    let next : ReadingState =
    record { current = EmptyBlock; stack = record { before = held.current; head = line; stage = stage } ∷ held.stack } in
    let cases : (b : Bool) → nat_lt (length held.stack) limit ≡ b → IfWithin limit (cond b (Some next) None) =
    λ b. elim b as (λ b. nat_lt (length held.stack) limit ≡ b → IfWithin limit (cond b (Some next) None)) [
      | true ↦ λ room.
          let below : length held.stack < limit = ltb-true (length held.stack) limit room in
          record { current = omega arith; below = (is.current, omega (arith, none), is.below) }
      | false ↦ λ room. tt
    ] in
    cases (nat_lt (length held.stack) limit) refl

pub within-step : (limit : ℕ) (held : ReadingState) (part : Part) → IsWithin limit held → IfWithin limit (step limit held part)
unfolding step
within-step limit held (PlainPart line) is =
    let fits = is.current in
    record { current = omega (arith, depth-add held.current (LineTree line)); below = is.below }
within-step limit held (IfPart line) is = within-begin limit held line InIf is refl
within-step limit held (ForPart line) is = within-begin limit held line InFor is refl
within-step limit held (ElifPart line) is = within-go_on limit held.stack held.current (ElifPart line) is.current is.below
within-step limit held ElsePart is = within-go_on limit held.stack held.current ElsePart is.current is.below
within-step limit held EndifPart is = within-go_on limit held.stack held.current EndifPart is.current is.below
within-step limit held EndforPart is = within-go_on limit held.stack held.current EndforPart is.current is.below
