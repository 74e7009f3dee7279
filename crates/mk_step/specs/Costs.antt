-- What costs at least a unit, and what is done with every thing that costs nothing.
use Rattle.std.specs.Prelude.{◌≡◌, ◌+◌, ◌-◌, ◌*◌, ℕ, List, [], ◌∷◌}
use Rattle.mk_base.specs.declared.budget.TheConstants.{QUESTIONS}
use Rattle.mk_base.specs.Meter.{Meter}
use Rattle.mk_ast.specs.Kinds.{BlankLine, line_kind}
use Rattle.mk_ast.specs.Trees.{Tree, LineTree, ChoiceTree, LoopTree, EmptyBlock, MoreBlock, NoBranches, ElifBranch, ElseBranch}
use Rattle.mk_step.specs.Machine.{Frame, Lines, Later, Iterations, Modules, Searches}

-- a blank line
abbrev pub IsBlank : Tree → Type 0
IsBlank (LineTree line) = line_kind line.text ≡ BlankLine
IsBlank (ChoiceTree line first later) = ⊥
IsBlank (LoopTree line body) = ⊥

-- a line that isn't blank, or a block, costs at least a unit
abbrev pub TreeCosts : Tree → Type 0
TreeCosts (LineTree line) = line_kind line.text ≡ BlankLine → ⊥
TreeCosts (ChoiceTree line first later) = Unit {0}
TreeCosts (LoopTree line body) = Unit {0}

-- the next thing that a frame does costs at least a unit, or is about modules
abbrev pub Costs : Frame → Type 0
Costs (Lines site EmptyBlock) = ⊥
Costs (Lines site (MoreBlock tree block)) = TreeCosts tree
Costs (Later site NoBranches) = ⊥
Costs (Later site (ElifBranch line block more)) = Unit {0}
Costs (Later site (ElseBranch block)) = ⊥
Costs (Iterations site line body []) = ⊥
Costs (Iterations site line body (iteration ∷ iterations)) = Unit {0}
Costs (Modules site line) = Unit {0}
Costs (Searches site line []) = ⊥
Costs (Searches site line (word ∷ words)) = Unit {0}

-- how many things a frame may still do about modules that cost neither a unit nor a question
abbrev pub frame_weight : Frame → ℕ
frame_weight (Lines site block) = 0
frame_weight (Later site later) = 0
frame_weight (Iterations site line body iterations) = 0
frame_weight (Modules site line) = 2
frame_weight (Searches site line []) = 0
frame_weight (Searches site line (word ∷ words)) = 1

-- the same for all frames
abbrev pub weight : List Frame → ℕ
weight [] = 0
weight (frame ∷ frames) = frame_weight frame + weight frames

-- the units and questions that are left, and the things that may still be done without them: each thing that is done
-- makes it less
abbrev pub may_follow : Meter → List Frame → ℕ
may_follow meter frames = 3 * ((meter.limit - meter.spent) + (QUESTIONS - meter.questions)) + weight frames
