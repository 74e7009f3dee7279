-- The parts and the depth of what a reading builds.
use Rattle.std.proofs.Common.{◌≡◌, ℕ, max, List, [], ◌∷◌, ◌++◌, refl, sym, ap, ◌∙◌, append_assoc, append-nil, arith}
use Rattle.mk_text.specs.Lines.{LogicalLine}
use Rattle.mk_ast.specs.Parts.{Part, ElifPart}
use Rattle.mk_ast.specs.Trees.{Tree, Block, EmptyBlock, MoreBlock, Branches, tree_parts, block_parts, branch_parts, tree_depth, block_depth}
use Rattle.mk_ast.specs.Trees.{branch_depth}
use Rattle.mk_ast.specs.Blocks.{add, branches_from}

pub parts-add : (block : Block) (last : Tree) → block_parts (add block last) ≡ block_parts block ++ tree_parts last
parts-add EmptyBlock last = append-nil (tree_parts last)
parts-add (MoreBlock tree block) last =
    ap (λ l. tree_parts tree ++ l) (parts-add block last) ∙ sym (append_assoc (tree_parts tree) (block_parts block) (tree_parts last))

pub depth-add : (block : Block) (last : Tree) → block_depth (add block last) ≡ max (block_depth block) (tree_depth last)
depth-add EmptyBlock last = omega arith
depth-add (MoreBlock tree block) last = omega (arith, depth-add block last)

-- branches of `.elif`
abbrev pub listed_parts : List (LogicalLine × Block) → List Part
listed_parts [] = []
listed_parts (branch ∷ more) = ElifPart branch.0 ∷ block_parts branch.1 ++ listed_parts more

abbrev pub listed_depth : List (LogicalLine × Block) → ℕ
listed_depth [] = 0
listed_depth (branch ∷ more) = max (block_depth branch.1) (listed_depth more)

pub parts-listed : (later : List (LogicalLine × Block)) (line : LogicalLine) (block : Block)
    → listed_parts (later ++ (line, block) ∷ []) ≡ listed_parts later ++ ElifPart line ∷ block_parts block
parts-listed [] line block = ap (λ l. ElifPart line ∷ l) (append-nil (block_parts block))
parts-listed (branch ∷ more) line block =
    ap (λ l. ElifPart branch.0 ∷ l)
    (ap (λ l. block_parts branch.1 ++ l) (parts-listed more line block)
    ∙ sym (append_assoc (block_parts branch.1) (listed_parts more) (ElifPart line ∷ block_parts block)))

pub depth-listed : (later : List (LogicalLine × Block)) (line : LogicalLine) (block : Block)
    → listed_depth (later ++ (line, block) ∷ []) ≡ max (listed_depth later) (block_depth block)
depth-listed [] line block = omega arith
depth-listed (branch ∷ more) line block = omega (arith, depth-listed more line block)

pub parts-from : (later : List (LogicalLine × Block)) (end : Branches) → branch_parts (branches_from later end) ≡ listed_parts
    later ++ branch_parts end
parts-from [] end = refl
parts-from (branch ∷ more) end =
    ap (λ l. ElifPart branch.0 ∷ l)
    (ap (λ l. block_parts branch.1 ++ l) (parts-from more end)
    ∙ sym (append_assoc (block_parts branch.1) (listed_parts more) (branch_parts end)))

pub depth-from : (later : List (LogicalLine × Block)) (end : Branches) → branch_depth (branches_from later end) ≡ max
    (listed_depth later) (branch_depth end)
depth-from [] end = omega arith
depth-from (branch ∷ more) end = omega (arith, depth-from more end)
