-- What the code holds of the lines up to a place.
use Rattle.std.specs.Prelude.{◌≡◌, ℕ, List, ◌∷◌, map, reverse, Option, Some, None, option_map, Result, Ok, Err, IfOk}
use Rattle.std.specs.Prelude.{Vec}
use Rattle.std.specs.declared.rc.Rc.{Rc}
use Rattle.std.specs.Global.{Global}
use Rattle.mk_ast.specs.declared.reader.Progress.{Progress}
use Rattle.mk_ast.specs.declared.reader.Progress.TheVariants as p
use Rattle.mk_ast.specs.declared.reader.OpenBlock.{OpenBlock}
use Rattle.mk_ast.specs.declared.reader.Content.{Content}
use Rattle.mk_ast.specs.declared.reader.Content.TheVariants as c
use Rattle.mk_ast.specs.declared.reader.PartEffect.{PartEffect}
use Rattle.mk_ast.specs.declared.reader.PartEffect.TheVariants as f
use Rattle.mk_ast.specs.declared.reader.Reader.{Reader}
use Rattle.mk_ast.specs.declared.parser.ParseError.{ParseError}
use Rattle.mk_ast.specs.declared.parser.ParseError.TheVariants as errors
use Rattle.mk_ast.specs.Trees.{EmptyBlock, ChoiceTree, LineTree}
use Rattle.mk_ast.specs.Blocks as blocks
use Rattle.mk_ast.specs.Blocks.{Stage, InIf, InElif, InElse, InFor, Open, ReadingState, ChoiceContent, LoopContent, Wrong, apply_effect}
use Rattle.mk_ast.specs.Blocks.{content_of, part_effect, branches_from, last_branch, add, go_on, whole_block}
use Rattle.mk_ast.specs.Views.{block_of, branch_of, tree_of}
use Rattle.mk_ast.specs.Parser.{block_fault, HoldsOfAnswer, with_kind}
use Rattle.mk_ast.specs.declared.nodes.Node.{Node}
use Rattle.mk_ast.specs.declared.parts.InnerPart.{InnerPart}
use Rattle.mk_text.specs.Lines.{LogicalLine}
use Rattle.mk_ast.specs.FrameParts.{inner_part}
use Rattle.mk_ast.specs.declared.reader.EndedBranches.{EndedBranches}
use Rattle.mk_ast.specs.declared.nodes.Makefile.{Makefile}

abbrev pub stage_of : Progress → Stage
stage_of p.If = InIf
stage_of (p.Elif ended last) = InElif (block_of ended.first.value.items) (map branch_of ended.later.items) last
stage_of (p.Else ended) = InElse (block_of ended.first.value.items) (map branch_of ended.later.items)
stage_of p.For = InFor

abbrev pub open_of : OpenBlock → Open
open_of open' = record { before = block_of open'.before.items; head = open'.head; stage = stage_of open'.progress }

-- what an open block is if it ends
abbrev pub shown_content : Content → blocks.Content
shown_content (c.Choice ended otherwise) =
    ChoiceContent (block_of ended.first.value.items) (map branch_of ended.later.items)
    (option_map (λ block. block_of block.value.items) otherwise)
shown_content (c.Loop body) = LoopContent (block_of body.value.items)

-- the code has the innermost open block last
abbrev pub state_of_reader : Reader → ReadingState
state_of_reader reader = record { current = block_of reader.current.items; stack = reverse (map open_of reader.stack.items) }

-- a step is that of the definition, or a fault at this line if the definition has none; if memory ran out,
-- nothing is said
abbrev pub Steps : Result Reader ParseError → ℕ → Option ReadingState → Type 0
Steps (Ok reader) number outcome = outcome ≡ Some (state_of_reader reader)
Steps (Err (errors.Fault fault)) number outcome = (outcome ≡ None) × (fault ≡ block_fault number)
Steps (Err (errors.Memory _)) number outcome = Unit {0}

-- the state after a part had its effect; other blocks are open around this one
abbrev pub state_after : PartEffect → List Open → ReadingState
state_after (f.GoesOn next) stack = record { current = EmptyBlock; stack = open_of next ∷ stack }
state_after (f.Ends nodes) stack = record { current = block_of nodes.items; stack = stack }

-- the effect is that of the definition, whatever blocks are open around this one; or it is a fault at this
-- line if the definition has none
abbrev pub HasEffect : Result PartEffect ParseError → ℕ → Open → blocks.PartEffect → Type 0
HasEffect (Ok effect) number innermost is = (stack : List Open) → apply_effect innermost stack is ≡ Some (state_after effect stack)
HasEffect (Err (errors.Fault fault)) number innermost is = (is ≡ Wrong) × (fault ≡ block_fault number)
HasEffect (Err (errors.Memory _)) number innermost is = Unit {0}

-- where a function succeeds, it ends a block of this progress, whose part that is open has these nodes
abbrev pub EndsContent : {F : Type 0} → Result Content F → Progress → List Node → Type 0
EndsContent result progress body = IfOk result (λ content. shown_content content ≡ content_of (stage_of progress) (block_of body))

-- a function gives what a line that frames a block does to the innermost block, whose part that is open has these nodes
abbrev pub HasInnerEffect : Result PartEffect ParseError → OpenBlock → List Node → InnerPart → LogicalLine → Type 0
HasInnerEffect result block body part line =
    HasEffect result line.line (open_of block) (part_effect block.head (stage_of block.progress) (block_of body) (inner_part part line))

-- where a function succeeds, it makes the choice between these branches, the last of which may be missing
abbrev pub MakesChoice : {F : Type 0} → Result Node F → LogicalLine → EndedBranches → Option (Rc (Vec Node Global) Global) → Type 0
MakesChoice result head ended otherwise =
    IfOk result (λ node. tree_of node ≡ ChoiceTree head (block_of ended.first.value.items)
    (branches_from (map branch_of ended.later.items)
    (last_branch (option_map (λ (block : Rc (Vec Node Global) Global). block_of block.value.items) otherwise))))

-- where a function succeeds, it adds this node behind the others of the block around it
abbrev pub AddsNode : {F : Type 0} → Result PartEffect F → List Node → Node → Type 0
AddsNode result before node =
    IfOk result (λ effect. (stack : List Open) → state_after effect stack
    ≡ record { current = add (block_of before) (tree_of node); stack = stack })

-- a reader adds a line that frames no block
abbrev pub AddsPlainLine : Result Reader ParseError → Reader → LogicalLine → Type 0
AddsPlainLine result reader line =
    Steps result line.line (Some (record {
      current = add (state_of_reader reader).current (LineTree line);
      stack = (state_of_reader reader).stack;
    }))

-- a reader goes on with a line that frames the innermost block
abbrev pub GoesOnWith : Result Reader ParseError → Reader → InnerPart → LogicalLine → Type 0
GoesOnWith result reader part line =
    Steps result line.line (go_on (state_of_reader reader).stack (state_of_reader reader).current (inner_part part line))

-- a reader answers with all that it read, if no block is open
abbrev pub AnswersWhole : Result Makefile ParseError → Reader → Type 0
AnswersWhole result reader =
    HoldsOfAnswer result (λ answer. answer ≡ with_kind (whole_block (state_of_reader reader).current (state_of_reader reader).stack))
