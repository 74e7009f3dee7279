-- How lines are read into blocks in one pass, for those who want the reading as a function. It reads what
-- `Reads` says, and nothing else.
use Rattle.std.specs.Prelude.{ℕ, nat_lt, List, [], ◌∷◌, ◌++◌, length, Option, Some, None, Result, Ok, Err, if◌then◌else◌}
use Rattle.mk_text.specs.Lines.{LogicalLine}
use Rattle.mk_ast.specs.Parts.{Part, IfPart, ElifPart, ElsePart, EndifPart, ForPart, EndforPart, PlainPart, part_of}
use Rattle.mk_ast.specs.Trees.{Tree, LineTree, ChoiceTree, LoopTree, Block, EmptyBlock, MoreBlock, Branches}
use Rattle.mk_ast.specs.Trees.{NoBranches, ElifBranch, ElseBranch}

-- a block with one more tree at its end
abbrev pub add : Block → Tree → Block
add EmptyBlock last = MoreBlock last EmptyBlock
add (MoreBlock tree block) last = MoreBlock tree (add block last)

-- branches of `.elif` in a list, as branches that end in others
abbrev pub branches_from : List (LogicalLine × Block) → Branches → Branches
branches_from [] end = end
branches_from (branch ∷ more) end = ElifBranch branch.0 branch.1 (branches_from more end)

-- the branch of an `.else`, if there is one
abbrev pub last_branch : Option Block → Branches
last_branch None = NoBranches
last_branch (Some block) = ElseBranch block

-- How far an open block is read: after its `.if`; after the line of an `.elif`, with the first branch and
-- those between; after its `.else`, with the same; or after its `.for`.
pub data Stage : Type 0 where
  InIf : Stage
  InElif : Block → List (LogicalLine × Block) → LogicalLine → Stage
  InElse : Block → List (LogicalLine × Block) → Stage
  InFor : Stage

-- an open block: what comes before it in the block around it, its first line, and how far it is read
pub record Open : Type 0 where
  pub before : Block
  pub head : LogicalLine
  pub stage : Stage

-- the state of a reading after some lines: what follows the last part of a frame, and the open blocks, the
-- innermost first
pub record ReadingState : Type 0 where
  pub current : Block
  pub stack : List Open

-- what an open block is if it ends: a choice, with its first branch, those of `.elif` and that of `.else`, if
-- there is one; or a loop, with its body
pub data Content : Type 0 where
  ChoiceContent : Block → List (LogicalLine × Block) → Option Block → Content
  LoopContent : Block → Content

-- the same of an open block that is read as far as this stage, if this follows its last part
abbrev pub content_of : Stage → Block → Content
content_of InIf block = ChoiceContent block [] None
content_of (InElif first later last) block = ChoiceContent first (later ++ (last, block) ∷ []) None
content_of (InElse first later) block = ChoiceContent first later (Some block)
content_of InFor block = LoopContent block

-- what a part of a frame makes of the innermost open block: another stage of it, its tree, or nothing
pub data PartEffect : Type 0 where
  GoesOn : Stage → PartEffect
  Ends : Tree → PartEffect
  Wrong : PartEffect

-- What a part makes of an open block with this first line, by what the block is if it ends. A choice without
-- `.else` goes on after `.elif` and `.else`; a choice ends at `.endif`, and a loop at `.endfor`.
abbrev pub effect_on : LogicalLine → Content → Part → PartEffect
effect_on head (ChoiceContent first later None) (ElifPart line) = GoesOn (InElif first later line)
effect_on head (ChoiceContent first later None) ElsePart = GoesOn (InElse first later)
effect_on head (ChoiceContent first later otherwise) EndifPart = Ends (ChoiceTree head first (branches_from later (last_branch otherwise)))
effect_on head (LoopContent body) EndforPart = Ends (LoopTree head body)
effect_on head content part = Wrong

-- the same of an open block that is read as far as this stage; the third argument is what follows its last
-- part
abbrev pub part_effect : LogicalLine → Stage → Block → Part → PartEffect
part_effect head stage block part = effect_on head (content_of stage block) part

-- the state once a part has had its effect on the innermost open block
abbrev pub apply_effect : Open → List Open → PartEffect → Option ReadingState
apply_effect innermost stack (GoesOn stage) = Some (record { current = EmptyBlock; stack = record innermost { stage = stage } ∷ stack })
apply_effect innermost stack (Ends tree) = Some (record { current = add innermost.before tree; stack = stack })
apply_effect innermost stack Wrong = None

-- the state after a part that divides or closes a block; a block has to be open
abbrev pub go_on : List Open → Block → Part → Option ReadingState
go_on [] block part = None
go_on (innermost ∷ stack) block part = apply_effect innermost stack (part_effect innermost.head innermost.stage block part)

-- a block that begins with this line, if fewer than the limit are open
abbrev pub begin : ℕ → ReadingState → LogicalLine → Stage → Option ReadingState
begin limit state line stage =
    if nat_lt (length state.stack) limit
    then Some (record { current = EmptyBlock; stack = record { before = state.current; head = line; stage = stage } ∷ state.stack })
    else None

-- the state after one more part; none if it can't come there
unfoldable pub step : ℕ → ReadingState → Part → Option ReadingState
step limit state (PlainPart line) = Some (record { current = add state.current (LineTree line); stack = state.stack })
step limit state (IfPart line) = begin limit state line InIf
step limit state (ForPart line) = begin limit state line InFor
step limit state part = go_on state.stack state.current part

-- the reading that goes on with a state, or stops at a line
abbrev pub go_on_from : {A : Type 0} → (ReadingState → Result A ℕ) → ℕ → Option ReadingState → Result A ℕ
go_on_from next number None = Err number
go_on_from next number (Some state) = next state

-- the state after these lines, or the number of the first line that is out of place
unfoldable pub read_on : ℕ → ReadingState → List LogicalLine → Result ReadingState ℕ
read_on limit state [] = Ok state
read_on limit state (line ∷ lines) = go_on_from (λ next. read_on limit next lines) line.line (step limit state (part_of line))

-- the block that is read, if no block is open; else the number of the innermost open one's first line
abbrev pub whole_block : Block → List Open → Result Block ℕ
whole_block block [] = Ok block
whole_block block (innermost ∷ stack) = Err innermost.head.line

-- the end of a reading
abbrev pub whole_reading : Result ReadingState ℕ → Result Block ℕ
whole_reading (Ok state) = whole_block state.current state.stack
whole_reading (Err number) = Err number

-- the state as the reading begins
abbrev pub start_state : ReadingState
start_state = record { current = EmptyBlock; stack = [] }

-- the block that lines are read as, or the number of the line at which its blocks are at fault
abbrev pub blocks_of : ℕ → List LogicalLine → Result Block ℕ
blocks_of limit lines = whole_reading (read_on limit start_state lines)
