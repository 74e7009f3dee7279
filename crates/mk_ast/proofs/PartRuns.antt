-- Reading parts in a run: what is held after them is theirs, and a block's parts add just that block.
use Rattle.std.proofs.Common.{◌≡◌, ◌+◌, ◌<◌, ◌≤◌, ℕ, suc, List, [], ◌∷◌, ◌++◌, length, Option, Some, None, refl, sym, ap, subst, ◌∙◌}
use Rattle.std.proofs.Common.{append_assoc, append-nil, arith}
use Rattle.std.specs.Option.{option_and_then}
use Rattle.std.proofs.lemmas.Bool.{cond_below}
use Rattle.mk_text.specs.Lines.{LogicalLine}
use Rattle.mk_ast.specs.Parts.{Part, IfPart, ElifPart, ElsePart, EndifPart, ForPart, EndforPart, PlainPart}
use Rattle.mk_ast.specs.Trees.{Tree, LineTree, ChoiceTree, LoopTree, Block, EmptyBlock, MoreBlock, Branches, NoBranches, ElifBranch}
use Rattle.mk_ast.specs.Trees.{ElseBranch, tree_parts, block_parts, branch_parts, tree_depth, block_depth, branch_depth}
use Rattle.mk_ast.specs.Blocks.{add, branches_from, Stage, InIf, InElif, InElse, InFor, Open, ReadingState, begin, step}
use Rattle.mk_ast.proofs.StateParts.{state_parts, StepParts, parts-step}
use Rattle.mk_ast.proofs.StateDepths.{IsWithin, IfWithin, within-step}

-- the steps of some parts, one after another
unfoldable pub run : ℕ → ReadingState → List Part → Option ReadingState
run limit held [] = Some held
run limit held (part ∷ parts) = option_and_then (λ next. run limit next parts) (step limit held part)

pub run-nil : (limit : ℕ) (held : ReadingState) → run limit held [] ≡ Some held
unfolding run
run-nil limit held = refl

pub run-cons : (limit : ℕ) (held : ReadingState) (part : Part) (parts : List Part)
    → run limit held (part ∷ parts) ≡ option_and_then (λ next. run limit next parts) (step limit held part)
unfolding run
run-cons limit held part parts = refl

-- a step that can be taken
pub run-step : (limit : ℕ) (held next : ReadingState) (part : Part) (parts : List Part) → step limit held part ≡ Some next
    → run limit held (part ∷ parts) ≡ run limit next parts
run-step limit held next part parts is = run-cons limit held part parts ∙ ap (option_and_then (λ n. run limit n parts)) is

then-run : (limit : ℕ) (first : Option ReadingState) (parts more : List Part)
    → ((held : ReadingState) → run limit held (parts ++ more) ≡ option_and_then (λ n. run limit n more) (run limit held parts))
    → option_and_then (λ n. run limit n (parts ++ more)) first ≡ option_and_then (λ n. run limit n more)
    (option_and_then (λ n. run limit n parts) first)
then-run limit None parts more each = refl
then-run limit (Some held) parts more each = each held

pub run-append : (limit : ℕ) (parts more : List Part) (held : ReadingState)
    → run limit held (parts ++ more) ≡ option_and_then (λ n. run limit n more) (run limit held parts)
unfolding run
run-append limit [] more held = refl
run-append limit (part ∷ parts) more held = then-run limit (step limit held part) parts more (run-append limit parts more)

-- what is held is made of these parts, and isn't too deep
pub record IsStateAfter (limit : ℕ) (parts : List Part) (held : ReadingState) : Type 0 where
  pub made_of : state_parts held ≡ parts
  pub within : IsWithin limit held

abbrev pub IfStateAfter : ℕ → List Part → Option ReadingState → Type 0
IfStateAfter limit parts None = Unit {0}
IfStateAfter limit parts (Some held) = IsStateAfter limit parts held

state-both : (limit : ℕ) (before : List Part) (part : Part) (parts : List Part) (result : Option ReadingState) → before ≡ parts
    → StepParts before part result → IfWithin limit result → IfStateAfter limit (parts ++ part ∷ []) result
state-both limit before part parts None same made within = tt
state-both limit before part parts (Some held) same made within = record { made_of = made ∙ ap (λ l. l ++ part ∷ []) same; within = within }

pub state-step : (limit : ℕ) (parts : List Part) (held : ReadingState) (part : Part) → IsStateAfter limit parts held
    → IfStateAfter limit (parts ++ part ∷ []) (step limit held part)
state-step limit parts held part is =
    state-both limit (state_parts held) part parts (step limit held part) is.made_of (parts-step limit held part)
    (within-step limit held part is.within)

state-then : (limit : ℕ) (whole front more : List Part) (first : Option ReadingState) → IfStateAfter limit front first
    → ((held : ReadingState) → IsStateAfter limit front held → IfStateAfter limit whole (run limit held more))
    → IfStateAfter limit whole (option_and_then (λ n. run limit n more) first)
state-then limit whole front more None is each = tt
state-then limit whole front more (Some held) is each = each held is

pub state-run : (limit : ℕ) (more parts : List Part) (held : ReadingState) → IsStateAfter limit parts held
    → IfStateAfter limit (parts ++ more) (run limit held more)
unfolding run
state-run limit [] parts held is = rw (append-nil parts) is
state-run limit (part ∷ more) parts held is =
    state-then limit (parts ++ part ∷ more) (parts ++ part ∷ []) more (step limit held part) (state-step limit parts held part is)
    (λ next has. subst (λ l. IfStateAfter limit l (run limit next more)) (append_assoc parts (part ∷ []) more)
    (state-run limit more (parts ++ part ∷ []) next has))

-- a block with another after it
abbrev pub join : Block → Block → Block
join EmptyBlock block = block
join (MoreBlock tree front) block = MoreBlock tree (join front block)

join-empty : (block : Block) → join block EmptyBlock ≡ block
join-empty EmptyBlock = refl
join-empty (MoreBlock tree block) = ap (MoreBlock tree) (join-empty block)

join-add : (block : Block) (tree : Tree) (more : Block) → join (add block tree) more ≡ join block (MoreBlock tree more)
join-add EmptyBlock tree more = refl
join-add (MoreBlock first block) tree more = ap (MoreBlock first) (join-add block tree more)

from-append : (later : List (LogicalLine × Block)) (line : LogicalLine) (block : Block) (end : Branches)
    → branches_from (later ++ (line, block) ∷ []) end ≡ branches_from later (ElifBranch line block end)
from-append [] line block end = refl
from-append (branch ∷ later) line block end = ap (ElifBranch branch.0 branch.1) (from-append later line block end)

-- what is held, from its parts
abbrev pub state_as : Block → List Open → ReadingState
state_as current stack = record { current = current; stack = stack }

abbrev pub open_as : Block → LogicalLine → Stage → Open
open_as before head stage = record { before = before; head = head; stage = stage }

begins : (limit : ℕ) (held : ReadingState) (line : LogicalLine) (stage : Stage) → length held.stack < limit
    → begin limit held line stage ≡ Some (state_as EmptyBlock (open_as held.current line stage ∷ held.stack))
begins limit held line stage room =
    sym (cond_below (length held.stack) limit (Some (state_as EmptyBlock (open_as held.current line stage ∷ held.stack))) None room)

-- parts of a choice and of a loop, with more after them
choice_parts : (first end : Part) (body branches rest : List Part) → ((first ∷ body ++ branches) ++ end ∷ []) ++ rest ≡ first ∷
    (body ++ (branches ++ end ∷ rest))
choice_parts first end body branches rest =
    ap (λ l. first ∷ l) (append_assoc (body ++ branches) (end ∷ []) rest ∙ append_assoc body branches (end ∷ rest))

loop_parts : (first end : Part) (body rest : List Part) → (first ∷ body ++ end ∷ []) ++ rest ≡ first ∷ (body ++ end ∷ rest)
loop_parts first end body rest = ap (λ l. first ∷ l) (append_assoc body (end ∷ []) rest)

mutual
  unfolding step

  pub run-tree : (tree : Tree) (limit : ℕ) (held : ReadingState) (rest : List Part) → tree_depth tree + length held.stack ≤ limit
      → run limit held (tree_parts tree ++ rest) ≡ run limit (state_as (add held.current tree) held.stack) rest
  run-tree (LineTree line) limit held rest fits = run-step limit held (state_as (add held.current (LineTree line)) held.stack)
      (PlainPart line) rest refl
  run-tree (ChoiceTree line block branches) limit held rest fits =
      let room : length held.stack < limit = omega arith in
      let inner : block_depth block + suc (length held.stack) ≤ limit = omega arith in
      let later : branch_depth branches + suc (length held.stack) ≤ limit = omega arith in
      let opened = open_as held.current line InIf ∷ held.stack in
      ap (run limit held) (choice_parts (IfPart line) EndifPart (block_parts block) (branch_parts branches) rest)
      ∙ run-step limit held (state_as EmptyBlock opened) (IfPart line) _ (begins limit held line InIf room)
      ∙ run-block block limit (state_as EmptyBlock opened) (branch_parts branches ++ EndifPart ∷ rest) inner
      ∙ run-first branches limit held.current line block held.stack rest later
  run-tree (LoopTree line block) limit held rest fits =
      let room : length held.stack < limit = omega arith in
      let inner : block_depth block + suc (length held.stack) ≤ limit = omega arith in
      let opened = open_as held.current line InFor ∷ held.stack in
      ap (run limit held) (loop_parts (ForPart line) EndforPart (block_parts block) rest)
      ∙ run-step limit held (state_as EmptyBlock opened) (ForPart line) _ (begins limit held line InFor room)
      ∙ run-block block limit (state_as EmptyBlock opened) (EndforPart ∷ rest) inner
      ∙ run-step limit (state_as block opened) (state_as (add held.current (LoopTree line block)) held.stack) EndforPart rest refl

  pub run-block : (block : Block) (limit : ℕ) (held : ReadingState) (rest : List Part) → block_depth block + length held.stack ≤ limit
      → run limit held (block_parts block ++ rest) ≡ run limit (state_as (join held.current block) held.stack) rest
  run-block EmptyBlock limit held rest fits = ap (λ b. run limit (state_as b held.stack) rest) (sym (join-empty held.current))
  run-block (MoreBlock tree block) limit held rest fits =
      let one : tree_depth tree + length held.stack ≤ limit = omega arith in
      let more : block_depth block + length held.stack ≤ limit = omega arith in
      ap (run limit held) (append_assoc (tree_parts tree) (block_parts block) rest)
      ∙ run-tree tree limit held (block_parts block ++ rest) one
      ∙ run-block block limit (state_as (add held.current tree) held.stack) rest more
      ∙ ap (λ b. run limit (state_as b held.stack) rest) (join-add held.current tree block)

  -- the branches after the first
  run-first : (branches : Branches) (limit : ℕ) (before : Block) (head : LogicalLine) (current : Block)
      (stack : List Open) (rest : List Part)
      → branch_depth branches + suc (length stack) ≤ limit
      → run limit (state_as current (open_as before head InIf ∷ stack)) (branch_parts branches ++ EndifPart ∷ rest)
      ≡ run limit (state_as (add before (ChoiceTree head current branches)) stack) rest
  run-first NoBranches limit before head current stack rest fits =
      run-step limit (state_as current (open_as before head InIf ∷ stack)) (state_as (add before (ChoiceTree head current NoBranches))
      stack) EndifPart rest refl
  run-first (ElifBranch line block branches) limit before head current stack rest fits =
      let inner : block_depth block + suc (length stack) ≤ limit = omega arith in
      let later : branch_depth branches + suc (length stack) ≤ limit = omega arith in
      let opened = open_as before head (InElif current [] line) ∷ stack in
      ap (λ l. run limit (state_as current (open_as before head InIf ∷ stack)) (ElifPart line ∷ l))
      (append_assoc (block_parts block) (branch_parts branches) (EndifPart ∷ rest))
      ∙ run-step limit (state_as current (open_as before head InIf ∷ stack)) (state_as EmptyBlock opened) (ElifPart line) _ refl
      ∙ run-block block limit (state_as EmptyBlock opened) (branch_parts branches ++ EndifPart ∷ rest) inner
      ∙ run-later branches limit before head current [] line block stack rest later
  run-first (ElseBranch block) limit before head current stack rest fits =
      let opened = open_as before head (InElse current []) ∷ stack in
      run-step limit (state_as current (open_as before head InIf ∷ stack)) (state_as EmptyBlock opened) ElsePart _ refl
      ∙ run-block block limit (state_as EmptyBlock opened) (EndifPart ∷ rest) fits
      ∙ run-step limit (state_as block opened) (state_as (add before (ChoiceTree head current (ElseBranch block))) stack) EndifPart rest
      refl

  -- the branches after one of `.elif`
  run-later : (branches : Branches) (limit : ℕ) (before : Block) (head : LogicalLine) (first : Block) (listed : List (LogicalLine × Block))
      (last : LogicalLine) (current : Block) (stack : List Open) (rest : List Part)
      → branch_depth branches + suc (length stack) ≤ limit
      → run limit (state_as current (open_as before head (InElif first listed last) ∷ stack)) (branch_parts branches ++ EndifPart ∷ rest)
      ≡ run limit (state_as (add before (ChoiceTree head first (branches_from listed (ElifBranch last current branches)))) stack) rest
  run-later NoBranches limit before head first listed last current stack rest fits =
      run-step limit (state_as current (open_as before head (InElif first listed last) ∷ stack))
      (state_as (add before (ChoiceTree head first (branches_from (listed ++ (last, current) ∷ []) NoBranches))) stack) EndifPart rest
      refl
      ∙ ap (λ b. run limit (state_as (add before (ChoiceTree head first b)) stack) rest) (from-append listed last current NoBranches)
  run-later (ElifBranch line block branches) limit before head first listed last current stack rest fits =
      let inner : block_depth block + suc (length stack) ≤ limit = omega arith in
      let later : branch_depth branches + suc (length stack) ≤ limit = omega arith in
      let all = listed ++ (last, current) ∷ [] in
      let held = state_as current (open_as before head (InElif first listed last) ∷ stack) in
      let opened = open_as before head (InElif first all line) ∷ stack in
      ap (λ l. run limit held (ElifPart line ∷ l)) (append_assoc (block_parts block) (branch_parts branches) (EndifPart ∷ rest))
      ∙ run-step limit held (state_as EmptyBlock opened) (ElifPart line) _ refl
      ∙ run-block block limit (state_as EmptyBlock opened) (branch_parts branches ++ EndifPart ∷ rest) inner
      ∙ run-later branches limit before head first all line block stack rest later
      ∙ ap (λ b. run limit (state_as (add before (ChoiceTree head first b)) stack) rest)
      (from-append listed last current (ElifBranch line block branches))
  run-later (ElseBranch block) limit before head first listed last current stack rest fits =
      let all = listed ++ (last, current) ∷ [] in
      let held = state_as current (open_as before head (InElif first listed last) ∷ stack) in
      let opened = open_as before head (InElse first all) ∷ stack in
      run-step limit held (state_as EmptyBlock opened) ElsePart _ refl
      ∙ run-block block limit (state_as EmptyBlock opened) (EndifPart ∷ rest) fits
      ∙ run-step limit (state_as block opened) (state_as (add before (ChoiceTree head first (branches_from all (ElseBranch block)))) stack)
      EndifPart rest refl
      ∙ ap (λ b. run limit (state_as (add before (ChoiceTree head first b)) stack) rest)
      (from-append listed last current (ElseBranch block))
