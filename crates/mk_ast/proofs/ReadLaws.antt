-- The reading in one pass is a reading, and there is no other.
use Rattle.std.proofs.Common.{◌≡◌, ◌+◌, ◌≤◌, inl, inr, ℕ, List, [], ◌∷◌, ◌++◌, Option, Some, None, Result, Ok, Err, refl, sym, ap, subst}
use Rattle.std.proofs.Common.{◌∙◌, append_assoc, append-nil, arith}
use Rattle.std.specs.Option.{option_and_then}
use Rattle.std.proofs.lemmas.Option.{option_and_then_some}
use Rattle.mk_text.specs.Lines.{LogicalLine}
use Rattle.mk_ast.specs.Parts.{Part, IfPart, EndifPart, ForPart, EndforPart, part_of}
use Rattle.mk_ast.specs.Trees.{Tree, Block, tree_parts, block_parts, block_depth, IsReadAs}
use Rattle.mk_ast.specs.Reader.{parts_of, CanGoOn, IsUnclosed, Reads}
use Rattle.mk_ast.specs.Blocks.{add, Stage, InIf, InElif, InElse, InFor, Open, ReadingState, Ends, part_effect, apply_effect, go_on, step}
use Rattle.mk_ast.specs.Blocks.{go_on_from, read_on, whole_block, whole_reading, start_state, blocks_of}
use Rattle.mk_ast.proofs.StateParts.{stage_parts, stack_parts, parts-part_effect, EffectParts}
use Rattle.mk_ast.proofs.KeptLines.{kept, kept-of}
use Rattle.mk_ast.proofs.PartRuns.{run, run-nil, run-cons, run-step, run-append, IsStateAfter, IfStateAfter, state-run, state_as, run-block}

-- nothing is held of no parts
starts : (limit : ℕ) → IsStateAfter limit [] start_state
starts limit = record { made_of = refl; within = record { current = omega arith; below = tt } }

-- what is held after some parts is theirs
pub state-of : (limit : ℕ) (parts : List Part) (held : ReadingState) → run limit start_state parts ≡ Some held
    → IsStateAfter limit parts held
state-of limit parts held is = subst (IfStateAfter limit parts) is (state-run limit parts [] start_state (starts limit))

-- where no block is open, that is a block
pub whole : (limit : ℕ) (parts : List Part) (block : Block) → run limit start_state parts ≡ Some (state_as block [])
    → IsReadAs limit parts block
whole limit parts block is =
    let has = state-of limit parts (state_as block []) is in
    let depth = has.within.current in
    record { in_order = has.made_of; not_deep = omega arith }

-- and a block's parts leave that block
pub read-run : (limit : ℕ) (parts : List Part) (block : Block) → IsReadAs limit parts block
    → run limit start_state parts ≡ Some (state_as block [])
read-run limit parts block is =
    let fits : block_depth block + 0 ≤ limit = omega (arith, is.not_deep) in
    ap (run limit start_state) (sym is.in_order ∙ sym (append-nil (block_parts block)))
    ∙ run-block block limit start_state [] fits ∙ run-nil limit (state_as block [])

-- parts that begin some makefile can all be read
pub goes : (limit : ℕ) (parts : List Part) → CanGoOn limit parts → (held : ReadingState) × (run limit start_state parts ≡ Some held)
goes limit parts can =
    option_and_then_some {P = (held : ReadingState) × (run limit start_state parts ≡ Some held)} (λ n. run limit n can.0)
    (run limit start_state parts) (state_as can.1 [])
    (sym (run-append limit parts can.0 start_state) ∙ read-run limit (parts ++ can.0) can.1 can.2)
    (λ held is after. (held, is))

-- the part that closes a block
abbrev closer : Stage → Part
closer InIf = EndifPart
closer (InElif first later last) = EndifPart
closer (InElse first later) = EndifPart
closer InFor = EndforPart

closes : (head : LogicalLine) (stage : Stage) (block : Block) → (tree : Tree) × (part_effect head stage block (closer stage) ≡ Ends tree)
closes head InIf block = (_, refl)
closes head (InElif first later last) block = (_, refl)
closes head (InElse first later) block = (_, refl)
closes head InFor block = (_, refl)

step-closer : (limit : ℕ) (stage : Stage) (block : Block) (stack : List Open) → step limit (state_as block stack) (closer stage) ≡ go_on
    stack block (closer stage)
unfolding step
step-closer limit InIf block stack = refl
step-closer limit (InElif first later last) block stack = refl
step-closer limit (InElse first later) block stack = refl
step-closer limit InFor block stack = refl

-- the parts that close all open blocks
abbrev closers : List Open → List Part
closers [] = []
closers (innermost ∷ stack) = closer innermost.stage ∷ closers stack

-- all open blocks can be closed
run-closers : (limit : ℕ) (stack : List Open) (block : Block) → (end : Block)
    × (run limit (state_as block stack) (closers stack) ≡ Some (state_as end []))
run-closers limit [] block = (block, run-nil limit (state_as block []))
run-closers limit (innermost ∷ stack) block =
    let one = closes innermost.head innermost.stage block in
    let next = add innermost.before one.0 in
    let rest = run-closers limit stack next in (
      rest.0,
      run-step limit (state_as block (innermost ∷ stack)) (state_as next stack) (closer innermost.stage) (closers stack)
          (step-closer limit innermost.stage block (innermost ∷ stack) ∙ ap (apply_effect innermost stack) one.1)
          ∙ rest.1,
    )

-- parts that can all be read begin some makefile
pub can-go-on : (limit : ℕ) (parts : List Part) (held : ReadingState) → run limit start_state parts ≡ Some held → CanGoOn limit parts
can-go-on limit parts held is =
    let end = run-closers limit held.stack held.current in (
      closers held.stack,
      end.0,
      whole limit (parts ++ closers held.stack) end.0
          (run-append limit parts (closers held.stack) start_state ∙ ap (option_and_then (λ n. run limit n (closers held.stack))) is
          ∙ end.1),
    )

-- one part more
pub run-more : (limit : ℕ) (parts : List Part) (part : Part) (held : ReadingState) → run limit start_state parts ≡ Some held
    → run limit start_state (parts ++ part ∷ []) ≡ option_and_then (λ n. run limit n []) (step limit held part)
run-more limit parts part held is =
    run-append limit parts (part ∷ []) start_state ∙ ap (option_and_then (λ n. run limit n (part ∷ []))) is ∙ run-cons limit held part []

-- where a reading of lines stops
pub record Stops (limit : ℕ) (from : ReadingState) (lines : List LogicalLine) (number : ℕ) : Type 0 where
  pub front : List LogicalLine
  pub line : LogicalLine
  pub rest : List LogicalLine
  pub cut : lines ≡ front ++ line ∷ rest
  pub number_is : number ≡ line.line
  pub held : ReadingState
  pub reads : run limit from (parts_of front) ≡ Some held
  pub wrong : step limit held (part_of line) ≡ None

abbrev pub ReadSays : ℕ → ReadingState → List LogicalLine → Result ReadingState ℕ → Type 0
ReadSays limit from lines (Ok held) = run limit from (parts_of lines) ≡ Some held
ReadSays limit from lines (Err number) = Stops limit from lines number

says-after : (limit : ℕ) (from next : ReadingState) (line : LogicalLine) (lines : List LogicalLine) (result : Result ReadingState ℕ)
    → step limit from (part_of line) ≡ Some next
    → ReadSays limit next lines result → ReadSays limit from (line ∷ lines) result
says-after limit from next line lines (Ok held) is says = run-step limit from next (part_of line) (parts_of lines) is ∙ says
says-after limit from next line lines (Err number) is says = record {
  front = line ∷ says.front;
  line = says.line;
  rest = says.rest;
  cut = ap (λ l. line ∷ l) says.cut;
  number_is = says.number_is;
  held = says.held;
  reads = run-step limit from next (part_of line) (parts_of says.front) is ∙ says.reads;
  wrong = says.wrong;
}

says-on : (limit : ℕ) (from : ReadingState) (line : LogicalLine) (lines : List LogicalLine) (first : Option ReadingState)
    → step limit from (part_of line) ≡ first
    → ((next : ReadingState) → ReadSays limit next lines (read_on limit next lines))
    → ReadSays limit from (line ∷ lines) (go_on_from (λ next. read_on limit next lines) line.line first)
says-on limit from line lines None is each = record {
  front = [];
  line = line;
  rest = lines;
  cut = refl;
  number_is = refl;
  held =
      from;
  reads = run-nil limit from;
  wrong = is;
}
says-on limit from line lines (Some next) is each = says-after limit from next line lines (read_on limit next lines) is (each next)

pub read-says : (limit : ℕ) (lines : List LogicalLine) (from : ReadingState) → ReadSays limit from lines (read_on limit from lines)
unfolding read_on
read-says limit [] from = run-nil limit from
read-says limit (line ∷ lines) from = says-on limit from line lines (step limit from (part_of line)) refl (read-says limit lines)

-- lines whose parts are those of two runs are two runs of lines
record IsCut (lines : List LogicalLine) (front back : List Part) : Type 0 where
  pub first : List LogicalLine
  pub second : List LogicalLine
  pub whole : lines ≡ first ++ second
  pub first_parts : parts_of first ≡ front
  pub second_parts : parts_of second ≡ back

cut-parts : (front back : List Part) (lines : List LogicalLine) → parts_of lines ≡ front ++ back → IsCut lines front back
cut-parts [] back lines is = record { first = []; second = lines; whole = refl; first_parts = refl; second_parts = is }
cut-parts (part ∷ front) back [] is = absurd (let no : [] ≡ part ∷ (front ++ back) = is in cc)
cut-parts (part ∷ front) back (line ∷ lines) is =
    let same : part_of line ≡ part = cc in
    let later = cut-parts front back lines (let rest : parts_of lines ≡ front ++ back = cc in rest) in
    record {
      first = line ∷ later.first;
      second = later.second;
      whole = ap (λ l. line ∷ l) later.whole;
      first_parts = ap (λ l. part_of line ∷ l) later.first_parts ∙ ap (λ p. p ∷ front) same;
      second_parts = later.second_parts;
    }

record IsCutAt (lines : List LogicalLine) (front : List Part) (part : Part) (back : List Part) : Type 0 where
  pub first : List LogicalLine
  pub line : LogicalLine
  pub rest : List LogicalLine
  pub whole : lines ≡ first ++ line ∷ rest
  pub line_part : part_of line ≡ part
  pub rest_parts : parts_of rest ≡ back

cut-next : (lines first second : List LogicalLine) (front : List Part) (part : Part) (back : List Part) → lines ≡ first ++ second
    → parts_of second ≡ part ∷ back
    → IsCutAt lines front part back
cut-next lines first [] front part back whole' is = absurd (let no : [] ≡ part ∷ back = is in cc)
cut-next lines first (line ∷ rest) front part back whole' is = record {
  first = first;
  line = line;
  rest = rest;
  whole =
      whole';
  line_part = cc;
  rest_parts = cc;
}

cut-at : (front : List Part) (part : Part) (back : List Part) (lines : List LogicalLine) → parts_of lines ≡ front ++ part ∷ back
    → IsCutAt lines front part back
cut-at front part back lines is =
    let both = cut-parts front (part ∷ back) lines is in
    cut-next lines both.first both.second front part back both.whole both.second_parts

-- the first part of an open block keeps its first line
record IsBegun (head : LogicalLine) (stage : Stage) : Type 0 where
  pub first : Part
  pub more : List Part
  pub parts : stage_parts head stage ≡ first ∷ more
  pub keeps : (other : LogicalLine) → kept other first ≡ head

begun : (head : LogicalLine) (stage : Stage) → IsBegun head stage
begun head InIf = record { first = IfPart head; more = []; parts = refl; keeps = λ other. refl }
begun head (InElif first later last) = record { first = IfPart head; more = _; parts = refl; keeps = λ other. refl }
begun head (InElse first later) = record { first = IfPart head; more = _; parts = refl; keeps = λ other. refl }
begun head InFor = record { first = ForPart head; more = []; parts = refl; keeps = λ other. refl }

-- an open block is unclosed
unclosed : (limit : ℕ) (lines : List LogicalLine) (block : Block) (innermost : Open) (stack : List Open)
    → run limit start_state (parts_of lines) ≡ Some (state_as block (innermost ∷ stack)) → IsUnclosed limit lines innermost.head.line
unclosed limit lines block innermost stack is =
    let has = state-of limit (parts_of lines) (state_as block (innermost ∷ stack)) is in
    let below = stack_parts stack ++ block_parts innermost.before in
    let stage = stage_parts innermost.head innermost.stage in
    let starts' = begun innermost.head innermost.stage in
    let back = starts'.more ++ block_parts block in
    let split : parts_of lines ≡ below ++ starts'.first ∷ back =
    sym has.made_of ∙ append_assoc below stage (block_parts block) ∙ ap (λ l. below ++ (l ++ block_parts block)) starts'.parts in
    let at = cut-at below starts'.first back lines split in
    let same : innermost.head ≡ at.line = sym (starts'.keeps at.line) ∙ ap (kept at.line) (sym at.line_part) ∙ kept-of at.line in
    let one = closes innermost.head innermost.stage block in
    let parts : tree_parts one.0 ≡ stage ++ block_parts block ++ closer innermost.stage ∷ [] =
    subst (EffectParts innermost.head innermost.stage block (closer innermost.stage)) one.1
    (parts-part_effect innermost.head innermost.stage block (closer innermost.stage)) in
    let these : parts_of (at.line ∷ at.rest) ≡ stage ++ block_parts block =
    ap (λ p. p ∷ parts_of at.rest) at.line_part ∙ ap (λ l. starts'.first ∷ l) at.rest_parts
    ∙ ap (λ l. l ++ block_parts block) (sym starts'.parts) in
    record {
      front = at.first;
      line = at.line;
      rest = at.rest;
      cut = at.whole;
      number_is = ap (λ l. l.line) same;
      goes_on = can-go-on limit (parts_of lines) (state_as block (innermost ∷ stack)) is;
      last = closer innermost.stage;
      tree = one.0;
      closed = parts ∙ ap (λ l. l ++ closer innermost.stage ∷ []) (sym these);
    }

reads-closed : (limit : ℕ) (lines : List LogicalLine) (block : Block) (stack : List Open)
    → run limit start_state (parts_of lines) ≡ Some (state_as block stack) → Reads limit lines (whole_block block stack)
reads-closed limit lines block [] is = whole limit (parts_of lines) block is
reads-closed limit lines block (innermost ∷ stack) is = inr (unclosed limit lines block innermost stack is)

some-none : {A : Type 0} (x : A) → Some x ≡ None → ⊥
some-none x is = cc

reads-finished : (limit : ℕ) (lines : List LogicalLine) (result : Result ReadingState ℕ) → ReadSays limit start_state lines result
    → Reads limit lines (whole_reading result)
reads-finished limit lines (Ok held) says = reads-closed limit lines held.current held.stack says
reads-finished limit lines (Err number) says = inl (record {
  front = says.front;
  line = says.line;
  rest = says.rest;
  cut = says.cut;
  number_is = says.number_is;
  goes_on = can-go-on limit (parts_of says.front) says.held says.reads;
  wrong = λ can.
      let all = goes limit (parts_of says.front ++ part_of says.line ∷ []) can in
      some-none all.0 (sym all.1 ∙ run-more limit (parts_of says.front) (part_of says.line) says.held says.reads
      ∙ ap (option_and_then (λ n. run limit n [])) says.wrong);
})

pub blocks-read : (limit : ℕ) (lines : List LogicalLine) → Reads limit lines (blocks_of limit lines)
blocks-read limit lines = reads-finished limit lines (read_on limit start_state lines) (read-says limit lines start_state)
