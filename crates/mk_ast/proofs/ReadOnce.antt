-- Lines have no reading but the one in one pass.
use Rattle.std.proofs.Common.{◌≡◌, ◌+◌, ◌<◌, ◌≤◌, inl, inr, ℕ, Bool, true, false, nat_lt, cond, List, [], ◌∷◌, ◌++◌, length, Option, Some}
use Rattle.std.proofs.Common.{None, Result, Ok, Err, refl, sym, ap, ◌∙◌, append-nil, arith}
use Rattle.std.specs.Option.{option_and_then}
use Rattle.std.proofs.lemmas.Option.{option_and_then_some}
use Rattle.std.proofs.lemmas.Bool.{ltb-true, cond_below}
use Rattle.std.proofs.lemmas.List.{map-append}
use Rattle.mk_text.specs.Lines.{LogicalLine}
use Rattle.mk_ast.specs.Parts.{Part, IfPart, ElifPart, ElsePart, EndifPart, ForPart, EndforPart, PlainPart, part_of}
use Rattle.mk_ast.specs.Trees.{Tree, LineTree, Block, EmptyBlock, MoreBlock, tree_parts, block_parts, tree_depth, block_depth, IsReadAs}
use Rattle.mk_ast.specs.Reader.{parts_of, IsOutOfPlace, IsUnclosed, Reads}
use Rattle.mk_ast.specs.Blocks.{add, Stage, InIf, InFor, Open, ReadingState, PartEffect, GoesOn, Ends, Wrong, part_effect, apply_effect}
use Rattle.mk_ast.specs.Blocks.{go_on, begin, step, go_on_from, read_on, whole_block, whole_reading, start_state, blocks_of}
use Rattle.mk_ast.proofs.KeptLines.{kept, kept-of, tree_head, first_part, kept-tree}
use Rattle.mk_ast.proofs.Effects.{of-effect}
use Rattle.mk_ast.proofs.PartRuns.{run, run-nil, run-cons, run-step, run-append, state_as, open_as, run-tree}
use Rattle.mk_ast.proofs.ReadLaws.{read-run, goes, can-go-on, run-more}

-- lines whose parts can all be read are read so
on-reads : (limit : ℕ) (lines : List LogicalLine) (number : ℕ) (held : ReadingState) (first : Option ReadingState)
    → option_and_then (λ n. run limit n (parts_of lines)) first ≡ Some held
    → ((next : ReadingState) → run limit next (parts_of lines) ≡ Some held → read_on limit next lines ≡ Ok held)
    → go_on_from (λ next. read_on limit next lines) number first ≡ Ok held
on-reads limit lines number held None is each = absurd (let no : None ≡ Some held = is in cc)
on-reads limit lines number held (Some next) is each = each next is

run-reads : (limit : ℕ) (lines : List LogicalLine) (from held : ReadingState) → run limit from (parts_of lines) ≡ Some held
    → read_on limit from lines ≡ Ok held
unfolding read_on
run-reads limit [] from held is = let same : Some from ≡ Some held = sym (run-nil limit from) ∙ is in let e : from ≡ held = cc in ap Ok e
run-reads limit (line ∷ lines) from held is =
    on-reads limit lines line.line held (step limit from (part_of line)) (sym (run-cons limit from (part_of line) (parts_of lines)) ∙ is)
    (λ next. run-reads limit lines next held)

-- lines are read up to the first that is in a wrong place
on-stops : (limit : ℕ) (front : List LogicalLine) (line : LogicalLine) (rest : List LogicalLine) (number : ℕ) (held : ReadingState)
    (first : Option ReadingState)
    → option_and_then (λ n. run limit n (parts_of front)) first ≡ Some held
    → ((next : ReadingState) → run limit next (parts_of front) ≡ Some held → read_on limit next (front ++ line ∷ rest) ≡ Err line.line)
    → go_on_from (λ next. read_on limit next (front ++ line ∷ rest)) number first ≡ Err line.line
on-stops limit front line rest number held None is each = absurd (let no : None ≡ Some held = is in cc)
on-stops limit front line rest number held (Some next) is each = each next is

run-stops : (limit : ℕ) (front : List LogicalLine) (line : LogicalLine) (rest : List LogicalLine) (from held : ReadingState)
    → run limit from (parts_of front) ≡ Some held → step limit held (part_of line) ≡ None
    → read_on limit from (front ++ line ∷ rest) ≡ Err line.line
unfolding read_on
run-stops limit [] line rest from held is wrong =
    let same : Some from ≡ Some held = sym (run-nil limit from) ∙ is in
    let e : from ≡ held = cc in
    ap (λ h. go_on_from (λ next. read_on limit next rest) line.line (step limit h (part_of line))) e
    ∙ ap (go_on_from (λ next. read_on limit next rest) line.line) wrong
run-stops limit (first ∷ front) line rest from held is wrong =
    on-stops limit front line rest first.line held (step limit from (part_of first))
    (sym (run-cons limit from (part_of first) (parts_of front)) ∙ is)
    (λ next reads. run-stops limit front line rest next held reads wrong)

-- a higher limit refuses no more
begin-more : (limit more : ℕ) (held next : ReadingState) (line : LogicalLine) (stage : Stage) → limit ≤ more
    → begin limit held line stage ≡ Some next → begin more held line stage ≡ Some next
begin-more limit more held next line stage above is =
    let opened : ReadingState = state_as EmptyBlock (open_as held.current line stage ∷ held.stack) in
    let cases : (b : Bool) → nat_lt (length held.stack) limit ≡ b → cond b (Some opened) None ≡ Some next
    → begin more held line stage ≡ Some next =
    λ b. elim b as (λ b. nat_lt (length held.stack) limit ≡ b → cond b (Some opened) None ≡ Some next
    → begin more held line stage ≡ Some next) [
      | true ↦ λ room same.
          let below : length held.stack < limit = ltb-true (length held.stack) limit room in
          let near : length held.stack < more = omega arith in
          sym (cond_below (length held.stack) more (Some opened) None near) ∙ same
      | false ↦ λ room same. absurd (let no : None ≡ Some next = same in cc)
    ] in
    cases (nat_lt (length held.stack) limit) refl is

step-more : (limit more : ℕ) (held next : ReadingState) (part : Part) → limit ≤ more → step limit held part ≡ Some next
    → step more held part ≡ Some next
unfolding step
step-more limit more held next (PlainPart line) above is = is
step-more limit more held next (IfPart line) above is = begin-more limit more held next line InIf above is
step-more limit more held next (ForPart line) above is = begin-more limit more held next line InFor above is
step-more limit more held next (ElifPart line) above is = is
step-more limit more held next ElsePart above is = is
step-more limit more held next EndifPart above is = is
step-more limit more held next EndforPart above is = is

higher : (limit more : ℕ) (parts : List Part) (from held : ReadingState) → limit ≤ more → run limit from parts ≡ Some held
    → run more from parts ≡ Some held
higher limit more [] from held above is = run-nil more from ∙ sym (run-nil limit from) ∙ is
higher limit more (part ∷ parts) from held above is =
    option_and_then_some {P = run more from (part ∷ parts) ≡ Some held} (λ n. run limit n parts) (step limit from part) held
    (sym (run-cons limit from part parts) ∙ is)
    (λ next first rest. run-step more from next part parts (step-more limit more from next part above first)
    ∙ higher limit more parts next held above rest)

-- the last of a block
last_of : Tree → Block → Tree
last_of other EmptyBlock = other
last_of other (MoreBlock tree block) = last_of tree block

last-add : (other : Tree) (block : Block) (tree : Tree) → last_of other (add block tree) ≡ tree
unfolding last_of
last-add other EmptyBlock tree = refl
last-add other (MoreBlock first block) tree = last-add first block tree

same-last : (one other : Block) (tree last : Tree) → add one tree ≡ add other last → tree ≡ last
same-last one other tree last is = sym (last-add tree one tree) ∙ ap (last_of tree) is ∙ last-add tree other last

never-empty : (block : Block) (tree : Tree) → EmptyBlock ≡ add block tree → ⊥
never-empty EmptyBlock tree is = cc
never-empty (MoreBlock first block) tree is = cc

-- the tree of a block that ends begins with the block's first line
abbrev EffectHead : LogicalLine → PartEffect → Type 0
EffectHead head (GoesOn next) = Unit {0}
EffectHead head (Ends tree) = tree_head tree ≡ head
EffectHead head Wrong = Unit {0}

head-part_effect : (head : LogicalLine) (stage : Stage) (block : Block) (part : Part) → EffectHead head (part_effect head stage block part)
head-part_effect = of-effect (λ head stage block part. EffectHead head) (record {
  if_elif = λ head block line. tt;
  if_else = λ head block. tt;
  if_endif = λ head block. refl;
  elif_elif = λ head first later last block line. tt;
  elif_else = λ head first later last block. tt;
  elif_endif = λ head first later last block. refl;
  else_endif = λ head first later block. refl;
  for_endfor = λ head block. refl;
  wrong = λ head stage block part. tt;
})

-- Where one part more closes a tree after what is held, which isn't a line alone, the innermost open block is that tree's.
abbrev ClosesAt : LogicalLine → Block → List Open → Type 0
ClosesAt head block stack = whole_block block stack ≡ Err head.line

apply_effect-closes : (block before : Block) (innermost : Open) (stack below : List Open) (tree : Tree) (result : PartEffect)
    → EffectHead innermost.head result
    → apply_effect innermost stack result ≡ Some (state_as (add before tree) below) → ClosesAt (tree_head tree) block (innermost ∷ stack)
apply_effect-closes block before innermost stack below tree (GoesOn next) head is =
    absurd (never-empty before tree (let same : Some (state_as EmptyBlock (record innermost { stage = next } ∷ stack)) ≡ Some
    (state_as (add before tree) below) = is in
    let held : state_as EmptyBlock (record innermost { stage = next } ∷ stack) ≡ state_as (add before tree) below =
    cc in ap (λ h. h.current) held))
apply_effect-closes block before innermost stack below tree (Ends end) head is =
    let held : state_as (add innermost.before end) stack ≡ state_as (add before tree) below =
    let same : Some (state_as (add innermost.before end) stack) ≡ Some (state_as (add before tree) below) = is in cc in
    let trees : end ≡ tree = same-last innermost.before before end tree (ap (λ h. h.current) held) in
    ap (λ l. Err l.line) (sym head ∙ ap tree_head trees)
apply_effect-closes block before innermost stack below tree Wrong head is =
    absurd (let no : None ≡ Some (state_as (add before tree) below) = is in cc)

go_on-closes : (stack : List Open) (block before : Block) (below : List Open) (tree : Tree) (part : Part)
    → go_on stack block part ≡ Some (state_as (add before tree) below) → ClosesAt (tree_head tree) block stack
go_on-closes [] block before below tree part is = absurd (let no : None ≡ Some (state_as (add before tree) below) = is in cc)
go_on-closes (innermost ∷ stack) block before below tree part is =
    apply_effect-closes block before innermost stack below tree (part_effect innermost.head innermost.stage block part)
    (head-part_effect innermost.head innermost.stage block part) is

begin-closes : (limit : ℕ) (held : ReadingState) (line : LogicalLine) (stage : Stage) (before : Block) (below : List Open) (tree : Tree)
    → begin limit held line stage ≡ Some (state_as (add before tree) below) → ⊥
begin-closes limit held line stage before below tree is =
    let opened : ReadingState = state_as EmptyBlock (open_as held.current line stage ∷ held.stack) in
    let cases : (b : Bool) → cond b (Some opened) None ≡ Some (state_as (add before tree) below) → ⊥ =
    λ b. elim b as (λ b. cond b (Some opened) None ≡ Some (state_as (add before tree) below) → ⊥) [
      | true ↦ λ same. never-empty before tree (let held' : opened ≡ state_as (add before tree) below = cc in ap (λ h. h.current) held')
      | false ↦ λ same. (let no : None ≡ Some (state_as (add before tree) below) = same in cc)
    ] in
    cases (nat_lt (length held.stack) limit) is

two-parts : (part : Part) (first : Part) (parts : List Part) (last : Part) → part ∷ [] ≡ (first ∷ parts) ++ last ∷ [] → ⊥
two-parts part first [] last is = let no : [] ≡ last ∷ [] = cc in cc
two-parts part first (second ∷ parts) last is = let no : [] ≡ second ∷ (parts ++ last ∷ []) = cc in cc

step-closes : (limit : ℕ) (held : ReadingState) (last : Part) (before : Block) (below : List Open) (tree : Tree)
    (first : Part) (parts : List Part)
    → tree_parts tree ≡ (first ∷ parts) ++ last ∷ [] → step limit held last ≡ Some (state_as (add before tree) below)
    → ClosesAt (tree_head tree) held.current held.stack
unfolding step
step-closes limit held (PlainPart line) before below tree first parts these is =
    let next : state_as (add held.current (LineTree line)) held.stack ≡ state_as (add before tree) below =
    let same : Some (state_as (add held.current (LineTree line)) held.stack) ≡ Some (state_as (add before tree) below) = is in cc in
    let trees : LineTree line ≡ tree = same-last held.current before (LineTree line) tree (ap (λ h. h.current) next) in
    absurd (two-parts (PlainPart line) first parts (PlainPart line) (ap tree_parts trees ∙ these))
step-closes limit held (IfPart line) before below tree first parts these is =
    absurd (begin-closes limit held line InIf before below tree is)
step-closes limit held (ForPart line) before below tree first parts these is =
    absurd (begin-closes limit held line InFor before below tree is)
step-closes limit held (ElifPart line) before below tree first parts these is = go_on-closes held.stack held.current before
    below tree (ElifPart line) is
step-closes limit held ElsePart before below tree first parts these is = go_on-closes held.stack held.current before below tree ElsePart is
step-closes limit held EndifPart before below tree first parts these is = go_on-closes held.stack held.current
    before below tree EndifPart is
step-closes limit held EndforPart before below tree first parts these is = go_on-closes held.stack held.current before
    below tree EndforPart is

-- Each case of a reading is that of the one in one pass.
once-block : (limit : ℕ) (lines : List LogicalLine) (block : Block) → IsReadAs limit (parts_of lines) block
    → Ok block ≡ blocks_of limit lines
once-block limit lines block is =
    sym (ap whole_reading (run-reads limit lines start_state (state_as block []) (read-run limit (parts_of lines) block is)))

once-wrong : (limit : ℕ) (lines : List LogicalLine) (number : ℕ) → IsOutOfPlace limit lines number → Err number ≡ blocks_of limit lines
once-wrong limit lines number is =
    let reads = goes limit (parts_of is.front) is.goes_on in
    let cases : (next : Option ReadingState) → step limit reads.0 (part_of is.line) ≡ next → Err number ≡ blocks_of limit lines =
    λ next. elim next as (λ next. step limit reads.0 (part_of is.line) ≡ next → Err number ≡ blocks_of limit lines) [
      | None ↦ λ stops.
          ap Err is.number_is ∙ sym (ap whole_reading (run-stops limit is.front is.line is.rest start_state reads.0 reads.1 stops))
          ∙ ap (blocks_of limit) (sym is.cut)
      | Some held ↦ λ goes'.
          absurd (is.wrong (can-go-on limit (parts_of is.front ++ part_of is.line ∷ []) held
          (run-more limit (parts_of is.front) (part_of is.line) reads.0 reads.1 ∙ ap (option_and_then (λ n. run limit n []))
          goes' ∙ run-nil limit held)))
    ] in
    cases (step limit reads.0 (part_of is.line)) refl

once-unclosed : (limit : ℕ) (lines : List LogicalLine) (number : ℕ) → IsUnclosed limit lines number → Err number ≡ blocks_of limit lines
once-unclosed limit lines number is =
    let reads = goes limit (parts_of lines) is.goes_on in
    let front = parts_of is.front in
    let back = parts_of (is.line ∷ is.rest) in
    let parted : parts_of lines ≡ front ++ back = ap parts_of is.cut ∙ map-append part_of is.front (is.line ∷ is.rest) in
    option_and_then_some {P = Err number ≡ blocks_of limit lines} (λ n. run limit n back) (run limit start_state front) reads.0
    (sym (run-append limit front back start_state) ∙ ap (run limit start_state) (sym parted) ∙ reads.1)
    (λ held before behind.
    let more = limit + tree_depth is.tree + length held.stack in
    let fits : tree_depth is.tree + length held.stack ≤ more = omega arith in
    let above : limit ≤ more = omega arith in
    let ends = state_as (add held.current is.tree) held.stack in
    let all : run more held (back ++ is.last ∷ []) ≡ Some ends =
    ap (run more held) (sym is.closed ∙ sym (append-nil (tree_parts is.tree))) ∙ run-tree is.tree more held [] fits ∙ run-nil more ends in
    let last : option_and_then (λ n. run more n []) (step more reads.0 is.last) ≡ Some ends =
    sym (run-cons more reads.0 is.last [])
    ∙ sym (ap (option_and_then (λ n. run more n (is.last ∷ []))) (higher limit more back held reads.0 above behind))
    ∙ sym (run-append more back (is.last ∷ []) held) ∙ all in
    let closing : step more reads.0 is.last ≡ Some ends =
    option_and_then_some {P = step more reads.0 is.last ≡ Some ends} (λ n. run more n []) (step more reads.0 is.last) ends last
    (λ next one same. one ∙ sym (run-nil more next) ∙ same) in
    let head : tree_head is.tree ≡ is.line =
    sym (kept-tree is.line is.last is.tree) ∙ ap (λ l. kept is.line (first_part is.last l)) is.closed ∙ kept-of is.line in
    let at : whole_block reads.0.current reads.0.stack ≡ Err (tree_head is.tree).line =
    step-closes more reads.0 is.last held.current held.stack is.tree (part_of is.line) (parts_of is.rest) is.closed closing in
    ap Err is.number_is ∙ ap (λ l. Err l.line) (sym head) ∙ sym at
    ∙ sym (ap whole_reading (run-reads limit lines start_state reads.0 reads.1)))

pub read-once : (limit : ℕ) (lines : List LogicalLine) (result : Result Block ℕ) → Reads limit lines result → result ≡ blocks_of limit lines
read-once limit lines (Ok block) is = once-block limit lines block is
read-once limit lines (Err number) is = elim is [
  | inl wrong ↦ once-wrong limit lines number wrong
  | inr open' ↦ once-unclosed
      limit lines number open'
]

-- Two blocks with the same parts are one: a run over the parts leaves both.
pub parts-one : (one other : Block) → block_parts one ≡ block_parts other → one ≡ other
parts-one one other is =
    let limit = block_depth one + block_depth other in
    let first : IsReadAs limit (block_parts one) one = record { in_order = refl; not_deep = omega arith } in
    let second : IsReadAs limit (block_parts one) other = record { in_order = sym is; not_deep = omega arith } in
    let both : Some (state_as one []) ≡ Some (state_as other []) = sym (read-run limit (block_parts one) one first)
    ∙ read-run limit (block_parts one) other second in
    let held : state_as one [] ≡ state_as other [] = cc in
    ap (λ h. h.current) held
