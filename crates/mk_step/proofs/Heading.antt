-- Each thing that a machine does leaves less that may follow.
use Rattle.std.proofs.Common.{◌≡◌, ◌≤◌, ◌<◌, ◌+◌, ◌⊎◌, ℕ, suc, zero, nat_lt, Bool, true, false, List, [], ◌∷◌, ◌++◌, Option, Some, None}
use Rattle.std.proofs.Common.{Result, Ok, Err, if◌then◌else◌, refl, sym, ap, subst, arith, inl, inr}
use Rattle.std.proofs.lemmas.Bool.Decides.{nat_tests}
use Rattle.std.specs.FinMap.{get}
use Rattle.mk_base.specs.declared.faults.FaultKind.{FaultKind}
use Rattle.mk_base.specs.declared.faults.FaultKind.TheVariants as kinds
use Rattle.mk_base.specs.declared.budget.TheConstants.{QUESTIONS}
use Rattle.mk_base.specs.FaultAt.{FaultAt}
use Rattle.mk_base.specs.Meter.{IsLater}
use Rattle.mk_base.specs.Outcome.{Work, give, after, tell, ◌>>=◌}
use Rattle.mk_text.specs.Lines.{LogicalLine}
use Rattle.mk_ast.specs.declared.parser.ParseFault.{ParseFault}
use Rattle.mk_ast.specs.Trees.{Tree, LineTree, ChoiceTree, LoopTree, Block, EmptyBlock, MoreBlock, Branches, NoBranches, ElifBranch}
use Rattle.mk_ast.specs.Trees.{ElseBranch}
use Rattle.mk_ast.specs.Parser.{parsed}
use Rattle.mk_loop.specs.LoopWords.{LoopWords}
use Rattle.mk_paths.specs.FileName.{resolved}
use Rattle.mk_paths.specs.declared.file_name.NameFault.{NameFault}
use Rattle.mk_paths.specs.World.{FileMap}
use Rattle.mk_files.specs.Questions.{Account, beside, quietly, look_read}
use Rattle.mk_eval.specs.declared.state.EvalState.{EvalState}
use Rattle.mk_eval.specs.Lines.{inside_iteration}
use Rattle.mk_eval.specs.Includes.{Place, File, Opened, found, open_named, open_if_there}
use Rattle.mk_eval.specs.Modules.{asks_modules, module_words, module_file, names_in_trees, opened_or, open_first, open_module}
use Rattle.mk_eval.specs.Meaning.{at, blamed, blamed_at, open_line}
use Rattle.mk_step.specs.Machine.{Site, Frame, Lines, Later, Iterations, Modules, Searches, StateAndFrames, place_at, works_in}
use Rattle.mk_step.specs.Machine.{numbered_line, read_lines, file_lines, opened_lines, before, modules_at, do_tree, found_or, next_module}
use Rattle.mk_step.specs.Machine.{advance}
use Rattle.mk_step.specs.Costs.{Costs, frame_weight, weight, may_follow}
use Rattle.mk_step.proofs.Spending.{Grows, Spends, grows-advance}

-- questions were asked between two accounts, and if a file was found, at least one
abbrev HasAsked : Account → Account → Option File → Type 0
HasAsked a a' None = a.meter.questions ≤ a'.meter.questions
HasAsked a a' (Some file) = (a.meter.questions < QUESTIONS) × (a.meter.questions < a'.meter.questions)

abbrev AsksFirst : {F : Type 0} → Account → Result (Opened × Account) (F × Account) → Type 0
AsksFirst a (Ok end) = HasAsked a end.1 end.0.1
AsksFirst a (Err end) = Unit {0}

-- what a question does, by whether one more may be asked
abbrev put_question : Bool → Account → Result (Unit {0} × Account) (FaultKind × Account)
put_question more a = beside a.log (if more then Ok (tt, record a.meter { questions = a.meter.questions + 1 }) else Err
    (kinds.Questions, a.meter))

by-content : (a a' : Account) (state : EvalState) (name : List ℕ) (content : Option (List ℕ)) → a.meter.questions < QUESTIONS
    → a.meter.questions < a'.meter.questions → AsksFirst a (found state true name content a')
by-content a a' state name None room more = omega (arith, more)
by-content a a' state name (Some bytes) room more = (room, more)

by-question : (files : FileMap) (a : Account) (state : EvalState) (name : List ℕ) (more : Bool) → nat_lt a.meter.questions QUESTIONS ≡ more
    → AsksFirst a (after (after (put_question more a) (λ _. look_read files name)) (found state true name))
by-question files a state name true is =
    let room : a.meter.questions < QUESTIONS = grind (arith, nat_tests) in by-content a _ state name (get files name) room (omega arith)
by-question files a state name false is = tt

asks-named : (files : FileMap) (a : Account) (state : EvalState) (name : List ℕ) → AsksFirst a (open_named files state true name a)
asks-named files a state name = by-question files a state name (nat_lt a.meter.questions QUESTIONS) refl

by-levels : (place : Place) (a : Account) (state : EvalState) (name : List ℕ) (levels : ℕ) → place.levels ≡ levels
    → AsksFirst a (open_if_there (record place { levels = levels }) state (Ok name) a)
by-levels place a state name zero is = tt
by-levels place a state name (suc levels) is = asks-named place.files a state name

asks-if_there : (place : Place) (a : Account) (state : EvalState) (name : Result (List ℕ) NameFault)
    → AsksFirst a (open_if_there place state name a)
asks-if_there place a state (Err fault) = omega arith
asks-if_there place a state (Ok name) = by-levels place a state name place.levels refl

-- after questions that found nothing
later-asked : {F : Type 0} (a b : Account) (r : Result (Opened × Account) (F × Account)) → a.meter.questions ≤ b.meter.questions
    → AsksFirst b r → AsksFirst a r
later-asked a b (Ok ((s, None), end)) low asks = omega (arith, low, asks)
later-asked a b (Ok ((s, Some file), end)) low asks = (omega (arith, low, asks.0), omega (arith, low, asks.1))
later-asked a b (Err end) low asks = tt

asks-or : (a : Account) (r : Result (Opened × Account) (FaultKind × Account)) (others : EvalState → Work Account FaultKind Opened)
    → AsksFirst a r
    → ((s : EvalState) (b : Account) → AsksFirst b (others s b)) → AsksFirst a (after r (opened_or others))
asks-or a (Ok ((s, None), b)) others asks more = later-asked a b (others s b) asks (more s b)
asks-or a (Ok ((s, Some file), b)) others asks more = asks
asks-or a (Err end) others asks more = tt

asks-first : (place : Place) (names : List (List ℕ)) (state : EvalState) (a : Account) → AsksFirst a (open_first place names state a)
asks-first place [] state a = omega arith
asks-first place (name ∷ names) state a =
    asks-or a (open_if_there place state (resolved name) a) (open_first place names) (asks-if_there place a state (resolved name))
    (asks-first place names)

asks-told : {F G : Type 0} (f : F → G) (a : Account) (r : Result (Opened × Account) (F × Account)) → AsksFirst a r → AsksFirst a (tell f r)
asks-told f a (Ok end) asks = asks
asks-told f a (Err end) asks = tt

asks-module : (place : Place) (line : ℕ) (state : EvalState) (word : List ℕ) (a : Account)
    → AsksFirst a (blamed place line (open_module place state word) a)
asks-module place line state word a = asks-told (at place.file line) a (open_module place state word a)
    (asks-first place (names_in_trees state.path (module_file word)) state a)

-- the search of the next module: if there is none, no words are left
abbrev HasSearched : Account → Account → Option File → List (List ℕ) → Type 0
HasSearched a a' None words = (words ≡ []) × (a.meter.questions ≤ a'.meter.questions)
HasSearched a a' (Some file) words = (a.meter.questions < QUESTIONS) × (a.meter.questions < a'.meter.questions)

abbrev Searched : Account → Result ((Opened × List (List ℕ)) × Account) (FaultAt × Account) → Type 0
Searched a (Ok end) = HasSearched a end.1 end.0.0.1 end.0.1
Searched a (Err end) = Unit {0}

later-searched : (a b : Account) (r : Result ((Opened × List (List ℕ)) × Account) (FaultAt × Account))
    → a.meter.questions ≤ b.meter.questions → Searched b r → Searched a r
later-searched a b (Ok (((s, None), words), end)) low searched = (searched.0, omega (arith, low, searched.1))
later-searched a b (Ok (((s, Some file), words), end)) low searched = (omega (arith, low, searched.0), omega (arith, low, searched.1))
later-searched a b (Err end) low searched = tt

searched-or : (a : Account) (words : List (List ℕ)) (r : Result (Opened × Account) (FaultAt × Account)) (others : EvalState
    → Work Account FaultAt (Opened × List (List ℕ))) → AsksFirst a r
    → ((s : EvalState) (b : Account) → Searched b (others s b)) → Searched a (after r (found_or words others))
searched-or a words (Ok ((s, None), b)) others asks more = later-searched a b (others s b) asks (more s b)
searched-or a words (Ok ((s, Some file), b)) others asks more = asks
searched-or a words (Err end) others asks more = tt

searches : (place : Place) (line : ℕ) (words : List (List ℕ)) (s : EvalState) (a : Account) → Searched a (next_module place line words s a)
searches place line [] s a = (refl, omega arith)
searches place line (word ∷ words) s a =
    searched-or a words (blamed place line (open_module place s word) a) (next_module place line words) (asks-module place line s word a)
    (searches place line words)

-- weights of what a thing leaves
weight-append : (first second : List Frame) → weight (first ++ second) ≡ weight first + weight second
weight-append [] second = omega arith
weight-append (frame ∷ first) second = let rest = weight-append first second in omega (arith, rest)

abbrev WeighsAtMost : {F : Type 0} → ℕ → Result (StateAndFrames × Account) (F × Account) → Type 0
WeighsAtMost most (Ok end) = weight end.0.1 ≤ most
WeighsAtMost most (Err end) = Unit {0}

-- the lines of a file weigh nothing, and no account changes when a file is read
record LeavesLines (a : Account) (frames : List Frame) (r : Result ((EvalState × Option Frame) × Account) (FaultAt × Account)) : Type 0
  where
    pub weighs : WeighsAtMost (weight frames) (after r (λ done. give (done.0, before done.1 frames)))
    pub same : (end : (EvalState × Option Frame) × Account) → r ≡ Ok end → end.1 ≡ a

abbrev account_in : Account → Result ((EvalState × Option Frame) × Account) (FaultAt × Account) → Account
account_in default (Ok end) = end.1
account_in default (Err end) = default

leaves-read : (file : List ℕ) (levels : ℕ) (block : Result Block ParseFault) (s : EvalState) (a : Account) (frames : List Frame)
    → LeavesLines a frames (read_lines file levels block s a)
leaves-read file levels (Ok block) s a frames = record { weighs = omega arith; same = λ end is. sym (ap (account_in a) is) }
leaves-read file levels (Err fault) s a frames = record { weighs = tt; same = λ end is. cc }

leaves-file : (levels : ℕ) (file : File) (s : EvalState) (a : Account) (frames : List Frame)
    → LeavesLines a frames (file_lines levels file s a)
leaves-file zero file s a frames = record { weighs = omega arith; same = λ end is. sym (ap (account_in a) is) }
leaves-file (suc levels) file s a frames = leaves-read file.0 levels (parsed file.1) s a frames

leaves-opened : (levels : ℕ) (opened : Opened) (a : Account) (frames : List Frame) → LeavesLines a frames (opened_lines levels opened a)
leaves-opened levels (s, None) a frames = record { weighs = omega arith; same = λ end is. sym (ap (account_in a) is) }
leaves-opened levels (s, Some file) a frames = leaves-file levels file s a frames

weighs-modules : (site : Site) (line : ℕ) (asked : Bool) → weight (modules_at site line asked) ≤ 2
weighs-modules site line true = omega arith
weighs-modules site line false = omega arith

weighs-less : {F : Type 0} (low high : ℕ) (r : Result (StateAndFrames × Account) (F × Account)) → low ≤ high
    → WeighsAtMost low r → WeighsAtMost high r
weighs-less low high (Ok end) within weighs = omega (arith, within, weighs)
weighs-less low high (Err end) within weighs = tt

module _ (files : FileMap) (makefile : List ℕ) (site : Site) where
  line-by : (line : LogicalLine) (s : EvalState) (r : Result (Opened × Account) (FaultAt × Account))
      → WeighsAtMost 2 (after r (λ opened. opened_lines site.levels opened >>= λ done. give
      (done.0, before done.1 (modules_at site line.line (asks_modules s opened.0)))))
  line-by line s (Ok (opened, a)) =
      let modules = modules_at site line.line (asks_modules s opened.0) in
      weighs-less (weight modules) 2 _ (weighs-modules site line.line (asks_modules s opened.0))
      (leaves-opened site.levels opened a modules).weighs
  line-by line s (Err end) = tt

  choice-by : (first : Block) (later : Branches) (s : EvalState) (r : Result (Bool × Account) (FaultAt × Account))
      → WeighsAtMost 2 (after r (λ held. give (s, (if held then Lines site first else Later site later) ∷ [])))
  choice-by first later s (Ok (true, a)) = omega arith
  choice-by first later s (Ok (false, a)) = omega arith
  choice-by first later s (Err end) = tt

  loop-by : (line : LogicalLine) (body : Block) (s : EvalState) (r : Result (List LoopWords × Account) (FaultAt × Account))
      → WeighsAtMost 2 (after r (λ iterations. give (s, Iterations site line.line body iterations ∷ [])))
  loop-by line body s (Ok (iterations, a)) = omega arith
  loop-by line body s (Err end) = tt

  weighs-tree : (tree : Tree) (s : EvalState) (a : Account) → WeighsAtMost 2 (do_tree files makefile site tree s a)
  weighs-tree (LineTree line) s a =
      line-by line s (blamed_at (place_at files makefile site) line (open_line (place_at files makefile site) site.loops line s) a)
  weighs-tree (ChoiceTree line first later) s a = choice-by first later s ((works_in files makefile site).holds site.loops line s a)
  weighs-tree (LoopTree line body) s a = loop-by line body s ((works_in files makefile site).iterations site.loops line s a)

  module _ (frames : List Frame) where
    block-by : (block : Block) (r : Result (StateAndFrames × Account) (FaultAt × Account)) → WeighsAtMost 2 r
        → WeighsAtMost (2 + weight frames) (after r (λ done. give (done.0, done.1 ++ Lines site block ∷ frames)))
    block-by block (Ok (left, a)) weighs = let all = weight-append left.1 (Lines site block ∷ frames) in omega (arith, all, weighs)
    block-by block (Err end) weighs = tt

    branch-by : (block : Block) (more : Branches) (s : EvalState) (r : Result (Bool × Account) (FaultAt × Account))
        → WeighsAtMost (2 + weight frames) (after r (λ held. give (s, (if held then Lines site block else Later site more) ∷ frames)))
    branch-by block more s (Ok (true, a)) = omega arith
    branch-by block more s (Ok (false, a)) = omega arith
    branch-by block more s (Err end) = tt

    iteration-by : (site' : Site) (line : ℕ) (body : Block) (iterations : List LoopWords) (s : EvalState)
        (r : Result (Unit {0} × Account) (FaultAt × Account))
        → WeighsAtMost (2 + weight frames) (after r (λ _. give (s, Lines site' body ∷ Iterations site line body iterations ∷ frames)))
    iteration-by site' line body iterations s (Ok (done, a)) = omega arith
    iteration-by site' line body iterations s (Err end) = tt

-- Something was spent, and little is to be done about modules; or something was asked, and no more is; or less is.
abbrev Heads : Account → List Frame → Result (StateAndFrames × Account) (FaultAt × Account) → Type 0
Heads a old (Ok (next, a')) =
    ((a.meter.spent < a'.meter.spent) × (weight next.1 ≤ 2 + weight old))
    ⊎ ((((a.meter.questions < QUESTIONS) × (a.meter.questions < a'.meter.questions)) × (weight next.1 ≤ weight old))
    ⊎ (weight next.1 < weight old))
Heads a old (Err end) = Unit {0}

of-spends : (a : Account) (old : List Frame) (work : Work Account FaultAt StateAndFrames) → Grows work → (most : ℕ) → most ≤ 2 + weight old
    → (r : Result (StateAndFrames × Account) (FaultAt × Account)) → work a ≡ r → WeighsAtMost most r → Heads a old r
of-spends a old work grows most low (Ok (next, a')) is weighs = inl (grows.grows a a' next is, omega (arith, low, weighs))
of-spends a old work grows most low (Err end) is weighs = tt

searches-weigh : (site : Site) (line : ℕ) (words : List (List ℕ)) → frame_weight (Searches site line words) ≤ 1
searches-weigh site line [] = omega arith
searches-weigh site line (word ∷ words) = omega arith

words-by : (a : Account) (site : Site) (line : ℕ) (frames : List Frame) (s : EvalState)
    (r : Result (List (List ℕ) × Account) (FaultAt × Account))
    → Heads a (Modules site line ∷ frames) (after r (λ words. give (s, Searches site line words ∷ frames)))
words-by a site line frames s (Ok (words, a')) = let few = searches-weigh site line words in inr (inr (omega (arith, few)))
words-by a site line frames s (Err end) = tt

module _ (a : Account) (site : Site) (line : ℕ) (word : List ℕ) (left : List (List ℕ)) (frames : List Frame) where
  abbrev old : List Frame
  old = Searches site line (word ∷ left) ∷ frames

  file-by : (b : Account) (words : List (List ℕ)) → a.meter.questions < QUESTIONS → a.meter.questions < b.meter.questions
      → (r : Result ((EvalState × Option Frame) × Account) (FaultAt × Account)) → LeavesLines b (Searches site line words ∷ frames) r
      → Heads a old (after r (λ done. give (done.0, before done.1 (Searches site line words ∷ frames))))
  file-by b words room more (Ok (done, c)) leaves =
      let same : b.meter.questions ≡ c.meter.questions = ap (λ (a : Account). a.meter.questions) (sym (leaves.same (done, c) refl)) in
      let few = searches-weigh site line words in
      inr (inl ((room, omega (arith, more, same)), omega (arith, leaves.weighs, few)))
  file-by b words room more (Err end) leaves = tt

  found-by : (r : Result ((Opened × List (List ℕ)) × Account) (FaultAt × Account)) → Searched a r
      → Heads a old (after r (λ found. opened_lines site.levels found.0 >>= λ done. give
      (done.0, before done.1 (Searches site line found.1 ∷ frames))))
  found-by (Ok (((s, None), words), b)) searched =
      let none : frame_weight (Searches site line words) ≡ 0 = ap (λ words. frame_weight (Searches site line words)) searched.0 in
      inr (inr (omega (arith, none)))
  found-by (Ok (((s, Some file), words), b)) searched =
      file-by b words searched.0 searched.1 (file_lines site.levels file s b)
      (leaves-file site.levels file s b (Searches site line words ∷ frames))
  found-by (Err end) searched = tt

module _ (files : FileMap) (makefile : List ℕ) (frames : List Frame) (s : EvalState) (a : Account) where
  spending : (frame : Frame) → Spends frame → (most : ℕ) → most ≤ 2 + weight (frame ∷ frames)
      → WeighsAtMost most (advance files makefile frame frames s a) → Heads a (frame ∷ frames) (advance files makefile frame frames s a)
  spending frame costs most low weighs =
      of-spends a (frame ∷ frames) (advance files makefile frame frames s) (grows-advance files makefile frame frames s costs) most low
      (advance files makefile frame frames s a) refl weighs

  heads : (frame : Frame) → Costs frame → Heads a (frame ∷ frames) (advance files makefile frame frames s a)
  heads (Lines site EmptyBlock) costs = absurd costs
  heads (Lines site (MoreBlock tree block)) costs =
      spending (Lines site (MoreBlock tree block)) costs (2 + weight frames) (omega arith)
      (block-by files makefile site frames block (do_tree files makefile site tree s a) (weighs-tree files makefile site tree s a))
  heads (Later site NoBranches) costs = absurd costs
  heads (Later site (ElifBranch line block more)) costs =
      spending (Later site (ElifBranch line block more)) tt (2 + weight frames) (omega arith)
      (branch-by files makefile site frames block more s ((works_in files makefile site).holds site.loops line s a))
  heads (Later site (ElseBranch block)) costs = absurd costs
  heads (Iterations site line body []) costs = absurd costs
  heads (Iterations site line body (iteration ∷ iterations)) costs =
      spending (Iterations site line body (iteration ∷ iterations)) tt (2 + weight frames) (omega arith)
      (iteration-by files makefile site frames (record site { loops = inside_iteration site.loops iteration }) line body iterations s
      ((works_in files makefile site).begins (numbered_line line) a))
  heads (Modules site line) costs = words-by a site line frames s
      (blamed (place_at files makefile site) line (quietly (module_words s.variables)) a)
  heads (Searches site line []) costs = absurd costs
  heads (Searches site line (word ∷ words)) costs =
      found-by a site line word words frames (next_module (place_at files makefile site) line (word ∷ words) s a)
      (searches (place_at files makefile site) line (word ∷ words) s a)

module _ (a a' : Account) (old : List Frame) (next : StateAndFrames) (later : IsLater a.meter a'.meter)
    (fits : a'.meter.spent ≤ a.meter.limit) where
  lessens : Heads a old (Ok (next, a')) → may_follow a'.meter next.1 < may_follow a.meter old
  lessens (inl spends) = omega (arith, later.limit, later.questions, fits, spends.0, spends.1)
  lessens (inr (inl asks)) = omega (arith, later.limit, later.spent, fits, asks.0.0, asks.0.1, asks.1)
  lessens (inr (inr less)) = omega (arith, later.limit, later.spent, later.questions, fits, less)

-- what may follow the next thing that a frame does is less than what might follow before it
pub leaves-less : (files : FileMap) (makefile : List ℕ) (frame : Frame) (frames : List Frame) (s : EvalState) (a a' : Account)
    (next : StateAndFrames) → Costs frame
    → advance files makefile frame frames s a ≡ Ok (next, a') → IsLater a.meter a'.meter → a'.meter.spent ≤ a.meter.limit
    → may_follow a'.meter next.1 < may_follow a.meter (frame ∷ frames)
leaves-less files makefile frame frames s a a' next costs is later fits =
    lessens a a' (frame ∷ frames) next later fits (subst (Heads a (frame ∷ frames)) is (heads files makefile frames s a frame costs))
