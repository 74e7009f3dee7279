-- What the tree of a makefile means, given what its lines do (make(1), "CONDITIONALS" and "FOR LOOPS"). A
-- choice means the first branch whose condition holds, and a loop means its body, once for each iteration.
use Rattle.std.specs.Prelude.{Bool, if◌then◌else◌, List}
use Rattle.mk_base.specs.Outcome.{Work, give, each, ◌>>=◌}
use Rattle.mk_text.specs.Lines.{LogicalLine}
use Rattle.mk_ast.specs.Trees.{Tree, LineTree, ChoiceTree, LoopTree, Block, EmptyBlock, MoreBlock, Branches}
use Rattle.mk_ast.specs.Trees.{NoBranches, ElifBranch, ElseBranch}
use Rattle.mk_loop.specs.LoopWords.{LoopWords}
use Rattle.mk_eval.specs.Lines.{Loops, inside_iteration}

-- What lines do, within loops: what a line does that frames no block; whether the condition of a line holds;
-- the iterations of the loop that a line begins; and the start of one iteration.
pub record LineWorks (M F S : Type 0) : Type 0 where
  pub performs : Loops → LogicalLine → S → Work M F S
  pub holds : Loops → LogicalLine → S → Work M F Bool
  pub iterations : Loops → LogicalLine → S → Work M F (List LoopWords)
  pub begins : LogicalLine → Work M F (Unit {0})

-- an iteration of a loop: it begins, and then the body is executed within these loops
abbrev pub iteration_in : {M F S : Type 0} → Work M F (Unit {0}) → (Loops → S → Work M F S) → Loops → S → Work M F S
iteration_in begins body loops s = begins >>= λ _. body loops s

-- the same for the iteration with these words, of a loop that is in other loops
abbrev pub iteration_of : {M F S : Type 0} → Work M F (Unit {0}) → (Loops → S → Work M F S) → Loops → S → LoopWords → Work M F S
iteration_of begins body loops s iteration = iteration_in begins body (inside_iteration loops iteration) s

-- the first branch if its condition holds, and otherwise the others
abbrev pub chosen : {M F S : Type 0} → Work M F Bool → Work M F S → Work M F S → Work M F S
chosen holds first others = holds >>= λ held. if held then first else others

abbrev mutual
  pub execute_tree : {M F S : Type 0} → LineWorks M F S → Tree → Loops → S → Work M F S
  execute_tree works (LineTree line) loops s = works.performs loops line s
  execute_tree works (ChoiceTree line block branches) loops s =
      chosen (works.holds loops line s) (execute works block loops s) (execute_branches works branches loops s)
  execute_tree works (LoopTree line block) loops s =
      works.iterations loops line s >>= λ iterations. each (iteration_of (works.begins line) (execute works block) loops) s iterations

  -- the trees of a block, one after another
  pub execute : {M F S : Type 0} → LineWorks M F S → Block → Loops → S → Work M F S
  execute works EmptyBlock loops s = give s
  execute works (MoreBlock tree block) loops s = execute_tree works tree loops s >>= execute works block loops

  -- the later branches of a choice
  pub execute_branches : {M F S : Type 0} → LineWorks M F S → Branches → Loops → S → Work M F S
  execute_branches works NoBranches loops s = give s
  execute_branches works (ElifBranch line block more) loops s =
      chosen (works.holds loops line s) (execute works block loops s) (execute_branches works more loops s)
  execute_branches works (ElseBranch block) loops s = execute works block loops s
