-- What the tables of a cache hold, and what makes it right.
use Rattle.std.specs.Prelude.{◌≡◌, ◌≤◌, ◌⊎◌, ◌-◌, ℕ, List, [], ◌∷◌, length, map, take, Option, Some, None, Result, Contains}
use Rattle.std.specs.Prelude.{IfOk, IfSome}
use Rattle.turn_amounts.specs.declared.TheConstants.{MOST_ANSWERS, MOST_EVALUATIONS}
use Rattle.std.specs.List.{AllByRecursion}
use Rattle.std.specs.declared.alloc.Global.{Global}
use Rattle.std.specs.declared.rc.Rc.{Rc}
use Rattle.std.specs.declared.vec.Vec.{Vec}
use Rattle.mk_ast.specs.Parser.{parsed}
use Rattle.mk_ast.specs.declared.nodes.Makefile.{Makefile}
use Rattle.mk_ast.specs.declared.parser.ParseFault.{ParseFault}
use Rattle.mk_eval.specs.Trees.{tree_or_fault}
use Rattle.mk_paths.specs.FilesView.{Question}
use Rattle.read_trace.specs.declared.evaluation.Evaluation.{Evaluation}
use Rattle.eval_cache.specs.declared.contents.ContentKey.{ContentKey}
use Rattle.eval_cache.specs.declared.key.EvalKey.{EvalKey}
use Rattle.eval_cache.specs.Keys.{Key, key_of}
use Rattle.eval_cache.specs.Right.{IsRight}

-- the parses, each by its content
abbrev pub KeptParses : Type 0
KeptParses = List (ContentKey × Result (Rc Makefile Global) ParseFault)

-- the evaluations, those of each key with the newest first
abbrev pub KeptEvaluations : Type 0
KeptEvaluations = List (EvalKey × Vec (Rc Evaluation Global) Global)

-- the contents of the parses
abbrev pub contents_of : KeptParses → List (List ℕ)
contents_of parses = map (λ entry. entry.0.content) parses

-- the traces of evaluations
abbrev pub traces_of : List (Rc Evaluation Global) → List (List Question)
traces_of kept = map (λ evaluation. evaluation.value.trace) kept

-- the traces of the evaluations of each key
abbrev pub traces_by_key : KeptEvaluations → List (Key × List (List Question))
traces_by_key evals = map (λ entry. (key_of entry.0, traces_of entry.1.items)) evals

-- each evaluation is right for the key
abbrev pub AreRight : Key → List (Rc Evaluation Global) → Type 0
AreRight key kept = AllByRecursion (λ evaluation. IsRight key evaluation.value) kept

-- a trace has an answer, and no more than that about the makefile and those to its questions
abbrev pub HasFewAnswers : List Question → Type 0
HasFewAnswers trace = (1 ≤ length trace) × (length trace ≤ MOST_ANSWERS)

-- there are few evaluations, and the trace of each has few answers
abbrev pub AreShort : List (Rc Evaluation Global) → Type 0
AreShort kept = AllByRecursion (λ evaluation. HasFewAnswers evaluation.value.trace) kept × (length kept ≤ MOST_EVALUATIONS)

-- each parse that is kept is the tree of its content, or its fault
abbrev pub AreTrees : KeptParses → Type 0
AreTrees parses =
    (content : ContentKey) (parse : Result (Rc Makefile Global) ParseFault) → Contains parses (content, parse)
    → tree_or_fault parse ≡ parsed content.content

-- each evaluation that is kept is right for its key, and few of them are kept for each
abbrev pub AreRightForKeys : KeptEvaluations → Type 0
AreRightForKeys evals =
    (key : EvalKey) (kept : Vec (Rc Evaluation Global) Global) → Contains evals (key, kept)
    → AreRight (key_of key) kept.items × AreShort kept.items

-- what is kept may be used
pub record IsRightCache (parses : KeptParses) (evals : KeptEvaluations) : Type 0 where
  pub trees : AreTrees parses
  pub evaluations : AreRightForKeys evals

-- the evaluation is one of those that are kept
abbrev pub IsOneOf : List (Rc Evaluation Global) → Evaluation → Type 0
IsOneOf [] evaluation = ⊥
IsOneOf (one ∷ kept) evaluation = (one.value ≡ evaluation) ⊎ IsOneOf kept evaluation

-- the evaluations of a key, or none
abbrev pub evaluations_in : Option (Vec (Rc Evaluation Global) Global) → List (Rc Evaluation Global)
evaluations_in None = []
evaluations_in (Some kept) = kept.items

-- All that is right of older evaluations of a key and of a new one is right of these. They are the newest four with the
-- new one first, or the newest three of the older ones.
pub record AreNewest (evaluation : Evaluation) (older kept : List (Rc Evaluation Global)) : Type 0 where
  pub right : (key : Key) → IsRight key evaluation → AreRight key older → AreRight key kept
  pub short : HasFewAnswers evaluation.trace → AreShort older → AreShort kept
  pub traces : (traces_of kept ≡ take MOST_EVALUATIONS (evaluation.trace ∷ traces_of older))
      ⊎ (traces_of kept ≡ take (MOST_EVALUATIONS - 1) (traces_of older))

-- where a function succeeds, a parse that it gives is the tree of this content, or its fault
abbrev pub GivesParseOf : {F : Type 0} → Result (Option (Result (Rc Makefile Global) ParseFault)) F → List ℕ → Type 0
GivesParseOf result content = IfOk result (λ found. IfSome found (λ parse. tree_or_fault parse ≡ parsed content))
