-- When an evaluation may be used in place of another one.
use Rattle.std.specs.Prelude.{◌≡◌, ℕ, List, Option}
use Rattle.std.proofs.Common.{sym, subst}
use Rattle.mk_paths.specs.World.{FileMap}
use Rattle.mk_paths.specs.declared.search_path.Settings.{Settings}
use Rattle.read_trace.specs.Agreement.{IsAnswered}
use Rattle.read_trace.specs.Recorded.{traced_evaluation, IsTheSameWhereAgreed}
use Rattle.read_trace.specs.declared.evaluation.Evaluation.{Evaluation}
use Rattle.eval_cache.specs.Keys.{Key, key_for}

-- what the makefile of a key means among these files, at which cost, and what its evaluation asks
abbrev pub evaluation_of : FileMap → Key → Evaluation
evaluation_of files key = traced_evaluation (files, key.settings) key.name key.flavors

-- The evaluation is right for the key. In every world with the key's settings that agrees with its trace,
-- the makefile means the same, at the same cost, and its evaluation asks the same.
abbrev pub IsRight : Key → Evaluation → Type 0
IsRight key evaluation = (files : FileMap) → IsAnswered files evaluation.trace → evaluation_of files key ≡ evaluation

-- the evaluation in any world is right for its key
pub IsRight-recorded : IsTheSameWhereAgreed → (files : FileMap) (settings : Settings) (name : List ℕ) (flavors : Option (List (List ℕ)))
    (key : Key) (evaluation : Evaluation) → key ≡ key_for settings name flavors
    → evaluation ≡ traced_evaluation (files, settings) name flavors
    → IsRight key evaluation
IsRight-recorded same files settings name flavors key evaluation is ends =
    subst (λ k. IsRight k evaluation) (sym is)
    (subst (IsRight (key_for settings name flavors)) (sym ends) (λ other agrees. same files other settings name flavors agrees))
