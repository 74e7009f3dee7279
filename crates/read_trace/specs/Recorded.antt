-- An evaluation whose questions are written down.
use Rattle.std.specs.Prelude.{◌≡◌, ℕ, List, Option, true}
use Rattle.mk_paths.specs.World.{World, FileMap}
use Rattle.mk_paths.specs.declared.search_path.Settings.{Settings}
use Rattle.mk_eval.specs.Meaning.{means}
use Rattle.mk_eval.specs.Agreement.{questions_of}
use Rattle.read_trace.specs.Agreement.{agreement}
use Rattle.read_trace.specs.declared.evaluation.Evaluation.{Evaluation}

-- the end of an evaluation, with what it asks in a budget of what it costs
abbrev pub traced_evaluation : World → List ℕ → Option (List (List ℕ)) → Evaluation
traced_evaluation world name flavors = record {
  outcome = means world name flavors;
  trace = questions_of world.0 world.1 name flavors;
}

-- Take any world with the same settings in which all answers of the trace of an evaluation agree. In it
-- the evaluation ends the same, at the same cost, and asks the same.
abbrev pub IsTheSameWhereAgreed : Type 0
IsTheSameWhereAgreed =
    (files other : FileMap) (settings : Settings) (name : List ℕ) (flavors : Option (List (List ℕ)))
    → (agreement other (traced_evaluation (files, settings) name flavors).trace).0 ≡ true
    → traced_evaluation (other, settings) name flavors ≡ traced_evaluation (files, settings) name flavors
