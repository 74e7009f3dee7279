-- None of the trees up to here has the file.
use Rattle.mk_base.specs.Meter.{IsLater}
use Rattle.mk_files.specs.AfterQuestions.{AfterQuestions}
use Rattle.mk_eval.proofs.Searching.{FirstFrom}
use Rattle.mk_eval.specs.Views.{place_of_file}
use Rattle.mk_eval.proofs.modules.open_first.Given as goal

abbrev pub invariant-loop-tree : goal.invariant-loop-tree
invariant-loop-tree g l =
    let view = g.F.Names.view in
    record {
      first : FirstFrom (place_of_file l.here (view l.fn.files).files) l.trees l.file l.fn.budget (view l.fn.files) l.tree-index
          l.budget (view l.files);
      asked : AfterQuestions (view l.fn.files) (view l.files);
      later : IsLater l.fn.budget l.budget;
    }
