-- None of the words up to here names a module that is there.
use Rattle.std.proofs.Common.{◌≡◌, ◌-◌, length}
use Rattle.mk_base.specs.Meter.{IsLater}
use Rattle.mk_files.specs.Questions.{account}
use Rattle.mk_files.specs.AfterQuestions.{AfterQuestions}
use Rattle.mk_eval.specs.Views.{place_of_file}
use Rattle.mk_step.proofs.Searching.{from_word}
use Rattle.mk_step.proofs.searches.Search.next_module.Given as goal

abbrev pub invariant-loop-self : goal.invariant-loop-self
invariant-loop-self g l =
    let view = g.F.Names.view in
    let place = place_of_file l.here (view l.fn.files).files in
    record {
      next : from_word place l.line.number l.fn.self.words.items l.state l.fn.self.next (account l.fn.budget (view l.fn.files))
          ≡ from_word place l.line.number l.fn.self.words.items l.state l.self.next (account l.budget (view l.files));
      words : l.self.words ≡ l.fn.self.words;
      number : l.self.line ≡ l.fn.self.line;
      asked : AfterQuestions (view l.fn.files) (view l.files);
      later : IsLater l.fn.budget l.budget;
    }

abbrev pub decreases-loop-self : goal.decreases-loop-self
decreases-loop-self g l = length l.self.words.items - l.self.next
