use Rattle.std.proofs.Common.{◌≡◌, ℕ, List, [], ◌∷◌, ◌++◌, map, Result, Ok, Err, Some, IfOk, sym, ap, ◌∙◌}
use Rattle.std.specs.Prelude.{slice_get}
use Rattle.std.proofs.lemmas.List.{map-append}
use Rattle.mk_loop.specs.declared.iterations.Iteration.{Iteration}
use Rattle.mk_loop.specs.declared.iterations.Iterations.{Iterations}
use Rattle.mk_loop.specs.LoopWords.{LoopWords}
use Rattle.mk_loop.specs.Scopes.{iteration_words, iterations_in}
use Rattle.mk_eval.specs.Lines.{inside_iteration}
use Rattle.mk_eval.specs.Views.{loops_of, loops_of-inside, loops_of-alike}
use Rattle.mk_eval.proofs.iterations.loops_at.Goals as goal

made : {R E : Type 0} (items : R → List Iteration) (iterations : Iterations) (index : ℕ) (loops : List Iteration)
    (iteration : Iteration) (result : Result R E)
    → slice_get (iterations_in iterations) index ≡ Some (iteration_words iteration)
    → IfOk result (λ inner. map iteration_words (items inner) ≡ map iteration_words loops ++ iteration_words iteration ∷ [])
    → IfOk result (λ inner. (words : LoopWords) × (slice_get (iterations_in iterations) index ≡ Some words)
    × (loops_of (items inner) ≡ inside_iteration (loops_of loops) words))
made items iterations index loops iteration (Ok inner) at same = (
  iteration_words iteration,
  at,
  loops_of-alike (items inner) (loops ++ iteration ∷ [])
      (same ∙ sym (map-append iteration_words loops (iteration ∷ []))) ∙ loops_of-inside loops iteration,
)
made items iterations index loops iteration (Err stop) at same = tt

pub returns : goal.returns
returns c =
    made (λ inner. inner.items) c.args.iterations.now.value c.args.index c.args.loops.now c.new.result c.inside.result
    (ap (λ iterations. slice_get (iterations_in iterations) c.args.index) (sym c.in_ok-clone.ensures.cases) ∙ c.new.ensures)
    c.inside.ensures
