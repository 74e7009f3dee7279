use Rattle.std.specs.Prelude.{ℕ, ◌≡◌, ◌*◌, List, [], ◌∷◌, ◌++◌, length, drop, map, string_bytes, Result, Vec, IfOk}
use Rattle.std.specs.List.{zip}
use Rattle.std.proofs.Common.{refl, sym, ap, ◌∙◌, append_assoc, append-nil}
use Rattle.std.specs.Global.{Global}
use Rattle.mk_text.specs.Words.{span_text}
use Rattle.mk_loop.specs.declared.iterations.Iteration.{Iteration}
use Rattle.mk_loop.specs.declared.iterations.Iterations.{Iterations}
use Rattle.mk_loop.specs.Header.{iterations_of, header}
use Rattle.mk_loop.specs.LoopWords.{LoopWords}
use Rattle.mk_base.specs.declared.stops.PureStop.{PureStop}
use Rattle.mk_base.specs.declared.faults.FaultKind.{FaultKind}
use Rattle.mk_env.specs.Texts.{Variables}
use Rattle.mk_base.specs.Meter.{Meter}
use Rattle.mk_base.specs.Stops.{GivesPurely}

-- the variables of a loop
abbrev pub loop_variables : Iterations → List (List ℕ)
loop_variables iterations = map string_bytes iterations.names.items

-- the variables of a loop, each with its word from this place on among the loop's words
abbrev pub words_from : Iterations → ℕ → LoopWords
words_from iterations first =
    zip (loop_variables iterations) (map (span_text (string_bytes iterations.text)) (drop first iterations.words.items))

-- the variables of an iteration with their words
abbrev pub iteration_words : Iteration → LoopWords
iteration_words iteration =
    words_from iteration.iterations.value (iteration.index * length iteration.iterations.value.names.items)

-- the iterations of a loop, each by its variables with their words
abbrev pub iterations_in : Iterations → List LoopWords
iterations_in iterations =
    iterations_of (loop_variables iterations) (map (span_text (string_bytes iterations.text)) iterations.words.items)

-- the variables of the loops around a line, of which the innermost is the last; its variables come first
abbrev pub words_in : List Iteration → LoopWords
words_in [] = []
words_in (outer ∷ loops) = words_in loops ++ iteration_words outer

-- the words of one more loop, inside the others, come first
pub words_in-inside : (loops : List Iteration) (iteration : Iteration)
    → words_in (loops ++ iteration ∷ []) ≡ iteration_words iteration ++ words_in loops
words_in-inside [] iteration = sym (append-nil (iteration_words iteration))
words_in-inside (outer ∷ loops) iteration =
    ap (λ words. words ++ iteration_words outer) (words_in-inside loops iteration)
    ∙ append_assoc (iteration_words iteration) (words_in loops) (iteration_words outer)

-- loops have the same words if each has those of the other's
pub words_in-alike : (loops others : List Iteration) → map iteration_words loops ≡ map iteration_words others
    → words_in loops ≡ words_in others
words_in-alike [] [] same = refl
words_in-alike [] (other ∷ others) same = cc
words_in-alike (outer ∷ loops) [] same = cc
words_in-alike (outer ∷ loops) (other ∷ others) same = let inner = words_in-alike loops others (cc) in cc

-- a function gives the iterations of this header, from one meter to the next
abbrev pub GivesIterations : Result Iterations (PureStop FaultKind) → Variables → List ℕ → Meter → Meter → Type 0
GivesIterations result variables text old new = GivesPurely iterations_in result new (header variables text old)

-- where a function succeeds, it gives these loops with one more inside them, at this iteration
abbrev pub HasInnerIteration : {F : Type 0} → Result (Vec Iteration Global) F → List Iteration → Iteration → Type 0
HasInnerIteration result loops iteration =
    IfOk result (λ inner. map iteration_words inner.items ≡ map iteration_words loops ++ iteration_words iteration ∷ [])
