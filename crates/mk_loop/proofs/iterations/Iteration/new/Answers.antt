use Rattle.std.proofs.Common.{◌<◌, ◌*◌, ◌/◌, ◌+◌, ◌≤◌, ℕ, List, drop, Some, ap, subst, ◌∙◌, map, length, string_bytes}
use Rattle.std.specs.List.{zip}
use Rattle.std.proofs.lemmas.List.{length-map, drop-map}
use Rattle.mk_text.specs.Words.{span_text}
use Rattle.mk_loop.specs.Header.{iterations_of}
use Rattle.mk_loop.specs.Scopes.{loop_variables}
use Rattle.mk_loop.proofs.IterationSteps.{length-iterations, iteration-at, iteration-within}
use Rattle.mk_loop.proofs.iterations.Iteration.new.Goals as goal

-- the words of the iteration of an index below their number are there
fits : {X Y : Type 0} (f : X → List ℕ) (g : Y → List ℕ) (xs : List X) (ys : List Y) (index : ℕ)
    → index < length (iterations_of (map f xs) (map g ys)) → index * length xs + length xs ≤ length ys
fits f g xs ys index below =
    iteration-within index (length xs) (length ys)
    (subst (λ n. index < length ys / n) (length-map xs f) (subst (λ n. index < n / length (map f xs)) (length-map ys g)
    (subst (λ n. index < n) (length-iterations (length (map g ys) / length (map f xs)) (map f xs) (map g ys)) below)))

pub invariant_of-result : goal.invariant_of-result
invariant_of-result c =
    let iterations = c.args.iterations.value in
    record {
      inside = fits string_bytes (span_text (string_bytes iterations.text)) iterations.names.items iterations.words.items
          c.args.index c.requires;
    }

pub returns : goal.returns
returns c =
    let iterations = c.args.iterations.value in
    let names = loop_variables iterations in
    let words = map (span_text (string_bytes iterations.text)) iterations.words.items in
    let below = subst (λ n. c.args.index < n) (length-iterations (length words / length names) names words) c.requires in
    iteration-at (length words / length names) c.args.index names words below
    ∙ ap (λ n. Some (zip names (drop (c.args.index * n) words))) (length-map iterations.names.items string_bytes)
    ∙ ap (λ l. Some (zip names l))
    (drop-map (span_text (string_bytes iterations.text)) (c.args.index * length iterations.names.items) iterations.words.items)
