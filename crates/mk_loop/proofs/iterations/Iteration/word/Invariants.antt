use Rattle.std.proofs.Common.{◌≡◌, map, drop, string_bytes}
use Rattle.std.specs.List.{zip}
use Rattle.mk_text.specs.Words.{span_text}
use Rattle.mk_loop.specs.LoopWords.{word_of}
use Rattle.mk_loop.specs.Scopes.{iteration_words}
use Rattle.mk_loop.proofs.iterations.Iteration.word.Given as goal

abbrev pub invariant-loop-at : goal.invariant-loop-at
invariant-loop-at l =
    word_of (zip (map string_bytes (drop l.at l.names)) (map (span_text (string_bytes l.iterations.text)) (drop l.at l.words))) l.name
    ≡ word_of (iteration_words l.self) l.name
