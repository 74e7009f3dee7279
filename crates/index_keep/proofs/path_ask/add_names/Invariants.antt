-- The names so far are those before, and those of the questions up to here.
use Rattle.std.proofs.Common.{◌≡◌, ◌++◌, map, take, string_bytes}
use Rattle.index_keep.specs.Right.{names_in}
use Rattle.index_keep.proofs.path_ask.add_names.Given as goal

abbrev pub invariant-loop-question : goal.invariant-loop-question
invariant-loop-question l = map string_bytes l.names.items ≡ map string_bytes l.initial.names.items ++ names_in
    (take l.question-index l.questions)
