-- The paths that the words up to here name follow those that were there.
use Rattle.std.proofs.Common.{◌≡◌, ◌++◌, map, take, string_bytes}
use Rattle.std.specs.List.{filter_map}
use Rattle.port_index.specs.TreePaths.{path_of_word}
use Rattle.port_index.proofs.tree_paths.add_words.Given as goal

abbrev pub invariant-loop-word : goal.invariant-loop-word
invariant-loop-word l = map string_bytes l.found.items ≡ map string_bytes l.initial.found.items ++ filter_map (path_of_word l.directory)
    (map string_bytes (take l.word-index l.words))
