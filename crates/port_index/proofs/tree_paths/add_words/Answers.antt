use Rattle.std.proofs.Common.{map, option_map, string_bytes}
use Rattle.port_index.specs.TreePaths.{path_of_word}
use Rattle.port_index.proofs.More.{filter-next}
use Rattle.port_index.proofs.tree_paths.add_words.Goals as goal

pub loop-word-preserved : goal.loop-word-preserved
loop-word-preserved c =
    filter-next (path_of_word c.args.directory.now) string_bytes c.args.words.now c.loop-word.word-index c.word-item.result
    c.deref.result.now (map string_bytes c.args.found.now.items)
    (map string_bytes c.loop-word.found.items) (map string_bytes c.add_found.new.paths.items)
    (option_map string_bytes c.in_ok-path_of_word.field-0)
    c.loop-word-test.true c.word-item.is c.deref.ensures c.loop-word.invariant c.in_ok-path_of_word.ensures c.in_ok-add_found.ensures
