-- The index of before is recalled as long as each row names the same paths as the outdated one.
use Rattle.std.proofs.Common.{◌≡◌, subst, IfSome, List, ℕ, Some, string_bytes}
use Rattle.mk_paths.specs.World.{files_in}
use Rattle.port_index.specs.Index.{listed_paths, needed_paths}
use Rattle.port_index.specs.TreePaths.{directories}
use Rattle.port_index.specs.Seen.{known_seen, row_seen}
use Rattle.index_keep.specs.Last.{NamesAsBefore}
use Rattle.index_keep.specs.Walk.{IsWalk, directories_in, listed_of}
use Rattle.index_keep.specs.declared.last_index.LastIndex.{LastIndex}
use Rattle.index_keep.specs.declared.last_index.LastLists.{LastLists}
use Rattle.index_keep.proofs.MoreLemmas.{beside-more, last-more, lists-more, stage-more}
use Rattle.index_keep.proofs.walk.Walk.with_row.Goals as goal

pub returns-in_ok-know-in-Directories : goal.returns-in_ok-know-in-Directories
returns-in_ok-know-in-Directories c = λ world old new walk more.
    let far = subst (IsWalk world old) c.in-Directories.is walk in
    let path = string_bytes c.args.path in
    let said = known_seen c.args.row in
    let first = c.in-Directories.first in
    let after = c.know.new.self in
    let knows = c.in_ok-know-in-Directories.ensures in
    let alike = subst (λ (at : List ℕ). IfSome c.lists_if_alike-lists.result (λ (kept : LastLists). (first.lists ≡ Some kept)
    × NamesAsBefore at (row_seen c.args.row.row) kept.last))
    c.as_str.ensures.value c.lists_if_alike-lists.ensures in
    record {
      stage = stage-more world path said old new more first.stage after knows (directories (files_in world)) far.stage;
      directories = far.directories;
      lists = lists-more world path said old new more first.stage after knows c.alike_rows_list_the_same.ensures far.stage.knows
          (directories_in first) first.lists
          c.lists_if_alike-lists.result alike far.lists;
    }

pub returns-in_ok-know-in-Listed : goal.returns-in_ok-know-in-Listed
returns-in_ok-know-in-Listed c = λ world old new walk more.
    let far = subst (IsWalk world old) c.in-Listed.is walk in
    let path = string_bytes c.args.path in
    let said = known_seen c.args.row in
    let next = c.in-Listed.next in
    let after = c.know-in-Listed.new.self in
    let knows = c.in_ok-know-in-Listed.ensures in
    let alike = subst (λ (at : List ℕ). IfSome c.if_alike-last.result (λ (kept : LastIndex). (next.last ≡ Some kept)
    × NamesAsBefore at (row_seen c.args.row.row) kept))
    c.as_str-in-Listed.ensures.value c.if_alike-last.ensures in
    record {
      stage = stage-more world path said old new more next.stage after knows (listed_paths world) far.stage;
      directories = far.directories;
      listed = far.listed;
      last = last-more world path said old new more next.stage after knows c.alike_rows_list_the_same.ensures far.stage.knows
          (listed_of next) next.last
          c.if_alike-last.result alike far.last;
    }

pub returns-in_ok-know-in-Needed : goal.returns-in_ok-know-in-Needed
returns-in_ok-know-in-Needed c = λ world old new walk more.
    let far = subst (IsWalk world old) c.in-Needed.is walk in
    let path = string_bytes c.args.path in
    let said = known_seen c.args.row in
    let last = c.in-Needed.last in
    let after = c.know-in-Needed.new.self in
    let knows = c.in_ok-know-in-Needed.ensures in
    record {
      stage = stage-more world path said old new more last.stage after knows (needed_paths world) far.stage;
      directories = far.directories;
      listed = far.listed;
      beside = beside-more world path said old new more last.beside far.beside;
    }
