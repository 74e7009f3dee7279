-- The directories of before are kept, and its lists may be.
use Rattle.std.proofs.Common.{◌≡◌, ◌∙◌, ap, refl, subst, sym, ◌&&◌, ℕ, List, true, map, string_bytes}
use Rattle.port_index.specs.FilledRows.{is_one_of}
use Rattle.port_index.specs.TreePaths.{AreInOrder, directories}
use Rattle.port_index.specs.Seen.{entries_in}
use Rattle.mk_paths.specs.World.{files_in}
use Rattle.index_keep.specs.Last.{RecallsLists, led_to, listed_in, paths_in}
use Rattle.index_keep.specs.declared.stage.Stage.{Stage}
use Rattle.index_keep.specs.Shown.{fresh}
use Rattle.index_keep.specs.Walk.{IsStage}
use Rattle.index_keep.proofs.ShownLemmas.{entries-fresh}
use Rattle.index_keep.proofs.StageLemmas.{directories-order, outdated-among, outdated-others}
use Rattle.index_keep.proofs.WalkLemmas.{decided-one, listed-from, needed-among, none-passed}
use Rattle.index_keep.proofs.walk.kept_stage.Goals as goal

pub returns : goal.returns
returns c = λ world rows may.
    let begun = c.args.begun in
    let last = begun.lists.last in
    let known = entries_in begun.known in
    let all = directories (files_in world) in
    let dirs = map string_bytes begun.directories.items in
    let paths = map string_bytes c.in_ok-paths.paths.items in
    let led = led_to begun.known last.outdated in
    let recalls = may.lists.last in
    let found = λ (path : List ℕ).
    c.in_ok-paths.ensures (subst AreInOrder (sym (ap (λ items. map string_bytes items) c.deref-2.ensures.value ∙ may.directories))
    (directories-order (files_in world))) path in
    let needs = λ (path : List ℕ) (one : is_one_of path all ≡ true).
    needed-among led (listed_in begun.lists) path (ap (is_one_of path) may.lists.listed
    ∙ listed-from led dirs path (ap (is_one_of path) may.directories ∙ one)) in
    let missing = λ (path : List ℕ) (one : is_one_of path all ≡ true). recalls.missing path (needs path one) in
    let same = λ (path : List ℕ).
    found path ∙ ap (λ items. is_one_of path (map string_bytes items) && is_one_of path (map string_bytes c.deref-2.result.now))
    c.deref.ensures.value
    ∙ ap (λ items. is_one_of path (paths_in last) && is_one_of path items)
    (ap (λ items. map string_bytes items) c.deref-2.ensures.value ∙ may.directories) in
    record {
      stage = subst (IsStage world rows all) (sym c.new.ensures) (record {
        among = outdated-among world known all paths rows (paths_in last) same missing recalls.fresh;
        others = λ path one apart. decided-one world known (fresh rows) (entries-fresh rows begun.known may.says) path
            (outdated-others world known all paths rows (paths_in last) same missing recalls.fresh path one apart);
        knows = may.says;
        passed = none-passed world (fresh rows) 0 paths refl;
      });
      directories = may.directories;
      lists = subst (λ (stage : Stage). RecallsLists world rows stage.known dirs begun.lists) (sym c.new.ensures) may.lists;
    }
