-- The listed paths of before are those that the rows say, or they are made anew.
use Rattle.port_index.specs.Efforts.{decided}
use Rattle.std.proofs.Common.{is_some, ◌≡◌, ◌∙◌, ap, refl, subst, sym, IfSome, ◌&&◌, List, ℕ, true, is_none, map, string_bytes}
use Rattle.port_index.specs.FilledRows.{is_one_of}
use Rattle.port_index.specs.TreePaths.{AreInOrder, listed_from}
use Rattle.port_index.specs.Seen.{entries_in, known_in}
use Rattle.index_keep.specs.Last.{Recalls, RecallsLists, led_to, listed_in, paths_in}
use Rattle.index_keep.specs.Walk.{directories_in, paths_of}
use Rattle.index_keep.specs.declared.stage.Stage.{Stage}
use Rattle.index_keep.proofs.StageLemmas.{lacking-among, lacking-others, listed-order, outdated-among, outdated-others}
use Rattle.index_keep.proofs.WalkLemmas.{alike-fresh, needed-among}
use Rattle.index_keep.proofs.walk.listed_stage.Goals as goal

pub returns-in-Some : goal.returns-in-Some
returns-in-Some c = λ world rows has.
    let first = c.args.first in
    let memory = first.stage.known in
    let known = entries_in memory in
    let dirs = directories_in first in
    let lists = c.in-Some.lists in
    let is = subst (λ (l : _). IfSome l (RecallsLists world rows memory dirs)) c.in-Some.is has.lists in
    let recalls = is.last in
    let led = led_to memory lists.last.outdated in
    let all = listed_in lists in
    let paths = map string_bytes c.in_ok-paths-in-Some.paths.items in
    let order = subst AreInOrder (sym is.listed) (listed-order led dirs) in
    let found = λ (path : List ℕ).
    c.in_ok-paths-in-Some.ensures (subst AreInOrder (sym (ap (λ items. map string_bytes items) c.deref-in-Some.ensures.value)) order) path
    ∙ ap (λ items. is_one_of path (map string_bytes items) && is_one_of path (map string_bytes c.deref-in-Some.result.now))
    c.deref.ensures.value
    ∙ ap (λ items. is_one_of path (paths_in lists.last) && is_one_of path (map string_bytes items)) c.deref-in-Some.ensures.value in
    let missing = λ (path : List ℕ) (one : is_one_of path all ≡ true). recalls.missing path (needed-among led all path one) in
    let same = c.new.ensures in
    record {
      listed = is.listed
          ∙ sym (c.alike_rows_list_the_same.ensures.listed led (known_in known) dirs
          (alike-fresh world memory lists.last.outdated dirs has.known (λ path some. (recalls.alone path (recalls.outdated path some)).1)));
      directories = refl;
      known = ap (λ (s : Stage). s.known) same;
      place = ap (λ (s : Stage). s.place) same;
      among = λ path one. outdated-among world known all paths rows (paths_in lists.last) found missing recalls.fresh path
          (ap (λ (s : Stage). is_one_of path (paths_of s)) (sym same) ∙ one);
      others = λ path one apart. ap (λ (s : Stage). is_some (decided world (entries_in s.known) path)) same
          ∙ outdated-others world known all paths rows (paths_in lists.last) found missing recalls.fresh path one
          (ap (λ (s : Stage). is_one_of path (paths_of s)) (sym same) ∙ apart);
      last = subst (λ (s : Stage). Recalls world rows s.known all lists.last) (sym same) recalls;
    }

pub returns : goal.returns
returns c = λ world rows has.
    let memory = c.args.first.stage.known in
    let known = entries_in memory in
    let listed = c.in_ok-listed-in-None.listed in
    let all = map string_bytes listed.items in
    let paths = map string_bytes c.in_ok-paths-in-None.paths.items in
    let lacks = λ (path : List ℕ). c.in_ok-paths-in-None.ensures path
    ∙ ap (λ items. is_one_of path (map string_bytes items) && is_none (known path)) c.deref-in-None-2.ensures.value in
    let same = c.new-in-None.ensures in
    record {
      listed = c.in_ok-listed-in-None.ensures ∙ ap (λ items. listed_from (known_in known) (map string_bytes items))
          c.deref-in-None.ensures.value;
      directories = refl;
      known = ap (λ (s : Stage). s.known) same;
      place = ap (λ (s : Stage). s.place) same;
      among = λ path one. lacking-among world known all paths lacks path (ap (λ (s : Stage). is_one_of path (paths_of s)) (sym same) ∙ one);
      others = λ path one apart. ap (λ (s : Stage). is_some (decided world (entries_in s.known) path)) same
          ∙ lacking-others world known all paths lacks path one (ap (λ (s : Stage). is_one_of path (paths_of s)) (sym same) ∙ apart);
      last = tt;
    }
