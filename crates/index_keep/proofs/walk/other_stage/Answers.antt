-- It is known of the directories with a row what they lead to.
use Rattle.std.proofs.Common.{◌∙◌, ap, refl, subst, sym, ◌&&◌, List, ℕ, is_none, map, string_bytes}
use Rattle.port_index.specs.FilledRows.{is_one_of}
use Rattle.port_index.specs.TreePaths.{directories}
use Rattle.port_index.specs.Seen.{entries_in}
use Rattle.mk_paths.specs.World.{files_in}
use Rattle.index_keep.specs.Shown.{fresh}
use Rattle.index_keep.specs.Walk.{IsStage}
use Rattle.index_keep.proofs.ShownLemmas.{entries-fresh}
use Rattle.index_keep.proofs.StageLemmas.{lacking-among, lacking-others}
use Rattle.index_keep.proofs.WalkLemmas.{decided-one, none-passed}
use Rattle.index_keep.proofs.walk.other_stage.Goals as goal

pub returns : goal.returns
returns c = λ world rows says are.
    let known = entries_in c.args.begun.known in
    let all = directories (files_in world) in
    let paths = map string_bytes c.in_ok-paths.paths.items in
    let lacks = λ (path : List ℕ). c.in_ok-paths.ensures path ∙ ap (λ dirs. is_one_of path dirs && is_none (known path))
    (ap (λ items. map string_bytes items) c.deref.ensures.value ∙ are) in
    record {
      stage = subst (IsStage world rows all) (sym c.new.ensures) (record {
        among = lacking-among world known all paths lacks;
        others = λ path one apart. decided-one world known (fresh rows) (entries-fresh rows c.args.begun.known says) path
            (lacking-others world known all paths lacks path one apart);
        knows = says;
        passed = none-passed world (fresh rows) 0 paths refl;
      });
      directories = are;
      lists = tt;
    }
