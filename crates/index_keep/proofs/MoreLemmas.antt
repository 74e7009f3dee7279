-- A walk that knows of one more fresh row.
use Rattle.std.proofs.Common.{◌≡◌, ◌∙◌, ap, subst, sym, refl, ℕ, Bool, true, false, ◌||◌, if◌then◌else◌, List, map, take, Option, Some}
use Rattle.std.proofs.Common.{None, IfSome, is_some, option_map, String, Global, string_bytes}
use Rattle.std.proofs.lemmas.Slice.Eq.{bytes_eq-Decides}
use Rattle.std.specs.Prelude.{Vec}
use Rattle.std.specs.Str.{bytes_eq}
use Rattle.mk_paths.specs.World.{World}
use Rattle.port_index.specs.Alike.{AlikeRowsListTheSame}
use Rattle.port_index.specs.Efforts.{has_makefile}
use Rattle.port_index.specs.FilledRows.{is_one_of}
use Rattle.port_index.specs.Index.{needed_paths}
use Rattle.port_index.specs.PathOutcomes.{Absent}
use Rattle.port_index.specs.Seen.{Said}
use Rattle.index_keep.specs.Last.{HaveRowsAlone, NamesAsBefore, Recalls, RecallsLists, listed_in}
use Rattle.index_keep.specs.Right.{AreDecided}
use Rattle.index_keep.specs.Shown.{ShownRows, fresh, fresh_said}
use Rattle.index_keep.specs.Walk.{HasRowMore, IsStage, KnowsBeside, KnowsRow, Says, paths_of}
use Rattle.index_keep.specs.declared.last_index.LastIndex.{LastIndex}
use Rattle.index_keep.specs.declared.last_index.LastLists.{LastLists}
use Rattle.index_keep.specs.declared.stage.Stage.{Stage}
use Rattle.index_keep.proofs.LastLemmas.{listed-more, recalls-more}
use Rattle.index_keep.proofs.ShownLemmas.{fresh-said}
use Rattle.index_keep.proofs.WalkLemmas.{lacking-there}

module _ (world : World) (path : List ℕ) (said : Said) (old new : ShownRows) (more : HasRowMore world path said old new)
    (stage after : Stage) (knows : KnowsRow path said stage after) where
  still_fresh : (other : List ℕ) (same : Bool) → is_some (option_map (λ (one : Said). one.outcome) (fresh_said old other)) ≡ true
      → is_some (option_map (λ (one : Said). one.outcome) (if same then Some said else fresh_said old other)) ≡ true
  still_fresh other true some = refl
  still_fresh other false some = some

  fresh_more : (other : List ℕ) → is_some (fresh old other) ≡ true → is_some (fresh new other) ≡ true
  fresh_more other some =
      ap is_some (sym (fresh-said new other) ∙ ap (option_map (λ (one : Said). one.outcome)) (more.says other))
      ∙ still_fresh other (bytes_eq path other) (ap is_some (fresh-said old other) ∙ some)

  decided_by : (other : List ℕ) (there : Bool) → is_some (if there then fresh old other else Some Absent) ≡ true
      → is_some (if there then fresh new other else Some Absent) ≡ true
  decided_by other true some = fresh_more other some
  decided_by other false some = refl

  -- what was known of these paths still is
  pub decided-more : (paths : List (List ℕ)) → AreDecided world (fresh old) paths → AreDecided world (fresh new) paths
  decided-more paths known other is = decided_by other (has_makefile world other) (known other is)

  same_paths : paths_of after ≡ paths_of stage
  same_paths = ap (λ names. map string_bytes names.items) knows.paths

  pub stage-more : (paths : List (List ℕ)) → IsStage world old paths stage → IsStage world new paths after
  stage-more paths is = record {
    among = λ other one. is.among other (ap (is_one_of other) (sym same_paths) ∙ one);
    others = λ other one apart. decided_by other (has_makefile world other)
        (is.others other one (ap (is_one_of other) (sym same_paths) ∙ apart));
    knows = λ other. knows.known other ∙ ap (λ (one : Option Said). if bytes_eq path other then Some said else one) (is.knows other)
        ∙ sym (more.says other);
    passed = subst (λ place. AreDecided world (fresh new) (take place (paths_of after))) (sym knows.place)
        (subst (λ at. AreDecided world (fresh new) (take stage.place at)) (sym same_paths)
        (decided-more (take stage.place (paths_of stage)) is.passed));
  }

  -- an index of before is still recalled, if the row names the same paths as the outdated one
  module _ (law : AlikeRowsListTheSame) (says : Says old stage.known) where
    pub lists-more : (directories : List (List ℕ)) (lists kept : Option LastLists) → IfSome kept (λ (one : LastLists). (lists ≡ Some one)
        × NamesAsBefore path said.outcome one.last)
        → IfSome lists (RecallsLists world old stage.known directories) → IfSome kept (RecallsLists world new after.known directories)
    lists-more directories lists None alike recalls = tt
    lists-more directories lists (Some one) alike recalls =
        let before : RecallsLists world old stage.known directories one =
        subst (λ (l : Option LastLists). IfSome l (RecallsLists world old stage.known directories)) alike.0 recalls in record {
          listed = before.listed ∙ sym (listed-more law world path said old new more stage.known after.known says knows.known
              one.last alike.1 directories);
          last = recalls-more law world path said old new more stage.known after.known says knows.known one.last alike.1
              (listed_in one) before.last;
        }

    pub last-more : (listed : List (List ℕ)) (last kept : Option LastIndex)
        → IfSome kept (λ (one : LastIndex). (last ≡ Some one) × NamesAsBefore path said.outcome one)
        → IfSome last (Recalls world old stage.known listed) → IfSome kept (Recalls world new after.known listed)
    last-more listed last None alike recalls = tt
    last-more listed last (Some one) alike recalls =
        recalls-more law world path said old new more stage.known after.known says knows.known one alike.1 listed
        (subst (λ (l : Option LastIndex). IfSome l (Recalls world old stage.known listed)) alike.0 recalls)

-- rows of needed paths are still alone
alone-more : (world : World) (path : List ℕ) (said : Said) (old new : ShownRows) → HasRowMore world path said old new
    → HaveRowsAlone world (needed_paths world) old → HaveRowsAlone world (needed_paths world) new
alone-more world path said old new more alone other some = alone_at (bytes_eq path other) refl (sym (more.there other) ∙ some)
  where
    alone_at : (same : Bool) → bytes_eq path other ≡ same → (same || is_some (old other)) ≡ true
        → (is_one_of other (needed_paths world) ≡ true) × (has_makefile world other ≡ true)
    alone_at true e there =
        subst (λ at. (is_one_of at (needed_paths world) ≡ true) × (has_makefile world at ≡ true)) ((bytes_eq-Decides path other).0 e)
        (more.lacking.needed, (lacking-there world (fresh old) path more.lacking.lacking).0)
    alone_at false e there = alone other there

-- so it is known of the paths beside the listed ones what was known
pub beside-more : (world : World) (path : List ℕ) (said : Said) (old new : ShownRows) → HasRowMore world path said old new
    → (beside : Option (Vec (String Global) Global)) → KnowsBeside world old beside → KnowsBeside world new beside
beside-more world path said old new more (Some beside) known = known
beside-more world path said old new more None alone = alone-more world path said old new more alone
