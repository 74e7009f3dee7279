-- The rows that are left at the end of a walk.
use Rattle.std.proofs.Common.{◌≡◌, ◌∙◌, ap, subst, sym, refl, ℕ, Bool, true, false, not, ◌&&◌, ◌||◌, if◌then◌else◌, List, [], ◌++◌, Result}
use Rattle.std.proofs.Common.{Ok, Err, IfOk, OnOk, map, Option, Some, None, is_some, option_and_then, String, Global, string_bytes}
use Rattle.std.proofs.lemmas.Bool.{false≢true}
use Rattle.std.specs.List.{flat_map}
use Rattle.std.specs.Prelude.{Vec}
use Rattle.text_parts.specs.Ordered.{in_order-again}
use Rattle.mk_paths.specs.World.{World, files_in}
use Rattle.mk_paths.specs.declared.files.FilesFault.{FilesFault}
use Rattle.port_index.specs.FilledRows.{is_one_of}
use Rattle.port_index.specs.Index.{listed_paths, needed_paths}
use Rattle.port_index.specs.TreePaths.{AreInOrder, directories, named_at}
use Rattle.port_index.specs.PathOutcomes.{outcome_at}
use Rattle.index_store.specs.Entries.{Entries, StoredValue}
use Rattle.index_keep.specs.Keeper.{IsAtEnd}
use Rattle.index_keep.specs.Last.{HaveRowsAlone, LeavesFresh, is_fresh_of}
use Rattle.index_keep.specs.Shown.{ShownRow, ShownRows, fresh, no_name, show_stored, shown}
use Rattle.index_keep.specs.Walk.{AreNeededBeside, HasOrder, row_stays}
use Rattle.index_keep.specs.declared.walk.LastStage.{LastStage}
use Rattle.index_keep.proofs.ShownLemmas.{entries-fresh}
use Rattle.port_index.proofs.MakefileLemmas.{same_by}
use Rattle.index_keep.proofs.WalkLemmas.{decided-there, needed-has, there-fresh}

and_false : (b : Bool) → (b && false) ≡ false
and_false true = refl
and_false false = refl

module _ (world : World) (old : ShownRows) (last : LastStage) (end : IsAtEnd world old last) where
  module _ (beside : Vec (String Global) Global) (are : AreNeededBeside world beside) where
    abbrev paths : List (List ℕ)
    paths = map string_bytes beside.items

    pub end-order : HasOrder last paths
    end-order = (
      subst AreInOrder (sym end.far.listed)
          (in_order-again (flat_map (named_at (outcome_at world)) (directories (files_in world)) ++ directories (files_in world))),
      are.ordered,
    )

    either : (path : List ℕ) (listed : Bool) → is_one_of path (listed_paths world) ≡ listed → (listed || is_one_of path paths) ≡ true
        → is_one_of path (needed_paths world) ≡ true
    either path true e one = needed-has world path e
    either path false e one = are.needed path one

    kept_by : (path : List ℕ) (some : Bool) → is_some (fresh old path) ≡ some
        → ((is_one_of path (listed_paths world) || is_one_of path paths) && some) ≡ (is_one_of path (needed_paths world) && some)
    kept_by path true e =
        ap (λ b. b && true) (same_by (is_one_of path (listed_paths world) || is_one_of path paths) (is_one_of path (needed_paths world))
        (either path (is_one_of path (listed_paths world)) refl) (are.all path (there-fresh world old end.kept path e)))
    kept_by path false e =
        and_false (is_one_of path (listed_paths world) || is_one_of path paths) ∙ sym (and_false (is_one_of path (needed_paths world)))

    -- the rows that are kept are the fresh ones of needed paths
    pub kept-fresh : (path : List ℕ) → row_stays last paths path ≡ is_fresh_of (needed_paths world) old path
    kept-fresh path =
        ap (λ row. (is_one_of path (map string_bytes last.listed.items) || is_one_of path paths) && is_some row)
        (entries-fresh old last.stage.known end.far.stage.knows path)
        ∙ ap (λ listed. (is_one_of path listed || is_one_of path paths) && is_some (fresh old path)) end.far.listed
        ∙ kept_by path (is_some (fresh old path)) refl

  -- where no path has a row but needed ones that have a makefile, each row is such a one
  module _ (alone : HaveRowsAlone world (needed_paths world) old) where
    each_fresh : (path : List ℕ) → is_some (old path) ≡ true → is_fresh_of (needed_paths world) old path ≡ true
    each_fresh path some =
        let here = alone path some in
        ap (λ b. b && is_some (fresh old path)) here.0 ∙ decided-there world (fresh old) path here.1 (end.fresh path here.0)

    left_at : (path : List ℕ) (row : Option ShownRow) → old path ≡ row
        → row ≡ (if is_fresh_of (needed_paths world) old path then row else None)
    left_at path None is = by (is_fresh_of (needed_paths world) old path)
      where
        by : (b : Bool) → ◌≡◌ {A = Option ShownRow} None (if b then None else None)
        by true = refl
        by false = refl
    left_at path (Some row) is = sym (ap (λ (b : Bool). if b then Some row else None) (each_fresh path (ap is_some is)))

    -- then all rows are left
    pub leaves-alone : (none : Vec (String Global) Global) → none.items ≡ [] → LeavesFresh (needed_paths world) old old none
    leaves-alone none is = record {
      left = λ path. left_at path (old path) refl;
      apart = λ path fresh. ap (λ items. is_one_of path (map string_bytes items)) is;
      all = λ path apart some. absurd (false≢true (sym apart ∙ each_fresh path some));
    }

-- the others are taken out
module _ (world : World) (before after : Entries) (last : LastStage) (end : IsAtEnd world (shown no_name before) last)
    (beside : Vec (String Global) Global) (known : AreNeededBeside world beside) (others : Vec (String Global) Global)
    (are : (path : List ℕ) → is_one_of path (map string_bytes others.items) ≡
    (is_some (before path) && not (row_stays last (map string_bytes beside.items) path)))
    (left : (path : List ℕ) → after path ≡ (if row_stays last (map string_bytes beside.items) path then before path else None)) where
  abbrev old : ShownRows
  old = shown no_name before

  shown_if : (b : Bool) (stored : Option StoredValue) → option_and_then (show_stored no_name) (if b then stored else None) ≡
      (if b then option_and_then (show_stored no_name) stored else None)
  shown_if true stored = refl
  shown_if false stored = refl

  stored_there : (stored : Option StoredValue) → is_some (option_and_then (show_stored no_name) stored) ≡ true → is_some stored ≡ true
  stored_there None some = absurd (false≢true some)
  stored_there (Some stored) some = refl

  one_by : (path : List ℕ) (kept : Bool) → is_fresh_of (needed_paths world) old path ≡ kept → is_one_of path (map string_bytes others.items)
      ≡ (is_some (before path) && not kept)
  one_by path kept is = are path ∙ ap (λ b. is_some (before path) && not b) (kept-fresh world old last end beside known path ∙ is)

  pub leaves-others : LeavesFresh (needed_paths world) old (shown no_name after) others
  leaves-others = record {
    left = λ path. ap (option_and_then (show_stored no_name)) (left path)
        ∙ shown_if (row_stays last (map string_bytes beside.items) path) (before path)
        ∙ ap (λ (b : Bool). if b then old path else None) (kept-fresh world old last end beside known path);
    apart = λ path is. one_by path true is ∙ and_false (is_some (before path));
    all = λ path is some. one_by path false is ∙ ap (λ b. b && true) (stored_there (before path) some);
  }

pub leaves-taken : (world : World) (before after : Entries) (last : LastStage) → IsAtEnd world (shown no_name before) last
    → (beside : Vec (String Global) Global) → AreNeededBeside world beside
    → (result : Result (Vec (String Global) Global) FilesFault)
    → IfOk result (λ others. (path : List ℕ) → is_one_of path (map string_bytes others.items) ≡
    (is_some (before path) && not (row_stays last (map string_bytes beside.items) path)))
    → OnOk result ((path : List ℕ) → after path ≡ (if row_stays last (map string_bytes beside.items) path then before path else None))
    → IfOk result (LeavesFresh (needed_paths world) (shown no_name before) (shown no_name after))
leaves-taken world before after last end beside known (Ok others) are left = leaves-others world before after last end
    beside known others are left
leaves-taken world before after last end beside known (Err fault) are left = tt
