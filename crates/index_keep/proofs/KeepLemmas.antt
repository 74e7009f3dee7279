-- What a change of a file, and what is known of changes, makes of rows; and what is left of a refresh.
use Rattle.std.proofs.Common.{◌≡◌, ◌⊎◌, inl, inr, ◌∙◌, sym, ap, subst, refl, ℕ, ◌+◌, Bool, true, false, ◌||◌, ◌&&◌, not, if◌then◌else◌}
use Rattle.std.proofs.Common.{List, [], ◌∷◌, Result, Ok, Err, OnOk, OnErr, Option, Some, None, IfSome, is_some, is_none, option_map}
use Rattle.std.proofs.Common.{option_and_then, String, Global, string_bytes}
use Rattle.std.proofs.lemmas.Bool.{false≢true, and_parts, or_right}
use Rattle.std.proofs.lemmas.Slice.Eq.{bytes_eq-Decides}
use Rattle.std.specs.BTreeSet.{BTreeSet, contains_text, keys}
use Rattle.std.specs.FinMap.{contains_key}
use Rattle.std.specs.List.{list_any, sum_by, filter}
use Rattle.text_parts.specs.Order.{in_order}
use Rattle.text_parts.specs.Ordered.{among-in_order}
use Rattle.std.specs.Cmp.Lexicographic.{slice_cmp}
use Rattle.std.specs.Ordering.{nat_cmp, is_eq}
use Rattle.std.specs.Str.{bytes_eq}
use Rattle.mk_paths.specs.World.{World, files_in}
use Rattle.mk_paths.specs.FilesView.{Question, Reply, Presence, Contents, IsReply}
use Rattle.mk_paths.specs.declared.search_path.Settings.{Settings}
use Rattle.mk_eval.specs.Agreement.{Agrees}
use Rattle.port_index.specs.Efforts.{decided, has_makefile, is_there}
use Rattle.turn_amounts.specs.declared.spent.Spent.{Spent}
use Rattle.port_index.specs.FilledRows.{is_one_of, Fills}
use Rattle.port_index.specs.Index.{needed_among, needed_paths}
use Rattle.port_index.specs.Known.{IsIndexOf}
use Rattle.port_index.specs.Makefiles.{AreThere, SameMakefiles, SameMakefilesServe, is_makefile}
use Rattle.port_index.specs.declared.known_index.KnownIndex.{KnownIndex}
use Rattle.port_index.specs.PathLaws.{PathIsTheSameWhereAnswered}
use Rattle.port_index.specs.PathOutcomes.{PathOutcome, Absent, Finding, finding_at, outcome_at}
use Rattle.port_index.specs.PathQuestions.{questions_at}
use Rattle.port_index.specs.RowLaws.{KnownRowsAreEnough, OneRowMoreLeavesLess}
use Rattle.port_index.specs.TreePaths.{listed_from}
use Rattle.port_index.specs.Seen.{entries_in, known_in}
use Rattle.index_row.specs.Rows.{RowValue, row_of}
use Rattle.index_store.specs.Entries.{StoredValue, Entries}
use Rattle.index_keep.specs.declared.last_index.HeldIndex.{HeldIndex}
use Rattle.index_keep.specs.declared.keeper.Progress.{Progress}
use Rattle.index_keep.specs.declared.keeper.Progress.TheVariants.{Changed, Walking, Asking, Current, AtHand}
use Rattle.index_keep.specs.Shown.{ShownRow, ShownRows, shown, show_row, show_stored, asked_one, no_name, fresh, fresh_outcome, said_in_row}
use Rattle.index_keep.specs.Shown.{stale_if_asked, ShowsSame}
use Rattle.index_keep.specs.Last.{IsHeld, IsLast, SaysAll, Serves, needed_before}
use Rattle.index_keep.specs.Right.{names_in, row_with, IsRightRow, AreKept, AreCurrent, HaveFresh, DifferAt, RenewsOneOf, fresh_row}
use Rattle.index_keep.specs.Right.{is_evaluated}
use Rattle.turn_amounts.specs.Spent.{no_spending}
use Rattle.index_keep.specs.Turns.{DropsTurn, paths_left, refresh_at}
use Rattle.index_keep.specs.Keeper.{changed_in, begun_in, last_in, stays_there, DropsTo, IsKept, IsProgress, HasForgotten, Halts, Stops}
use Rattle.index_keep.specs.Keeper.{TellsPresence}
use Rattle.index_keep.specs.declared.keeper.Keeper.{Keeper}
use Rattle.index_keep.proofs.ShownLemmas.{shown-test}
use Rattle.index_keep.proofs.WalkLemmas.{lacking-there, listed-has, needed-has}

-- ---- another world, which differs at one name

module _ (name : List ℕ) (world other : World) (differ : DifferAt name world other) where
  reply_of : (file : List ℕ) (reply : Reply) → bytes_eq name file ≡ false → IsReply (files_in world) file reply
      → IsReply (files_in other) file reply
  reply_of file (Presence there) apart is = is ∙ ap is_some (sym (differ.files file apart))
  reply_of file (Contents content) apart is = is ∙ sym (differ.files file apart)

  agrees_too : (questions : List Question) → list_any (λ asked. bytes_eq name asked) (names_in questions) ≡ false
      → Agrees (files_in world) questions → Agrees (files_in other) questions
  agrees_too [] apart agrees = tt
  agrees_too ((file, reply) ∷ questions) apart agrees = (
    reply_of file reply (first (bytes_eq name file) (list_any (λ asked. bytes_eq name asked) (names_in questions)) apart) agrees.0,
    agrees_too questions (rest (bytes_eq name file) (list_any (λ asked. bytes_eq name asked) (names_in questions)) apart) agrees.1,
  )
    where
      first : (a b : Bool) → (a || b) ≡ false → a ≡ false
      first true b e = absurd cc
      first false b e = refl

      rest : (a b : Bool) → (a || b) ≡ false → b ≡ false
      rest true b e = absurd cc
      rest false b e = e

  module _ (law : PathIsTheSameWhereAnswered) where
    right_in : (settings : _) → settings ≡ world.1 → (path : List ℕ) → list_any (λ asked. bytes_eq name asked)
        (names_in (questions_at world path)) ≡ false
        → Agrees (files_in world) (questions_at world path)
        → (finding_at (other.0, settings) path ≡ finding_at world path) × (questions_at (other.0, settings) path ≡ questions_at world path)
    right_in settings e path apart agrees =
        subst (λ (s : _). (finding_at (other.0, s) path ≡ finding_at world path)
        × (questions_at (other.0, s) path ≡ questions_at world path)) (sym e)
        (law world.0 other.0 world.1 path (agrees_too (questions_at world path) apart agrees))

    right_too : (path : List ℕ) (row : RowValue) → list_any (λ asked. bytes_eq name asked) row.names ≡ false → IsRightRow world path row
        → IsRightRow other path row
    right_too path row apart right =
        let apart' : list_any (λ asked. bytes_eq name asked) (names_in (questions_at world path)) ≡ false =
        ap (λ (r : RowValue). list_any (λ asked. bytes_eq name asked) r.names) (sym right.same) ∙ apart in
        let same = right_in other.1 differ.settings path apart' right.answered in
        record {
          same = right.same ∙ sym (rows (finding_at other path) (finding_at world path) (questions_at other path)
              (questions_at world path) same.0 same.1);
          answered = subst (λ questions. Agrees (files_in other) questions) (sym same.1)
              (agrees_too (questions_at world path) apart' right.answered);
        }
      where
        rows : (one other : Finding) (questions more : List Question) → one ≡ other → questions ≡ more
            → row_with one questions ≡ row_with other more
        rows one other questions more e f = ap (λ found. row_with found questions) e ∙ ap (row_with other) f

    module _ (old new : ShownRows) (noted : (path : List ℕ) → new path ≡ option_map (stale_if_asked name) (old path))
        (kept : AreKept world old) where
      kept_by : (path : List ℕ) (row before : ShownRow) → old path ≡ Some before → stale_if_asked name before ≡ row → (stale asked : Bool)
          → before.stale ≡ stale → asked_one (λ asked. bytes_eq name asked) before.row ≡ asked → row.stale ≡ false
          → IsRightRow other path row.row × (is_there row.row.outcome ≡ true)
      kept_by path row before was is true asked e f fresh =
          absurd (false≢true (sym (ap (λ (r : ShownRow). r.stale) is ∙ fresh)
          ∙ ap (λ b. b || asked_one (λ asked. bytes_eq name asked) before.row) e))
      kept_by path row before was is false true e f fresh =
          absurd (false≢true (sym (ap (λ (r : ShownRow). r.stale) is ∙ fresh)
          ∙ ap (λ b. b || asked_one (λ asked. bytes_eq name asked) before.row) e ∙ f))
      kept_by path row before was is false false e f fresh =
          subst (λ (r : ShownRow). IsRightRow other path r.row × (is_there r.row.outcome ≡ true)) is
          (right_too path before.row f (kept.right path before was e), kept.there path before was e)

      kept_at : (path : List ℕ) (before : Option ShownRow) → old path ≡ before → (row : ShownRow) → new path ≡ Some row → row.stale ≡ false
          → IsRightRow other path row.row × (is_there row.row.outcome ≡ true)
      kept_at path None was row is fresh =
          let none : new path ≡ None = noted path ∙ ap (option_map (stale_if_asked name)) was in absurd cc
      kept_at path (Some before) was row is fresh =
          let there : new path ≡ Some (stale_if_asked name before) = noted path ∙ ap (option_map (stale_if_asked name)) was in
          let same : stale_if_asked name before ≡ row = cc in
          kept_by path row before was same before.stale (asked_one (λ asked. bytes_eq name asked) before.row) refl refl fresh

      -- rows stay right in a world that differs at a name, where the rows are stale that asked for it
      pub AreKept-noted : AreKept other new
      AreKept-noted = record {
        right = λ path row is fresh. (kept_at path (old path) refl row is fresh).0;
        there = λ path row is fresh. (kept_at path (old path) refl row is fresh).1;
      }

-- the world itself
pub DifferAt-itself : (name : List ℕ) (world : World) → DifferAt name world world
DifferAt-itself name world = record { settings = refl; files = λ file apart. refl }

-- ---- rows that are shown the same, or none of which is fresh

pub AreKept-same : (world : World) (old new : ShownRows) → ShowsSame old new → AreKept world old → AreKept world new
AreKept-same world old new same kept = record {
  right = λ path row is fresh. kept.right path row (sym (same path) ∙ is) fresh;
  there = λ path row is fresh. kept.there path row (sym (same path) ∙ is) fresh;
}

-- a keeper whose rows store the same is still right
pub IsKept-same : {R : Type 0} (entries : R → Entries) (world : World) (old new : R) (progress : Progress)
    → ((path : List ℕ) → entries new path ≡ entries old path)
    → (let before : Keeper R = record { rows = old; progress = progress } in IsKept entries world before)
    → (let after : Keeper R = record { rows = new; progress = progress } in IsKept entries world after)
IsKept-same entries world old new progress same kept =
    let stored : entries new ≡ entries old = λ i path. same path i in
    record {
      rows = subst (λ (e : Entries). AreKept world (shown (changed_in progress) e)) (sym stored) kept.rows;
      progress = subst (λ (e : Entries). IsProgress world (shown (changed_in progress) e) progress) (sym stored) kept.progress;
    }

-- ---- names that are known to have changed

pub none_among : (names : BTreeSet (String Global)) → keys names ≡ [] → (name : List ℕ) → contains_text names name ≡ false
none_among names none name = ap (list_any (λ (one : String Global). is_eq (slice_cmp nat_cmp name (string_bytes one)))) none

pub forgotten : (progress : Progress) → HasForgotten progress → (name : List ℕ) → changed_in progress name ≡ no_name name
forgotten (Changed names last) none name = none_among names none.0 name
forgotten (Walking walk) none name = absurd none
forgotten (Asking walk ask) none name = absurd none
forgotten (Current paths) none name = absurd none
forgotten (AtHand index) none name = absurd none

begun-forgotten : (progress : Progress) → HasForgotten progress → begun_in progress ≡ no_spending
begun-forgotten (Changed names last) none = refl
begun-forgotten (Walking walk) none = absurd none
begun-forgotten (Asking walk ask) none = absurd none
begun-forgotten (Current paths) none = absurd none
begun-forgotten (AtHand index) none = absurd none

-- ---- a refresh that is stopped

pub shown-halted : (entries : Entries) (old new : Progress) → Halts old new → ShowsSame (shown (changed_in old) entries)
    (shown (changed_in new) entries)
shown-halted entries (Changed names last) new is path = ap (λ (p : Progress). shown (changed_in p) entries path) is
shown-halted entries (Walking walk) new none path = shown-test (changed_in new) no_name entries (forgotten new none) path
shown-halted entries (Asking walk ask) new none path = shown-test (changed_in new) no_name entries (forgotten new none) path
shown-halted entries (Current paths) new is path = ap (λ (p : Progress). shown (changed_in p) entries path) is
shown-halted entries (AtHand index) new is path = ap (λ (p : Progress). shown (changed_in p) entries path) is

pub IsProgress-forgotten : (world : World) (rows : ShownRows) (progress : Progress) → HasForgotten progress → IsProgress world rows progress
IsProgress-forgotten world rows (Changed names last) none =
    subst (λ (l : Option HeldIndex). IfSome l (IsHeld (contains_text names) world rows)) (sym none.1) tt
IsProgress-forgotten world rows (Walking walk) none = absurd none
IsProgress-forgotten world rows (Asking walk ask) none = absurd none
IsProgress-forgotten world rows (Current paths) none = absurd none
IsProgress-forgotten world rows (AtHand index) none = absurd none

-- a refresh that goes on as before, or not at all, over rows that are shown the same
pub IsProgress-stopped : (world : World) (rows new : ShownRows) (old after : Progress) → Stops old after → ShowsSame rows new
    → IsProgress world rows old → IsProgress world new after
IsProgress-stopped world rows new old after (inl same) shows is =
    subst (λ (p : Progress). IsProgress world new p) (sym same)
    (subst (λ (r : ShownRows). IsProgress world r old) (λ i path. sym (shows path) i) is)
IsProgress-stopped world rows new old after (inr none) shows is = IsProgress-forgotten world new after none

pub IsKept-stopped : {R : Type 0} (entries : R → Entries) (world : World) (old new : R) (before after : Progress) → Stops before after
    → ShowsSame (shown (changed_in before) (entries old)) (shown (changed_in after) (entries new))
    → (let one : Keeper R = record { rows = old; progress = before } in IsKept entries world one)
    → (let other : Keeper R = record { rows = new; progress = after } in IsKept entries world other)
IsKept-stopped entries world old new before after stops shows kept = record {
  rows = AreKept-same world (shown (changed_in before) (entries old)) (shown (changed_in after) (entries new)) shows kept.rows;
  progress = IsProgress-stopped world (shown (changed_in before) (entries old)) (shown (changed_in after) (entries new)) before after
      stops shows kept.progress;
}

either-halted : (old new : Progress) → Halts old new → HasForgotten new ⊎ (new ≡ old)
either-halted (Changed names last) new is = inr is
either-halted (Walking walk) new none = inl none
either-halted (Asking walk ask) new none = inl none
either-halted (Current paths) new is = inr is
either-halted (AtHand index) new is = inr is

pub IsKept-halted : {R : Type 0} (entries : R → Entries) (world : World) (rows : R) (old new : Progress) → Halts old new
    → (let before : Keeper R = record { rows = rows; progress = old } in IsKept entries world before)
    → (let after : Keeper R = record { rows = rows; progress = new } in IsKept entries world after)
IsKept-halted {R = R} entries world rows old new halts kept = elim (either-halted old new halts) [
  | inl none ↦ record {
    rows = AreKept-same world (shown (changed_in old) (entries rows)) (shown (changed_in new) (entries rows))
        (shown-halted (entries rows) old new halts) kept.rows;
    progress = IsProgress-forgotten world (shown (changed_in new) (entries rows)) new none;
  }
  | inr same ↦ subst (λ (p : Progress). let keeper : Keeper R = record { rows = rows; progress = p } in IsKept entries world keeper)
      (sym same) kept
]

module _ (name : List ℕ) (one more : List ℕ → Bool) (is : (other : List ℕ) → more other ≡ (bytes_eq name other || one other)) where
  either : (a b c d : Bool) → ((a || b) || (c || d)) ≡ ((b || c) || (a || d))
  either true true c d = refl
  either true false true d = refl
  either true false false d = refl
  either false true c d = refl
  either false false true d = refl
  either false false false d = refl

  asked_more : (names : List (List ℕ)) → list_any more names ≡ (list_any one names || list_any (λ asked. bytes_eq name asked) names)
  asked_more [] = refl
  asked_more (asked ∷ names) =
      ap (λ b. b || list_any more names) (is asked) ∙ ap (λ b. (bytes_eq name asked || one asked) || b) (asked_more names)
      ∙ either (bytes_eq name asked) (one asked) (list_any one names) (list_any (λ other. bytes_eq name other) names)

  regroup : (a b c : Bool) → (a || (b || c)) ≡ ((a || b) || c)
  regroup true b c = refl
  regroup false b c = refl

  row_more : (marked : Bool) (row : RowValue) → show_row more marked row ≡ stale_if_asked name (show_row one marked row)
  row_more marked row =
      ap (λ (stale : Bool). let found : ShownRow = record { row = row; stale = stale } in found)
      (ap (λ b. marked || b) (asked_more row.names) ∙ regroup marked (list_any one row.names)
      (list_any (λ asked. bytes_eq name asked) row.names))

  text_more : (marked : Bool) (row : Option RowValue) → option_map (show_row more marked) row ≡ option_map (stale_if_asked name)
      (option_map (show_row one marked) row)
  text_more marked None = refl
  text_more marked (Some row) = ap Some (row_more marked row)

  stored_more : (stored : Option StoredValue) → option_and_then (show_stored more) stored ≡ option_map (stale_if_asked name)
      (option_and_then (show_stored one) stored)
  stored_more None = refl
  stored_more (Some stored) = text_more stored.stale (row_of stored.text)

  -- one name more has changed
  pub shown-more : (entries : Entries) (path : List ℕ) → shown more entries path ≡ option_map (stale_if_asked name) (shown one entries path)
  shown-more entries path = stored_more (entries path)

  shown_said : (row : Option ShownRow) → option_map said_in_row (option_map (stale_if_asked name) row) ≡ option_map said_in_row row
  shown_said None = refl
  shown_said (Some row) = refl

  still_there : (row : Option ShownRow) → is_some (option_map (stale_if_asked name) row) ≡ is_some row
  still_there None = refl
  still_there (Some row) = refl

  module _ (old new : ShownRows) (index : KnownIndex) (noted : (path : List ℕ) → new path ≡ option_map (stale_if_asked name) (old path))
      (last : IsLast one old index) where
    stale_at : (path : List ℕ) (before : Option ShownRow) → old path ≡ before → (row : ShownRow) → option_map (stale_if_asked name) before ≡
        Some row → row.stale ≡ asked_one more row.row
    stale_at path None was row is = absurd cc
    stale_at path (Some before) was row is =
        let same : stale_if_asked name before ≡ row = cc in
        subst (λ (r : ShownRow). r.stale ≡ asked_one more r.row) same
        (ap (λ b. b || asked_one (λ asked. bytes_eq name asked) before.row) (last.stale path before was)
        ∙ sym (asked_more before.row.names))

    -- an index of before the last changes is one of before this change too
    pub IsLast-noted : IsLast more new index
    IsLast-noted = record {
      says = λ path. last.says path ∙ sym (ap (option_map said_in_row) (noted path) ∙ shown_said (old path));
      listed = last.listed;
      needed = λ path some. last.needed path (sym (ap is_some (noted path) ∙ still_there (old path)) ∙ some);
      stale = λ path row is. stale_at path (old path) refl row (sym (noted path) ∙ is);
    }

  -- it serves over rows that are noted
  pub Serves-noted : (world : World) (old new : ShownRows) (index : KnownIndex)
      → ((path : List ℕ) → new path ≡ option_map (stale_if_asked name) (old path))
      → Serves world old index → Serves world new index
  Serves-noted world old new index noted serves = record {
    directories = serves.directories;
    there = λ path some. serves.there path (sym (ap is_some (noted path) ∙ still_there (old path)) ∙ some);
    missing = λ path one none. serves.missing path one (sym (ap is_some (noted path) ∙ still_there (old path)) ∙ none);
  }

-- ---- an index at hand is the last one, once a name has changed

asked_nobody : (names : List (List ℕ)) → list_any no_name names ≡ false
asked_nobody [] = refl
asked_nobody (name ∷ names) = asked_nobody names

module _ (enough : KnownRowsAreEnough) (world : World) (rows : ShownRows) (index : KnownIndex) (current : AreCurrent world rows)
    (is : IsIndexOf world index) (says : SaysAll rows index.rows) where
  need_if : (need there : Bool) (row : ShownRow) → is_some (if need && there then Some row else None) ≡ true → need ≡ true
  need_if true there row some = refl
  need_if false there row some = absurd (false≢true some)

  there_if : (need there : Bool) (row : ShownRow) → is_some (if need && there then Some row else None) ≡ true → there ≡ true
  there_if true true row some = refl
  there_if true false row some = absurd (false≢true some)
  there_if false there row some = absurd (false≢true some)

  none_if : (need there : Bool) (row : ShownRow) → need ≡ true → is_some (if need && there then Some row else None) ≡ false → there ≡ false
  none_if true true row one none = absurd (false≢true (sym none))
  none_if true false row one none = refl
  none_if false there row one none = absurd (false≢true one)

  fresh_if : (path : List ℕ) (needed : Bool) (row : ShownRow) → (if needed then Some (fresh_row world path) else None) ≡ Some row
      → row.stale ≡ asked_one no_name row.row
  fresh_if path true row same =
      let one : fresh_row world path ≡ row = cc in
      subst (λ (r : ShownRow). r.stale ≡ asked_one no_name r.row) one (sym (asked_nobody (fresh_row world path).row.names))
  fresh_if path false row same = absurd cc

  needed_as : needed_before index ≡ needed_paths world
  needed_as =
      ap (needed_among (known_in (entries_in index.rows))) is.paths.listed
      ∙ enough.needed world (entries_in index.rows) (λ path one. is.rows path (needed-has world path one))

  pub IsLast-current : IsLast no_name rows index
  IsLast-current = record {
    says = says;
    listed = is.paths.listed
        ∙ sym (ap (listed_from (known_in (entries_in index.rows))) is.paths.directories
        ∙ enough.listed world (entries_in index.rows) (λ path one. is.rows path (needed-has world path (listed-has world path one))));
    needed = λ path some. ap (is_one_of path) needed_as
        ∙ need_if (is_one_of path (needed_paths world)) (has_makefile world path) (fresh_row world path)
        (sym (ap is_some (current.each path)) ∙ some);
    stale = λ path row there. fresh_if path (is_evaluated world path) row (sym (current.each path) ∙ there);
  }

  pub Serves-current : Serves world rows index
  Serves-current = record {
    directories = is.paths.directories;
    there = λ path some. there_if (is_one_of path (needed_paths world)) (has_makefile world path) (fresh_row world path)
        (sym (ap is_some (current.each path)) ∙ some);
    missing = λ path one none. none_if (is_one_of path (needed_paths world)) (has_makefile world path) (fresh_row world path)
        (ap (is_one_of path) (sym needed_as) ∙ one) (sym (ap is_some (current.each path)) ∙ none);
  }

module _ (enough : KnownRowsAreEnough) (serve : SameMakefilesServe) (name : List ℕ) (world other : World)
    (differ : DifferAt name world other)
    (is_there : Bool) (tells : TellsPresence world name is_there) (rows noted : ShownRows) (notes : (path : List ℕ)
    → noted path ≡ option_map (stale_if_asked name) (rows path)) where
  module _ (one more : List ℕ → Bool) (adds : (file : List ℕ) → more file ≡ (bytes_eq name file || one file))
      (stays : stays_there name is_there ≡ true) (now : AreThere more (files_in other)) where
    told : (there makefile : Bool) → (there || not makefile) ≡ true → makefile ≡ true → there ≡ true
    told true makefile e f = refl
    told false true e f = e
    told false false e f = absurd (false≢true f)

    was_there : is_makefile name ≡ true → contains_key (files_in world) name ≡ true
    was_there makefile = tells (told is_there (is_makefile name) stays makefile)

    named : (file : List ℕ) → bytes_eq name file ≡ true → more file ≡ true
    named file same = adds file ∙ ap (λ b. b || one file) same

    same_at : (file : List ℕ) (same : Bool) → bytes_eq name file ≡ same → is_makefile file ≡ true → contains_key (files_in other) file ≡
        contains_key (files_in world) file
    same_at file true same makefile =
        now file (named file same) makefile
        ∙ sym (ap (contains_key (files_in world)) (sym ((bytes_eq-Decides name file).0 same))
        ∙ was_there (ap is_makefile ((bytes_eq-Decides name file).0 same) ∙ makefile))
    same_at file false same makefile = ap is_some (differ.files file same)

    same_makefiles : SameMakefiles (files_in world) (files_in other)
    same_makefiles file makefile = same_at file (bytes_eq name file) refl makefile

    makefiles_as : (path : List ℕ) → has_makefile other path ≡ has_makefile world path
    makefiles_as path = by other.1 differ.settings
      where
        by : (settings : Settings) → settings ≡ world.1 → has_makefile (files_in other, settings) path ≡ has_makefile world path
        by settings e = subst (λ (s : Settings). has_makefile (files_in other, s) path ≡ has_makefile world path) (sym e)
            (serve.paths (files_in world) (files_in other) world.1 same_makefiles path)

    pub Serves-still : (shows : ShownRows) (index : KnownIndex) → Serves world shows index → Serves other shows index
    Serves-still shows index serves = record {
      directories = serves.directories ∙ sym (serve.directories (files_in world) (files_in other) same_makefiles);
      there = λ path some. makefiles_as path ∙ serves.there path some;
      missing = λ path needed none. makefiles_as path ∙ serves.missing path needed none;
    }

    before_at : (file : List ℕ) (same : Bool) → bytes_eq name file ≡ same → one file ≡ true → is_makefile file ≡ true
        → contains_key (files_in world) file ≡ true
    before_at file true same changed makefile =
        ap (contains_key (files_in world)) (sym ((bytes_eq-Decides name file).0 same))
        ∙ was_there (ap is_makefile ((bytes_eq-Decides name file).0 same) ∙ makefile)
    before_at file false same changed makefile = sym (same_at file false same makefile)
        ∙ now file (adds file ∙ or_right (bytes_eq name file) (one file) changed) makefile

    pub were_before : AreThere one (files_in world)
    were_before file changed makefile = before_at file (bytes_eq name file) refl changed makefile

  held_of : (old : Progress) → IsProgress world rows old → (more : List ℕ → Bool)
      → ((file : List ℕ) → more file ≡ (bytes_eq name file || changed_in old file))
      → IfSome (last_in (stays_there name is_there) old) (IsHeld more other noted)
  held_of (Changed names (Some held)) is more adds = record {
    last = IsLast-noted name (contains_text names) more adds rows noted held.index notes is.last;
    serves = λ were now.
        let both = and_parts held.were_there (stays_there name is_there) were in
        Serves-noted name (contains_text names) more adds other rows noted held.index notes
        (Serves-still (contains_text names) more adds both.1 now rows held.index
        (is.serves both.0 (were_before (contains_text names) more adds both.1 now)));
  }
  held_of (Changed names None) is more adds = tt
  held_of (Walking walk) is more adds = tt
  held_of (Asking walk ask) is more adds = tt
  held_of (Current paths) is more adds = tt
  held_of (AtHand index) is more adds = record {
    last = IsLast-noted name no_name more adds rows noted index notes (IsLast-current enough world rows index is.0 is.1 is.2);
    serves = λ stays now. Serves-noted name no_name more adds other rows noted index notes
        (Serves-still no_name more adds stays now rows index (Serves-current enough world rows index is.0 is.1 is.2));
  }

  -- the file of a name has changed, or is about to
  pub IsProgress-noted : (old new : Progress) → IsProgress world rows old → DropsTo (stays_there name is_there) old new
      → ((file : List ℕ) → changed_in new file ≡ (bytes_eq name file || changed_in old file)) → IsProgress other noted new
  IsProgress-noted old (Changed names last) is drops adds =
      subst (λ (l : Option HeldIndex). IfSome l (IsHeld (contains_text names) other noted)) (sym drops)
      (held_of old is (contains_text names) adds)
  IsProgress-noted old (Walking walk) is drops adds = absurd drops
  IsProgress-noted old (Asking walk ask) is drops adds = absurd drops
  IsProgress-noted old (Current paths) is drops adds = absurd drops
  IsProgress-noted old (AtHand index) is drops adds = absurd drops

-- ---- what is left of a refresh

module _ (law : OneRowMoreLeavesLess) (world : World) (old new : ShownRows) (spent : Spent)
    (renews : RenewsOneOf world (needed_paths world) old new spent) where
  fresh_put : (other : List ℕ) (same : Bool)
      → option_and_then fresh_outcome (if same then Some (fresh_row world renews.path) else old other) ≡
      (if same then Some (outcome_at world renews.path) else fresh old other)
  fresh_put other true = refl
  fresh_put other false = refl

  abbrev decides : Bool → Option PathOutcome → Option PathOutcome
  decides there row = if there then row else Some Absent

  outcome_there : (other : List ℕ) (same : Bool) → bytes_eq renews.path other ≡ same
      → decides (has_makefile world other) (if same then Some (outcome_at world renews.path) else fresh old other) ≡
      (if same || false then Some (outcome_at world other) else decided world (fresh old) other)
  outcome_there other true same =
      subst (λ at. decides (has_makefile world at) (Some (outcome_at world renews.path)) ≡ Some (outcome_at world at))
      ((bytes_eq-Decides renews.path other).0 same)
      (ap (λ b. decides b (Some (outcome_at world renews.path))) (lacking-there world (fresh old) renews.path renews.lacking).0)
  outcome_there other false same = refl

  fills : Fills world (renews.path ∷ []) (decided world (fresh old)) (decided world (fresh new))
  fills = record {
    filled = λ other. ap (decides (has_makefile world other)) (ap (option_and_then fresh_outcome) (renews.rows other)
        ∙ fresh_put other (bytes_eq renews.path other))
        ∙ outcome_there other (bytes_eq renews.path other) refl;
  }

  pub left_less : (weight : List ℕ → ℕ) → weight renews.path + sum_by weight (paths_left world new) ≡ sum_by weight (paths_left world old)
  left_less weight = law world weight (needed_paths world) renews.path (decided world (fresh old)) (decided world (fresh new))
      renews.needed renews.lacking fills

none_left : (entries : List ℕ → Option PathOutcome) (paths : List (List ℕ))
    → ((path : List ℕ) → is_one_of path paths ≡ true → is_some (entries path) ≡ true)
    → filter (λ path. is_none (entries path)) paths ≡ []
none_left entries [] have = refl
none_left entries (path ∷ paths) have =
    ap (λ (b : Bool). if b then path ∷ filter (λ other. is_none (entries other)) paths else filter (λ other. is_none (entries other)) paths)
    (there (entries path) (have path (ap (λ b. b || is_one_of path paths) ((bytes_eq-Decides path path).1 refl))))
    ∙ none_left entries paths (λ other is. have other (or_right (bytes_eq path other) (is_one_of other paths) is))
  where
    there : (row : Option PathOutcome) → is_some row ≡ true → is_none row ≡ false
    there None some = absurd (false≢true some)
    there (Some row) some = refl

-- where each needed path has a fresh row, nothing is left to be done
pub lacking-none : (world : World) (rows : ShownRows) → HaveFresh world rows → paths_left world rows ≡ []
lacking-none world rows have =
    none_left (decided world (fresh rows)) (in_order (needed_paths world))
    (λ path is. have path (sym (among-in_order (λ one. bytes_eq one path) (needed_paths world)) ∙ is))

-- rows that are current are fresh
pub HaveFresh-current : (world : World) (rows : ShownRows) → AreCurrent world rows → HaveFresh world rows
HaveFresh-current world rows current path is =
    ap (λ row. is_some (if has_makefile world path then option_and_then fresh_outcome row else Some Absent))
    (current.each path ∙ ap (λ (b : Bool). if b && has_makefile world path then Some (fresh_row world path) else None) is)
    ∙ by (has_makefile world path)
  where
    by : (there : Bool) → is_some (if there then option_and_then fresh_outcome (if there then Some (fresh_row world path) else None)
        else Some Absent) ≡ true
    by true = refl
    by false = refl

-- ---- a keeper whose walk was taken out

pub OnErr-map : {A E : Type 0} (result : Result A E) {P Q : Type 0} → (P → Q) → OnErr result P → OnErr result Q
OnErr-map (Ok value) f p = tt
OnErr-map (Err fault) f p = f p

pub OnErr-and : {A E : Type 0} (result : Result A E) (P Q : Type 0) → OnErr result P → OnErr result Q → OnErr result (P × Q)
OnErr-and (Ok value) P Q p q = tt
OnErr-and (Err fault) P Q p q = (p, q)

pub OnOk-or : {A E : Type 0} (result : Result A E) {P Q : Type 0} → OnOk result P → OnErr result Q → (Q → P) → P
OnOk-or (Ok value) p q f = p
OnOk-or (Err fault) p q f = f q

module _ (old new : Entries) (before after nothing : Progress) (none : HasForgotten nothing) (is : after ≡ nothing) where
  -- rows that are shown the same after no name has changed
  pub shown-forgotten : ShowsSame (shown (changed_in before) old) (shown no_name new) → ShowsSame (shown (changed_in before) old)
      (shown (changed_in after) new)
  shown-forgotten same path =
      (λ i. shown (changed_in (is i)) new path) ∙ shown-test (changed_in nothing) no_name new (forgotten nothing none) path ∙ same path

  -- a turn that failed, after which nothing is under way
  pub drops-forgotten : ShowsSame (shown (changed_in before) old) (shown no_name new)
      → DropsTurn (refresh_at (shown (changed_in before) old) (begun_in before))
      (refresh_at (shown (changed_in after) new) (begun_in after))
  drops-forgotten same = record { rows = shown-forgotten same; begun = ap begun_in is ∙ begun-forgotten nothing none }

  pub IsProgress-taken : (world : World) (rows : ShownRows) → IsProgress world rows after
  IsProgress-taken world rows = subst (λ (p : Progress). IsProgress world rows p) (sym is) (IsProgress-forgotten world rows nothing none)
