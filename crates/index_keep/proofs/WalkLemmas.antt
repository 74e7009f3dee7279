-- A refresh that goes through paths.
use Rattle.std.proofs.Common.{Global, String, string_bytes, map, ◌≡◌, ◌∙◌, sym, ap, subst, refl, ℕ, Bool, true, false, ◌||◌, ◌&&◌}
use Rattle.std.proofs.Common.{if◌then◌else◌, List, ◌++◌, take, Option, Some, None, is_none, is_some, option_and_then, option_map}
use Rattle.std.proofs.lemmas.Bool.{false≢true, and_from, and_parts, or_right}
use Rattle.std.proofs.lemmas.Slice.Eq.{bytes_eq-Decides}
use Rattle.std.specs.List.{filter_map, flat_map}
use Rattle.std.specs.Prelude.{Vec}
use Rattle.std.specs.Str.{bytes_eq}
use Rattle.text_parts.specs.Ordered.{among-in_order}
use Rattle.mk_paths.specs.World.{World, files_in}
use Rattle.port_deps.specs.ItemText.{has_comma}
use Rattle.port_index.specs.Alike.{AlikeRowsListTheSame, AreAlikeAt, NameAlike}
use Rattle.port_index.specs.Dependencies.{items_among, target_of, targets_in}
use Rattle.port_index.specs.Efforts.{decided, has_makefile, is_there}
use Rattle.port_index.specs.FilledRows.{is_one_of}
use Rattle.port_index.specs.Index.{listed_paths, needed_among, needed_paths}
use Rattle.port_index.specs.Makefiles.{AreOfDirectories}
use Rattle.port_index.specs.TreePaths.{directories, listed_from, named_at, named_in}
use Rattle.port_index.specs.Pairs.{pair_at}
use Rattle.port_index.specs.PathOutcomes.{PathOutcome, Absent, Faulty, Port, BadPort, Lists, BadList, FlavoredList, Other, cost_at}
use Rattle.port_index.specs.PathOutcomes.{outcome_at}
use Rattle.turn_amounts.specs.Spent.{no_spending, spent_in_all}
use Rattle.port_index.specs.Spent.{SpendsOnPath}
use Rattle.turn_amounts.specs.declared.spent.Spent.{Spent}
use Rattle.index_row.specs.Rows.{RowValue}
use Rattle.port_index.specs.RowLaws.{KnownRowsAreEnough, NeededAreNamed, SayAll, is_target_among}
use Rattle.port_index.specs.Seen.{Said, entries_in, known_in, known_row, said_in}
use Rattle.port_index.specs.declared.memory_rows.MemoryRows.{MemoryRows}
use Rattle.index_keep.specs.Beside.{AreBeside, is_there_at}
use Rattle.index_keep.specs.Last.{HaveRowsAlone, LeavesFresh, Recalls, SaysAll, is_fresh_of, led_to, needed_of, paths_in}
use Rattle.index_keep.specs.declared.path_ask.FoundPath.{FoundPath}
use Rattle.index_keep.specs.declared.last_index.LastIndex.{LastIndex}
use Rattle.index_keep.specs.declared.walk.DirectoryStage.{DirectoryStage}
use Rattle.index_keep.specs.declared.walk.ListedStage.{ListedStage}
use Rattle.index_keep.specs.declared.stage.Stage.{Stage}
use Rattle.index_keep.specs.declared.walk.LastStage.{LastStage}
use Rattle.index_keep.specs.Shown.{ShownRow, ShownRows, ShowsSame, fresh, fresh_outcome, fresh_said, said_by, said_if_fresh, said_in_row}
use Rattle.index_keep.specs.Right.{AreCurrent, AreDecided, AreKept, HaveFresh, IsRightRow, RenewsRow, fresh_row, is_evaluated, right_row}
use Rattle.index_keep.specs.Keeper.{IsReadyFor}
use Rattle.eval_ask.specs.Ask.{IsShort, MakesInTime}
use Rattle.index_keep.specs.Paths.{IsMade}
use Rattle.index_keep.specs.Turns.{Evaluates, refresh_at}
use Rattle.index_keep.specs.Walk.{AreNeededBeside, HasListed, HasPassed, HasRowMore, IsDirectoryStage, IsLacking, IsLastStage}
use Rattle.index_keep.specs.Walk.{IsListedStage, IsStage, LacksNone, LacksRow, ListsPaths, Says, listed_of, paths_of}
use Rattle.index_keep.specs.declared.path_ask.MadeRow.{MadeRow}
use Rattle.index_keep.specs.declared.walk.Walk.{Walk}
use Rattle.index_row.specs.Seen.{kept_row_seen}
use Rattle.std.specs.Option.{option_or}
use Rattle.index_keep.proofs.MadeLemmas.{there-found}
use Rattle.index_keep.proofs.ShownLemmas.{entries-fresh}
use Rattle.index_keep.proofs.SortLemmas.{one_of-append}

-- ---- which paths are among which

pub listed-from : (outcomes : List ℕ → PathOutcome) (directories : List (List ℕ)) (path : List ℕ) → is_one_of path directories ≡ true
    → is_one_of path (listed_from outcomes directories) ≡ true
listed-from outcomes directories path is =
    let named = flat_map (named_at outcomes) directories in
    among-in_order (λ one. bytes_eq one path) (named ++ directories)
    ∙ one_of-append path named directories ∙ or_right (is_one_of path named) (is_one_of path directories) is

pub needed-among : (outcomes : List ℕ → PathOutcome) (listed : List (List ℕ)) (path : List ℕ) → is_one_of path listed ≡ true
    → is_one_of path (needed_among outcomes listed) ≡ true
needed-among outcomes listed path is =
    let targets = filter_map target_of (items_among outcomes listed) in
    among-in_order (λ one. bytes_eq one path) (listed ++ targets)
    ∙ one_of-append path listed targets ∙ ap (λ b. b || is_one_of path targets) is

pub listed-has : (world : World) (path : List ℕ) → is_one_of path (directories (files_in world)) ≡ true
    → is_one_of path (listed_paths world) ≡ true
listed-has world = listed-from (outcome_at world) (directories (files_in world))

pub needed-has : (world : World) (path : List ℕ) → is_one_of path (listed_paths world) ≡ true → is_one_of path (needed_paths world) ≡ true
needed-has world = needed-among (outcome_at world) (listed_paths world)

-- ---- what is known of paths

-- what isn't there is nothing
pub absent-of : (outcome : PathOutcome) → is_there outcome ≡ false → outcome ≡ Absent
absent-of Absent is = refl
absent-of (Faulty fault) is = absurd cc
absent-of (Port port) is = absurd cc
absent-of (BadPort fault) is = absurd cc
absent-of (Lists words) is = absurd cc
absent-of (BadList fault) is = absurd cc
absent-of FlavoredList is = absurd cc
absent-of Other is = absurd cc

module _ (world : World) (entries : List ℕ → Option PathOutcome) (path : List ℕ) where
  lacking_by : (there : Bool) → has_makefile world path ≡ there → (if there then entries path else Some Absent) ≡ None
      → (has_makefile world path ≡ true) × (entries path ≡ None)
  lacking_by true e is = (e, is)
  lacking_by false e is = absurd cc

  -- a path of which it isn't known what it leads to has a makefile and no row
  pub lacking-there : decided world entries path ≡ None → (has_makefile world path ≡ true) × (entries path ≡ None)
  lacking-there is = lacking_by (has_makefile world path) refl is

  pub lacking-of : has_makefile world path ≡ true → entries path ≡ None → decided world entries path ≡ None
  lacking-of there none = ap (λ (b : Bool). if b then entries path else Some Absent) there ∙ none

  known_by : (there : Bool) → is_some (entries path) ≡ true → is_some (if there then entries path else Some Absent) ≡ true
  known_by true some = some
  known_by false some = refl

  -- it is known of a path with a row, and of a path without a makefile
  pub decided-known : is_some (entries path) ≡ true → is_some (decided world entries path) ≡ true
  decided-known some = known_by (has_makefile world path) some

  pub decided-absent : has_makefile world path ≡ false → is_some (decided world entries path) ≡ true
  decided-absent there = ap (λ (b : Bool). is_some (if b then entries path else Some Absent)) there

  -- a path with a makefile of which it is known has a row
  pub decided-there : has_makefile world path ≡ true → is_some (decided world entries path) ≡ true → is_some (entries path) ≡ true
  decided-there there some = ap (λ (b : Bool). is_some (if b then entries path else Some Absent)) (sym there) ∙ some

-- the same rows decide the same
pub decided-same : (world : World) (one other : List ℕ → Option PathOutcome) → ((path : List ℕ) → one path ≡ other path)
    → (paths : List (List ℕ)) → AreDecided world one paths → AreDecided world other paths
decided-same world one other same paths known path is =
    ap (λ row. is_some (if has_makefile world path then row else Some Absent)) (sym (same path)) ∙ known path is

-- the same of one path
pub decided-one : (world : World) (one other : List ℕ → Option PathOutcome) → ((path : List ℕ) → one path ≡ other path) → (path : List ℕ)
    → is_some (decided world one path) ≡ true → is_some (decided world other path) ≡ true
decided-one world one other same path known = ap (λ row. is_some (if has_makefile world path then row else Some Absent))
    (sym (same path)) ∙ known

-- ---- rows that name the same paths

pub alike-same : (path : List ℕ) (old new : PathOutcome) → new ≡ old → NameAlike path old new
alike-same path old new same = record { words = ap (named_in path) same; items = ap targets_in same }

-- Where it is known what these paths lead to, and outdated rows are those of makefiles, fresh rows say what they lead to.
pub alike-fresh : (world : World) (known outdated : MemoryRows) (paths : List (List ℕ)) → AreDecided world (entries_in known) paths
    → ((path : List ℕ) → is_some (entries_in outdated path) ≡ true → has_makefile world path ≡ true)
    → AreAlikeAt (led_to known outdated) (known_in (entries_in known)) paths
alike-fresh world known outdated paths have there path is =
    alike-same path (led_to known outdated path) (known_in (entries_in known) path)
    (by (entries_in known path) refl (entries_in outdated path) refl)
  where
    by : (row : Option PathOutcome) → entries_in known path ≡ row → (before : Option PathOutcome) → entries_in outdated path ≡ before
        → known_row row ≡ known_row (option_or row before)
    by (Some row) e before f = refl
    by None e None f = refl
    by None e (Some before) f =
        absurd (false≢true (sym (ap is_some e) ∙ decided-there world (entries_in known) path (there path (ap is_some f)) (have path is)))

-- ---- rows that are right

module _ (world : World) (rows : ShownRows) (kept : AreKept world rows) where
  shown_by : (path : List ℕ) (row : ShownRow) (stale : Bool) → row.stale ≡ stale → rows path ≡ Some row
      → is_some (if stale then None else Some row.row.outcome) ≡ true
      → rows path ≡ Some (fresh_row world path)
  shown_by path row true e is some = absurd (false≢true some)
  shown_by path row false e is some =
      is ∙ ap Some (ap (λ (stale : Bool). let one : ShownRow = record { row = row.row; stale = stale } in one) e
      ∙ ap (λ row. let one : ShownRow = record { row = row; stale = false } in one) (kept.right path row is e).same)

  shown_at : (path : List ℕ) (row : Option ShownRow) → rows path ≡ row → is_some (option_and_then fresh_outcome row) ≡ true
      → rows path ≡ Some (fresh_row world path)
  shown_at path None is some = absurd (false≢true some)
  shown_at path (Some row) is some = shown_by path row row.stale refl is some

  -- a row that is fresh is the right one
  pub row-fresh : (path : List ℕ) → is_some (fresh rows path) ≡ true → rows path ≡ Some (fresh_row world path)
  row-fresh path some = shown_at path (rows path) refl some

  pub outcome-fresh : (path : List ℕ) → is_some (fresh rows path) ≡ true → fresh rows path ≡ Some (outcome_at world path)
  outcome-fresh path some = ap (option_and_then fresh_outcome) (row-fresh path some)

  -- its makefile is there
  pub there-fresh : (path : List ℕ) → is_some (fresh rows path) ≡ true → has_makefile world path ≡ true
  there-fresh path some = kept.there path (fresh_row world path) (row-fresh path some) refl

  say_absent : (path : List ℕ) (row : Option PathOutcome) → fresh rows path ≡ row → has_makefile world path ≡ false
      → known_row row ≡ outcome_at world path
  say_absent path None is there = sym (absent-of (outcome_at world path) there)
  say_absent path (Some outcome) is there = absurd (false≢true (sym there ∙ there-fresh path (ap is_some is)))

  say_by : (path : List ℕ) (there : Bool) → has_makefile world path ≡ there → is_some (if there then fresh rows path else Some Absent) ≡
      true → known_in (fresh rows) path ≡ outcome_at world path
  say_by path true e some = ap known_row (outcome-fresh path some)
  say_by path false e some = say_absent path (fresh rows path) refl e

  -- rows say what the paths lead to of which it is known
  pub say-all : (paths : List (List ℕ)) → AreDecided world (fresh rows) paths → SayAll world (fresh rows) paths
  say-all paths known path is = say_by path (has_makefile world path) refl (known path is)

  -- the fresh rows of needed paths are left
  module _ (new : ShownRows) (known : HaveFresh world rows)
      (left : (path : List ℕ) → new path ≡ (if is_fresh_of (needed_paths world) rows path then rows path else None)) where
    current_at : (path : List ℕ) (need some there : Bool) → is_one_of path (needed_paths world) ≡ need → is_some (fresh rows path) ≡ some
        → has_makefile world path ≡ there
        → (if need && some then rows path else None) ≡ (if need && there then Some (fresh_row world path) else None)
    current_at path true true true e f g = row-fresh path f
    current_at path true true false e f g = absurd (false≢true (sym g ∙ there-fresh path f))
    current_at path true false true e f g = absurd (false≢true (sym f ∙ decided-there world (fresh rows) path g (known path e)))
    current_at path true false false e f g = refl
    current_at path false some there e f g = refl

    pub AreCurrent-left : AreCurrent world new
    AreCurrent-left = record {
      each = λ path. left path ∙ current_at path (is_one_of path (needed_paths world)) (is_some (fresh rows path))
          (has_makefile world path) refl refl refl;
    }

    old_left : (path : List ℕ) (row : ShownRow) (is : Bool) → (if is then rows path else None) ≡ Some row → rows path ≡ Some row
    old_left path row true there = there
    old_left path row false there = absurd cc

    was_there : (path : List ℕ) (row : ShownRow) → new path ≡ Some row → rows path ≡ Some row
    was_there path row is = old_left path row (is_fresh_of (needed_paths world) rows path) (sym (left path) ∙ is)

    pub AreKept-left : AreKept world new
    AreKept-left = record {
      right = λ path row is stale. kept.right path row (was_there path row is) stale;
      there = λ path row is stale. kept.there path row (was_there path row is) stale;
    }

  -- a path has its row now
  module _ (path : List ℕ) (right : IsRightRow world path (right_row world path))
      (makefile : has_makefile world path ≡ true) (new : ShownRows)
      (put : (other : List ℕ) → new other ≡ (if bytes_eq path other then Some (fresh_row world path) else rows other)) where
    put_right : (other : List ℕ) (same : Bool) → bytes_eq path other ≡ same → (row : ShownRow) → new other ≡ Some row → row.stale ≡ false
        → IsRightRow world other row.row
    put_right other true same row e stale =
        let there : new other ≡ Some (fresh_row world path) = put other
        ∙ ap (λ (b : Bool). if b then Some (fresh_row world path) else rows other) same in
        let the_row : fresh_row world path ≡ row = cc in
        subst (λ (one : ShownRow). IsRightRow world other one.row) the_row (subst (λ at. IsRightRow world at (right_row world path))
        ((bytes_eq-Decides path other).0 same) right)
    put_right other false same row e stale = kept.right other row
        (sym (put other ∙ ap (λ (b : Bool). if b then Some (fresh_row world path) else rows other) same) ∙ e) stale

    put_there : (other : List ℕ) (same : Bool) → bytes_eq path other ≡ same → (row : ShownRow) → new other ≡ Some row → row.stale ≡ false
        → is_there row.row.outcome ≡ true
    put_there other true same row e stale =
        let there : new other ≡ Some (fresh_row world path) = put other
        ∙ ap (λ (b : Bool). if b then Some (fresh_row world path) else rows other) same in
        let the_row : fresh_row world path ≡ row = cc in
        subst (λ (one : ShownRow). is_there one.row.outcome ≡ true) the_row makefile
    put_there other false same row e stale = kept.there other row
        (sym (put other ∙ ap (λ (b : Bool). if b then Some (fresh_row world path) else rows other) same) ∙ e) stale

    pub AreKept-put : AreKept world new
    AreKept-put = record {
      right = λ other row e stale. put_right other (bytes_eq path other) refl row e stale;
      there = λ other row e stale. put_there other (bytes_eq path other) refl row e stale;
    }

    said_cases : (other : List ℕ) (same : Bool) → option_and_then said_if_fresh (if same then Some (fresh_row world path) else rows other) ≡
        (if same then Some (said_by (right_row world path)) else fresh_said rows other)
    said_cases other true = refl
    said_cases other false = refl

    pub said-put : (other : List ℕ) → fresh_said new other ≡ (if bytes_eq path other then Some (said_by (right_row world path))
        else fresh_said rows other)
    said-put other = ap (option_and_then said_if_fresh) (put other) ∙ said_cases other (bytes_eq path other)

  -- ---- what the rows of a stage say that is at its end

  module _ (enough : KnownRowsAreEnough) (known : MemoryRows) (says : Says rows known) where
    same_known : entries_in known ≡ fresh rows
    same_known i path = entries-fresh rows known says path i

    -- the rows of directories say which paths are listed
    pub listed-said : AreDecided world (fresh rows) (directories (files_in world)) → listed_from (known_in (entries_in known))
        (directories (files_in world)) ≡ listed_paths world
    listed-said are =
        ap (λ entries. listed_from (known_in entries) (directories (files_in world))) same_known
        ∙ enough.listed world (fresh rows) (say-all (directories (files_in world)) are)

    -- the rows of listed paths say which are needed
    pub needed-said : AreDecided world (fresh rows) (listed_paths world) → needed_among (known_in (entries_in known))
        (listed_paths world) ≡ needed_paths world
    needed-said are =
        ap (λ entries. needed_among (known_in entries) (listed_paths world)) same_known
        ∙ enough.needed world (fresh rows) (say-all (listed_paths world) are)

-- ---- rows that are current

-- rows that are shown the same are current too, and say the same where they are fresh
module _ (world : World) (old new : ShownRows) (same : ShowsSame old new) where
  pub AreCurrent-same : AreCurrent world old → AreCurrent world new
  AreCurrent-same current = record { each = λ path. same path ∙ current.each path }

pub said-same : (old new : ShownRows) → ShowsSame old new → (path : List ℕ) → fresh_said old path ≡ fresh_said new path
said-same old new same path = sym (ap (option_and_then said_if_fresh) (same path))

module _ (world : World) (rows : ShownRows) (current : AreCurrent world rows) where
  said_if : (path : List ℕ) (needed : Bool) → option_and_then said_if_fresh (if needed then Some (fresh_row world path) else None) ≡
      option_map said_in_row (if needed then Some (fresh_row world path) else None)
  said_if path true = refl
  said_if path false = refl

  -- none of them is stale
  pub says-current : (known : MemoryRows) → ((path : List ℕ) → said_in known path ≡ fresh_said rows path) → SaysAll rows known
  says-current known says path =
      says path ∙ ap (option_and_then said_if_fresh) (current.each path) ∙ said_if path (is_evaluated world path)
      ∙ ap (option_map said_in_row) (sym (current.each path))

  abbrev outcome_of : Option ShownRow → PathOutcome
  outcome_of row = known_row (option_map (λ (said : Said). said.outcome) (option_map said_in_row row))

  have_by : (path : List ℕ) (there : Bool) → has_makefile world path ≡ there
      → outcome_of (if there then Some (fresh_row world path) else None) ≡ outcome_at world path
  have_by path true e = refl
  have_by path false e = sym (absent-of (outcome_at world path) e)

  -- what says all that they say says what each path leads to on which the index depends
  pub have-said : (known : MemoryRows) → SaysAll rows known → SayAll world (entries_in known) (needed_paths world)
  have-said known says path is =
      ap (λ said. known_row (option_map (λ (said : Said). said.outcome) said)) (says path)
      ∙ ap outcome_of (current.each path ∙ ap (λ (b : Bool). if b && has_makefile world path then Some (fresh_row world path) else None) is)
      ∙ have_by path (has_makefile world path) refl

-- ---- rows of which the fresh ones are left that are needed

module _ (old new : ShownRows) (known left : MemoryRows) (needed : List (List ℕ)) (others : Vec (String Global) Global)
    (leaves : LeavesFresh needed old new others)
    (says : (path : List ℕ) → said_in known path ≡ fresh_said old path)
    (keeps : (path : List ℕ) → said_in left path ≡ (if is_one_of path (map string_bytes others.items) then None else said_in known path))
  where
    nothing_there : (row : Option ShownRow) → is_some row ≡ false → option_and_then said_if_fresh row ≡ None
    nothing_there None is = refl
    nothing_there (Some row) is = absurd (false≢true (sym is))

    not_there : (path : List ℕ) → is_fresh_of needed old path ≡ false → is_one_of path (map string_bytes others.items) ≡ false
        → (there : Bool) → is_some (old path) ≡ there → fresh_said old path ≡ None
    not_there path apart other true is = absurd (false≢true (sym other ∙ leaves.all path apart is))
    not_there path apart other false is = nothing_there (old path) is

    left_by : (path : List ℕ) (need other : Bool) → is_fresh_of needed old path ≡ need
        → is_one_of path (map string_bytes others.items) ≡ other
        → (if other then None else said_in known path) ≡ option_and_then said_if_fresh (if need then old path else None)
    left_by path true true e f = absurd (false≢true (sym (leaves.apart path e) ∙ f))
    left_by path true false e f = says path
    left_by path false true e f = refl
    left_by path false false e f = says path ∙ not_there path e f (is_some (old path)) refl

    pub said-left : (path : List ℕ) → said_in left path ≡ fresh_said new path
    said-left path =
        keeps path ∙ left_by path (is_fresh_of needed old path) (is_one_of path (map string_bytes others.items)) refl refl
        ∙ sym (ap (option_and_then said_if_fresh) (leaves.left path))

-- ---- the next path of a stage

module _ (world : World) (rows : ShownRows) (paths : List (List ℕ)) (stage : Stage) (is : IsStage world rows paths stage) where
  -- what a stage has passed by its own rows
  pub passed-known : HasPassed world stage stage.place
  passed-known =
      decided-same world (fresh rows) (entries_in stage.known) (λ path. sym (entries-fresh rows stage.known is.knows path))
      (take stage.place (paths_of stage)) is.passed

  -- a stage that has come to a place
  pub stage-at : (place : ℕ) → HasPassed world stage place → (more : Stage) → more ≡ record stage { place = place }
      → IsStage world rows paths more
  stage-at place passed more same = subst (IsStage world rows paths) (sym same) (record {
    among = is.among;
    others = is.others;
    knows = is.knows;
    passed = decided-same world (entries_in stage.known) (fresh rows) (entries-fresh rows stage.known is.knows)
        (take place (paths_of stage)) passed;
  })

  pub lacking-at : ((path : List ℕ) → is_one_of path paths ≡ true → is_one_of path (needed_paths world) ≡ true)
      → (found : FoundPath) → LacksRow world stage found → IsLacking world rows (string_bytes found.path)
  lacking-at needed found lacks =
      let path = string_bytes found.path in
      record {
        needed = needed path (is.among path lacks.among);
        lacking = lacking-of world (fresh rows) path (there-found world found lacks.found)
            (sym (entries-fresh rows stage.known is.knows path) ∙ lacks.lacking);
      }

  decided_by : LacksNone world stage → (path : List ℕ) → is_one_of path paths ≡ true → (among : Bool)
      → is_one_of path (paths_of stage) ≡ among → is_some (decided world (fresh rows) path) ≡ true
  decided_by none path one true e = decided-same world (entries_in stage.known) (fresh rows) (entries-fresh rows stage.known is.knows)
      (paths_of stage) none path e
  decided_by none path one false e = is.others path one e

  -- at its end, it is known of all paths what they lead to
  pub all-decided : LacksNone world stage → AreDecided world (fresh rows) paths
  all-decided none path one = decided_by none path one (is_one_of path (paths_of stage)) refl

-- a stage that begins
pub none-passed : (world : World) (entries : List ℕ → Option PathOutcome) (place : ℕ) (paths : List (List ℕ)) → place ≡ 0
    → AreDecided world entries (take place paths)
none-passed world entries place paths begins path one = absurd (false≢true (sym (ap (λ n. is_one_of path (take n paths)) begins) ∙ one))

-- the stage of listed paths comes after that of directories
pub IsListedStage-after : (world : World) (rows : ShownRows) → AreKept world rows → KnownRowsAreEnough
    → (first : DirectoryStage) (next : ListedStage)
    → IsDirectoryStage world rows first → AreDecided world (fresh rows) (directories (files_in world)) → ListsPaths world rows first next
    → IsListedStage world rows next
IsListedStage-after world rows kept enough first next is are lists =
    let knows = subst (Says rows) (sym lists.known) is.stage.knows in
    let listed : listed_of next ≡ listed_paths world =
    lists.listed ∙ ap (listed_from (known_in (entries_in first.stage.known))) is.directories
    ∙ listed-said world rows kept enough first.stage.known is.stage.knows are in
    record {
      stage = record {
        among = λ path one. ap (is_one_of path) (sym listed) ∙ lists.among path one;
        others = λ path one apart. decided-one world (entries_in next.stage.known) (fresh rows)
            (entries-fresh rows next.stage.known knows) path
            (lists.others path (ap (is_one_of path) listed ∙ one) apart);
        knows = knows;
        passed = none-passed world (fresh rows) next.stage.place (paths_of next.stage) lists.place;
      };
      directories = ap (λ (names : Vec (String Global) Global). map string_bytes names.items) lists.directories ∙ is.directories;
      listed = listed;
      last = lists.last;
    }

-- ---- the last stage

module _ (law : AlikeRowsListTheSame) (enough : KnownRowsAreEnough) (world : World) (rows : ShownRows) (next : ListedStage)
    (has : HasListed world rows next) where
  known_listed : AreDecided world (entries_in next.stage.known) (listed_of next)
  known_listed = subst (AreDecided world (entries_in next.stage.known)) (sym has.far.listed)
      (decided-same world (fresh rows) (entries_in next.stage.known)
      (λ path. sym (entries-fresh rows next.stage.known has.far.stage.knows path)) (listed_paths world) has.known)

  pub needed-listed : needed_among (known_in (entries_in next.stage.known)) (listed_of next) ≡ needed_paths world
  needed-listed =
      ap (needed_among (known_in (entries_in next.stage.known))) has.far.listed
      ∙ needed-said world rows has.kept enough next.stage.known has.far.stage.knows has.known

  -- the lists of the index of before are kept
  module _ (last : LastIndex) (recalls : Recalls world rows next.stage.known (listed_of next) last) where
    needed_same : needed_of next.stage.known (listed_of next) last ≡ needed_paths world
    needed_same =
        sym (law.needed (led_to next.stage.known last.outdated) (known_in (entries_in next.stage.known)) (listed_of next)
        (alike-fresh world next.stage.known last.outdated (listed_of next) known_listed
        (λ path some. (recalls.alone path (recalls.outdated path some)).1)))
        ∙ needed-listed

    other_at : (path : List ℕ) → is_one_of path (needed_paths world) ≡ true → is_one_of path (paths_in last) ≡ false → (some : Bool)
        → is_some (rows path) ≡ some
        → is_some (decided world (fresh rows) path) ≡ true
    other_at path one apart true e =
        decided-known world (fresh rows) path (ap is_some (sym (entries-fresh rows next.stage.known has.far.stage.knows path))
        ∙ recalls.fresh path e apart)
    other_at path one apart false e = decided-absent world (fresh rows) path
        (recalls.missing path (ap (is_one_of path) needed_same ∙ one) e)

    pub last-kept : (stage : Stage) → stage ≡ record { paths = last.paths; place = 0; known = next.stage.known }
        → IsLastStage world rows (record { stage = stage; directories = next.directories; listed = next.listed; beside = None })
    last-kept stage same = record {
      stage = subst (IsStage world rows (needed_paths world)) (sym same) (record {
        among = λ path one. ap (is_one_of path) (sym needed_same) ∙ (recalls.alone path (recalls.among path one)).0;
        others = λ path one apart. other_at path one apart (is_some (rows path)) refl;
        knows = has.far.stage.knows;
        passed = none-passed world (fresh rows) 0 (paths_in last) refl;
      });
      directories = has.far.directories;
      listed = has.far.listed;
      beside = subst (λ paths. HaveRowsAlone world paths rows) needed_same recalls.alone;
    }

  -- the paths beside the listed ones are looked for
  module _ (named : NeededAreNamed) (of_directories : AreOfDirectories world) (beside : Vec (String Global) Global)
      (are : AreBeside world next.stage.known (listed_of next) (map string_bytes beside.items)) where
    abbrev paths : List (List ℕ)
    paths = map string_bytes beside.items

    abbrev is_target : List ℕ → Bool
    is_target = is_target_among (known_in (entries_in next.stage.known)) (listed_of next)

    abbrev there : List ℕ → Bool
    there = is_there_at world next.stage.known

    needed_is : (path : List ℕ) → is_one_of path (needed_paths world) ≡ (is_one_of path (listed_of next) || is_target path)
    needed_is path = ap (is_one_of path) (sym needed-listed) ∙ named (known_in (entries_in next.stage.known)) (listed_of next) path

    one_then : (l c t h : Bool) → (c && t && h) ≡ true → (l || t) ≡ true
    one_then true c t h e = refl
    one_then false true t h e = (and_parts t h e).0
    one_then false false t h e = absurd (false≢true e)

    all_then : (l c t h : Bool) → (c ≡ false → l ≡ true) → h ≡ true → (l || t) ≡ true → (l || (c && t && h)) ≡ true
    all_then true c t h plain e f = refl
    all_then false false t h plain e f = plain refl
    all_then false true t h plain e f = and_from t h f e

    needed_one : (path : List ℕ) → is_one_of path paths ≡ true → is_one_of path (needed_paths world) ≡ true
    needed_one path one = needed_is path ∙ one_then (is_one_of path (listed_of next)) (has_comma path) (is_target path) (there path)
        (sym (are.are path) ∙ one)

    there_makefile : (path : List ℕ) → has_makefile world path ≡ true → there path ≡ true
    there_makefile path makefile = or_right (is_some (entries_in next.stage.known path)) (has_makefile world path) makefile

    -- without a comma, a path with a makefile is a directory, and so is listed
    listed_plain : (path : List ℕ) → has_makefile world path ≡ true → has_comma path ≡ false → is_one_of path (listed_of next) ≡ true
    listed_plain path makefile plain =
        ap (is_one_of path) has.far.listed ∙ listed-from (outcome_at world) (directories (files_in world)) path
        (of_directories path plain makefile)

    among_all : (path : List ℕ) → has_makefile world path ≡ true → is_one_of path (needed_paths world) ≡ true
        → (is_one_of path (listed_of next) || is_one_of path paths) ≡ true
    among_all path makefile one =
        ap (λ b. is_one_of path (listed_of next) || b) (are.are path)
        ∙ all_then (is_one_of path (listed_of next)) (has_comma path) (is_target path) (there path) (listed_plain path makefile)
        (there_makefile path makefile) (sym (needed_is path) ∙ one)

    pub needed-beside : AreNeededBeside world beside
    needed-beside = record {
      ordered = are.ordered;
      needed = needed_one;
      all = λ path makefile one. ap (λ listed. is_one_of path listed || is_one_of path paths) (sym has.far.listed)
          ∙ among_all path makefile one;
    }

    module _ (lacking : Vec (String Global) Global)
        (lacks : (path : List ℕ) → is_one_of path (map string_bytes lacking.items) ≡
        (is_one_of path paths && is_none (entries_in next.stage.known path))) where
      known_at : (path : List ℕ) (row : Option PathOutcome) → entries_in next.stage.known path ≡ row → (true && is_none row) ≡ false
          → is_some (decided world (entries_in next.stage.known) path) ≡ true
      known_at path None e out = absurd (false≢true (sym out))
      known_at path (Some row) e out = decided-known world (entries_in next.stage.known) path (ap is_some e)

      known_by_list : (path : List ℕ) (listed : Bool) → is_one_of path (listed_of next) ≡ listed → (listed || is_one_of path paths) ≡ true
          → (is_one_of path paths && is_none (entries_in next.stage.known path)) ≡ false
          → is_some (decided world (entries_in next.stage.known) path) ≡ true
      known_by_list path true e one out = known_listed path e
      known_by_list path false e one out =
          known_at path (entries_in next.stage.known path) refl (ap (λ b. b && is_none (entries_in next.stage.known path)) (sym one) ∙ out)

      other_of : (path : List ℕ) → is_one_of path (needed_paths world) ≡ true → is_one_of path (map string_bytes lacking.items) ≡ false
          → (makefile : Bool) → has_makefile world path ≡ makefile
          → is_some (decided world (fresh rows) path) ≡ true
      other_of path one out false e = decided-absent world (fresh rows) path e
      other_of path one out true e =
          decided-one world (entries_in next.stage.known) (fresh rows) (entries-fresh rows next.stage.known has.far.stage.knows) path
          (known_by_list path (is_one_of path (listed_of next)) refl (among_all path e one) (sym (lacks path) ∙ out))

      among_of : (path : List ℕ) → is_one_of path (map string_bytes lacking.items) ≡ true → is_one_of path paths ≡ true
      among_of path one = (and_parts (is_one_of path paths) (is_none (entries_in next.stage.known path)) (sym (lacks path) ∙ one)).0

      pub last-looked : (stage : Stage) → stage ≡ record { paths = lacking; place = 0; known = next.stage.known }
          → IsLastStage world rows (record { stage = stage; directories = next.directories; listed = next.listed; beside = Some beside })
      last-looked stage same = record {
        stage = subst (IsStage world rows (needed_paths world)) (sym same) (record {
          among = λ path one. needed_one path (among_of path one);
          others = λ path one out. other_of path one out (has_makefile world path) refl;
          knows = has.far.stage.knows;
          passed = none-passed world (fresh rows) 0 (map string_bytes lacking.items) refl;
        });
        directories = has.far.directories;
        listed = has.far.listed;
        beside = needed-beside;
      }

-- the last stage has come to a place
pub last-at : (world : World) (rows : ShownRows) (last : LastStage) → IsLastStage world rows last → (place : ℕ)
    → HasPassed world last.stage place
    → (more : Stage) → more ≡ record last.stage { place = place } → IsLastStage world rows (record last { stage = more })
last-at world rows last is place passed more same = record {
  stage = stage-at world rows (needed_paths world) last.stage is.stage place passed more same;
  directories = is.directories;
  listed = is.listed;
  beside = is.beside;
}

-- ---- the row of a path is made, and written

module _ (world : World) (old new : ShownRows) (walk : Walk) (path : List ℕ) (ready : IsReadyFor world old walk path) (made : MadeRow)
    (is : IsMade world path made)
    (puts : (other : List ℕ)
    → new other ≡ (if bytes_eq (string_bytes made.path) other then Some (record { row = kept_row_seen made.row; stale = false })
    else old other)) where
  put_fresh : (other : List ℕ) → new other ≡ (if bytes_eq path other then Some (fresh_row world path) else old other)
  put_fresh other =
      puts other ∙ ap (λ (r : RowValue). if bytes_eq (string_bytes made.path) other then Some
      (let one : ShownRow = record { row = r; stale = false } in one) else old other) is.row.same
      ∙ ap (λ at. if bytes_eq at other then Some (fresh_row world path) else old other) is.at

  itself : IsRightRow world path (right_row world path)
  itself = record { same = refl; answered = is.row.answered }

  makefile : has_makefile world path ≡ true
  makefile = (lacking-there world (fresh old) path ready.lacking.lacking).0

  pub kept-made : AreKept world new
  kept-made = AreKept-put world old ready.kept path itself makefile new put_fresh

  there_by : (other : List ℕ) (same : Bool) → is_some (if same then Some (fresh_row world path) else old other) ≡
      (same || is_some (old other))
  there_by other true = refl
  there_by other false = refl

  pub more-made : HasRowMore world (string_bytes made.path) (said_by (kept_row_seen made.row)) old new
  more-made = record {
    lacking = subst (IsLacking world old) (sym is.at) ready.lacking;
    says = λ other. said-put world old ready.kept path itself makefile new put_fresh other
        ∙ ap (λ (r : RowValue). if bytes_eq path other then Some (said_by r) else fresh_said old other) (sym is.row.same)
        ∙ ap (λ at. if bytes_eq at other then Some (said_by (kept_row_seen made.row)) else fresh_said old other) (sym is.at);
    there = λ other. ap is_some (put_fresh other) ∙ there_by other (bytes_eq path other)
        ∙ ap (λ at. bytes_eq at other || is_some (old other)) (sym is.at);
  }

  renews-made : (spent : Spent) → spent ≡ made.spent → RenewsRow world old new spent
  renews-made spent same = record {
    path = path;
    needed = ready.lacking.needed;
    lacking = ready.lacking.lacking;
    spent = subst (SpendsOnPath world path) (sym same) is.spent;
    rows = put_fresh;
  }

  -- in a turn, before which so much was spent on it
  pub evaluates-made : (units : ℕ) (before spent : Spent) → spent_in_all before spent ≡ made.spent → MakesInTime world (cost_at world path)
      (pair_at world path) units before made.spent → IsShort units before made.spent
      → Evaluates world units (refresh_at old before) (refresh_at new no_spending) spent
  unfolding renews-made
  evaluates-made units before spent same in_time short = record {
    renews = (renews-made (spent_in_all before spent) same, refl);
    in_time = subst (MakesInTime world (cost_at world path) (pair_at world path) units before) (sym same) in_time;
    short = subst (IsShort units before) (sym same) short;
  }
