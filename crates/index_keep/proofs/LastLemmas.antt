-- The index of before names changed, and the rows that are left of it.
use Rattle.std.proofs.Common.{◌≡◌, ◌∙◌, ap, subst, sym, refl, ℕ, Bool, true, false, ◌||◌, if◌then◌else◌, List, map, Option, Some, None}
use Rattle.std.proofs.Common.{is_some, option_map, option_and_then, String, Global, string_bytes}
use Rattle.std.proofs.lemmas.Bool.{false≢true}
use Rattle.std.proofs.lemmas.Slice.Eq.{bytes_eq-Decides}
use Rattle.std.specs.Option.{option_or}
use Rattle.std.specs.Prelude.{Vec}
use Rattle.std.specs.Str.{bytes_eq}
use Rattle.mk_paths.specs.World.{World}
use Rattle.port_index.specs.Alike.{AlikeRowsListTheSame, AreAlikeAt, NameAlike}
use Rattle.port_index.specs.Efforts.{has_makefile}
use Rattle.port_index.specs.FilledRows.{is_one_of}
use Rattle.port_index.specs.Index.{needed_among}
use Rattle.port_index.specs.TreePaths.{listed_from}
use Rattle.port_index.specs.PathOutcomes.{PathOutcome}
use Rattle.port_index.specs.Seen.{Said, entries_in, has_asked_for, known_in, known_row, names_said_in, said_in}
use Rattle.port_index.specs.declared.memory_rows.MemoryRows.{MemoryRows}
use Rattle.port_index.specs.declared.known_index.KnownIndex.{KnownIndex}
use Rattle.index_row.specs.Rows.{RowValue, row_of}
use Rattle.index_store.specs.Entries.{StoredValue, Entries}
use Rattle.index_keep.specs.Last.{IsLast, NamesAsBefore, Recalls, RecallsLists, Serves, led_to, listed_in, needed_before, needed_of}
use Rattle.index_keep.specs.Last.{paths_in}
use Rattle.index_keep.specs.declared.last_index.LastIndex.{LastIndex}
use Rattle.index_keep.specs.declared.last_index.LastLists.{LastLists}
use Rattle.index_keep.specs.Walk.{HasRowMore}
use Rattle.index_keep.proofs.ShownLemmas.{entries-fresh}
use Rattle.index_keep.specs.Shown.{ShownRow, ShownRows, shown, show_row, show_stored, asked_one, fresh, fresh_said, said_if_fresh}
use Rattle.index_keep.specs.Shown.{said_in_row}
use Rattle.index_keep.proofs.WalkLemmas.{alike-same, lacking-there}

module _ (test : List ℕ → Bool) (rows : ShownRows) (index : KnownIndex) (last : IsLast test rows index) where
  -- whether a path's row asked for a name that has changed
  abbrev pub asked : List ℕ → Bool
  asked path = has_asked_for test (names_said_in index.rows path)

  names_at : (path : List ℕ) (row : Option ShownRow) → rows path ≡ row → names_said_in index.rows path ≡ option_map
      (λ (said : Said). said.names) (option_map said_in_row row)
  names_at path row is = ap (option_map (λ (said : Said). said.names)) (last.says path ∙ ap (option_map said_in_row) is)

  pub asked-there : (path : List ℕ) (row : ShownRow) → rows path ≡ Some row → asked path ≡ asked_one test row.row
  asked-there path row is = ap (has_asked_for test) (names_at path (Some row) is)

  asked_not_there : (path : List ℕ) → rows path ≡ None → asked path ≡ false
  asked_not_there path is = ap (has_asked_for test) (names_at path None is)

  left_at : (path : List ℕ) (row : Option ShownRow) → rows path ≡ row → (if asked path then None else said_in index.rows path) ≡
      option_and_then said_if_fresh row
  left_at path None is =
      ap (λ (b : Bool). if b then None else said_in index.rows path) (asked_not_there path is) ∙ last.says path
      ∙ ap (option_map said_in_row) is
  left_at path (Some row) is =
      ap (λ (b : Bool). if b then None else said_in index.rows path) (asked-there path row is ∙ sym (last.stale path row is))
      ∙ ap (λ (said : Option Said). if row.stale then None else said) (last.says path ∙ ap (option_map said_in_row) is)

  -- without the rows that asked for such a name, the rows say what is fresh
  pub left-fresh : (path : List ℕ) → (if asked path then None else said_in index.rows path) ≡ fresh_said rows path
  left-fresh path = left_at path (rows path) refl

  -- ---- what is kept of it as a refresh begins

  module _ (left taken : MemoryRows) (leaves : (path : List ℕ) → said_in left path ≡ (if asked path then None else said_in index.rows path))
      (takes : (path : List ℕ) → said_in taken path ≡ (if asked path then said_in index.rows path else None)) where
    abbrev outcome_of : Option Said → Option PathOutcome
    outcome_of = option_map (λ (said : Said). said.outcome)

    or_none : (row : Option PathOutcome) → option_or row None ≡ row
    or_none None = refl
    or_none (Some row) = refl

    either_part : (said : Option Said) (b : Bool) → option_or (outcome_of (if b then None else said))
        (outcome_of (if b then said else None)) ≡ outcome_of said
    either_part said true = refl
    either_part said false = or_none (outcome_of said)

    led_as_before : (path : List ℕ) → led_to left taken path ≡ known_in (entries_in index.rows) path
    led_as_before path =
        ap (λ said. known_row (option_or (outcome_of said) (entries_in taken path))) (leaves path)
        ∙ ap (λ said. known_row (option_or (outcome_of (if asked path then None else said_in index.rows path)) (outcome_of said)))
        (takes path)
        ∙ ap known_row (either_part (said_in index.rows path) (asked path))

    said_there : (path : List ℕ) (row : Option ShownRow) → rows path ≡ row → is_some (outcome_of (said_in index.rows path)) ≡ is_some row
    said_there path None is = ap (λ said. is_some (outcome_of said)) (last.says path ∙ ap (option_map said_in_row) is)
    said_there path (Some row) is = ap (λ said. is_some (outcome_of said)) (last.says path ∙ ap (option_map said_in_row) is)

    among_taken : (path : List ℕ) (b : Bool) → is_some (outcome_of (if b then said_in index.rows path else None)) ≡ true
        → is_some (outcome_of (said_in index.rows path)) ≡ true
    among_taken path true some = some
    among_taken path false some = absurd (false≢true some)

    led : led_to left taken ≡ known_in (entries_in index.rows)
    led i path = led_as_before path i

    some_asked : (path : List ℕ) (row : Option ShownRow) → rows path ≡ row → asked path ≡ true → is_some row ≡ true
    some_asked path None is one = absurd (false≢true (sym (asked_not_there path is) ∙ one))
    some_asked path (Some row) is one = refl

    left_some : (path : List ℕ) → is_some (rows path) ≡ true → asked path ≡ false → is_some (entries_in left path) ≡ true
    left_some path some apart =
        ap (λ said. is_some (outcome_of said)) (leaves path ∙ ap (λ (b : Bool). if b then None else said_in index.rows path) apart)
        ∙ said_there path (rows path) refl ∙ some

    module _ (asking : Vec (String Global) Global) (asks : (path : List ℕ) → is_one_of path (map string_bytes asking.items) ≡ asked path)
      where
        abbrev begun : LastLists
        begun = record { listed = index.paths.listed; last = record { outdated = taken; paths = asking } }

        needed_as : needed_of left (listed_in begun) begun.last ≡ needed_before index
        needed_as = ap (λ outcomes. needed_among outcomes (listed_in begun)) led

        pub recalls-begun : (world : World) → Serves world rows index
            → RecallsLists world rows left (map string_bytes index.paths.directories.items) begun
        recalls-begun world serves = record {
          listed = last.listed ∙ ap (λ outcomes. listed_from outcomes (map string_bytes index.paths.directories.items)) (sym led);
          last = record {
            alone = λ path some. (ap (is_one_of path) needed_as ∙ last.needed path some, serves.there path some);
            missing = λ path one none. serves.missing path (ap (is_one_of path) (sym needed_as) ∙ one) none;
            outdated = λ path some. sym (said_there path (rows path) refl)
                ∙ among_taken path (asked path) (ap (λ said. is_some (outcome_of said)) (sym (takes path)) ∙ some);
            among = λ path one. some_asked path (rows path) refl (sym (asks path) ∙ one);
            fresh = λ path some apart. left_some path some (sym (asks path) ∙ apart);
          };
        }

-- ---- lists that are kept

module _ (law : AlikeRowsListTheSame) (world : World) (path : List ℕ) (said : Said) (old new : ShownRows)
    (more : HasRowMore world path said old new)
    (known after : MemoryRows) (knows : (other : List ℕ) → said_in known other ≡ fresh_said old other)
    (puts : (other : List ℕ) → said_in after other ≡ (if bytes_eq path other then Some said else said_in known other))
    (last : LastIndex) (names : NamesAsBefore path said.outcome last) where
  lacked : entries_in known path ≡ None
  lacked = entries-fresh old known knows path ∙ (lacking-there world (fresh old) path more.lacking.lacking).1

  put_at : (other : List ℕ) (same : Bool) → bytes_eq path other ≡ same → NameAlike other (led_to known last.outdated other)
      (led_to after last.outdated other)
  put_at other true same =
      subst (λ at. NameAlike at (led_to known last.outdated at) (led_to after last.outdated at)) ((bytes_eq-Decides path other).0 same)
      (subst (λ found. NameAlike path found (led_to after last.outdated path))
      (sym (ap (λ row. known_row (option_or row (entries_in last.outdated path))) lacked ∙ ap known_row names.was))
      (subst (λ found. NameAlike path names.before found)
      (sym (ap (λ row. known_row (option_or (option_map (λ (one : Said). one.outcome) row) (entries_in last.outdated path)))
      (puts path ∙ ap (λ (b : Bool). if b then Some said else said_in known path) ((bytes_eq-Decides path path).1 refl)))) names.alike))
  put_at other false same =
      alike-same other (led_to known last.outdated other) (led_to after last.outdated other)
      (ap (λ row. known_row (option_or (option_map (λ (one : Said). one.outcome) row) (entries_in last.outdated other)))
      (puts other ∙ ap (λ (b : Bool). if b then Some said else said_in known other) same))

  alike : (paths : List (List ℕ)) → AreAlikeAt (led_to known last.outdated) (led_to after last.outdated) paths
  alike paths other is = put_at other (bytes_eq path other) refl

  module _ (listed : List (List ℕ)) (recalls : Recalls world old known listed last) where
    needed_still : needed_of after listed last ≡ needed_of known listed last
    needed_still = law.needed (led_to known last.outdated) (led_to after last.outdated) listed (alike listed)

    alone_at : (other : List ℕ) (same : Bool) → bytes_eq path other ≡ same → (same || is_some (old other)) ≡ true
        → (is_one_of other (needed_of known listed last) ≡ true) × (has_makefile world other ≡ true)
    alone_at other true same some =
        subst (λ at. (is_one_of at (needed_of known listed last) ≡ true) × (has_makefile world at ≡ true))
        ((bytes_eq-Decides path other).0 same)
        (recalls.alone path (recalls.outdated path (ap is_some names.was)))
    alone_at other false same some = recalls.alone other some

    still_there : (other : List ℕ) (same : Bool) → is_some (old other) ≡ true → (same || is_some (old other)) ≡ true
    still_there other true some = refl
    still_there other false some = some

    not_there : (other : List ℕ) (same : Bool) → (same || is_some (old other)) ≡ false → is_some (old other) ≡ false
    not_there other true none = absurd (false≢true (sym none))
    not_there other false none = none

    fresh_at : (other : List ℕ) (same : Bool) → bytes_eq path other ≡ same → (same || is_some (old other)) ≡ true
        → is_one_of other (paths_in last) ≡ false
        → is_some (option_map (λ (one : Said). one.outcome) (if same then Some said else said_in known other)) ≡ true
    fresh_at other true same some apart = refl
    fresh_at other false same some apart = recalls.fresh other some apart

    -- the row of a path that names the same paths as the outdated one
    pub recalls-more : Recalls world new after listed last
    recalls-more = record {
      alone = λ other some.
          let one = alone_at other (bytes_eq path other) refl (sym (more.there other) ∙ some) in
          (ap (is_one_of other) needed_still ∙ one.0, one.1);
      missing = λ other one none. recalls.missing other (ap (is_one_of other) (sym needed_still) ∙ one)
          (not_there other (bytes_eq path other) (sym (more.there other) ∙ none));
      outdated = λ other some. more.there other ∙ still_there other (bytes_eq path other) (recalls.outdated other some);
      among = λ other one. more.there other ∙ still_there other (bytes_eq path other) (recalls.among other one);
      fresh = λ other some apart. ap (λ row. is_some (option_map (λ (one : Said). one.outcome) row)) (puts other)
          ∙ fresh_at other (bytes_eq path other) refl (sym (more.there other) ∙ some) apart;
    }

  -- then the same paths are listed below these directories
  pub listed-more : (directories : List (List ℕ)) → listed_from (led_to after last.outdated) directories ≡ listed_from
      (led_to known last.outdated) directories
  listed-more directories = law.listed (led_to known last.outdated) (led_to after last.outdated) directories (alike directories)

-- ---- rows of which some are taken

module _ (known left taken : List ℕ → Option Said) (before : List ℕ → Bool) (lefts : (path : List ℕ)
    → left path ≡ (if before path then None else known path))
    (takes : (path : List ℕ) → taken path ≡ (if before path then known path else None)) (item : List ℕ) where
  or_false : (b : Bool) → b ≡ (b || false)
  or_false true = refl
  or_false false = refl

  or_true : (b : Bool) → (b || true) ≡ true
  or_true true = refl
  or_true false = refl

  as_before : (path : List ℕ) → taken path ≡ (if before path || false then known path else None)
  as_before path = takes path ∙ ap (λ (b : Bool). if b then known path else None) (or_false (before path))

  left_is : (b : Bool) → before item ≡ b → left item ≡ (if b then None else known item)
  left_is b is = lefts item ∙ ap (λ (b : Bool). if b then None else known item) is

  there : (row : Said) → left item ≡ Some row → (b : Bool) → before item ≡ b → known item ≡ Some row
  there row is true e = let none : left item ≡ None = left_is true e in absurd cc
  there row is false e = sym (left_is false e) ∙ is

  -- the row of an item is taken, which was left so far
  pub taken-put : (row : Said) → left item ≡ Some row → (path : List ℕ) (same : Bool) → bytes_eq item path ≡ same
      → (if same then Some row else taken path) ≡ (if before path || same then known path else None)
  taken-put row is path true e =
      sym (ap (λ (b : Bool). if b then known path else None) (or_true (before path))
      ∙ ap known (sym ((bytes_eq-Decides item path).0 e)) ∙ there row is (before item) refl)
  taken-put row is path false e = as_before path

  none_there : left item ≡ None → (b : Bool) → before item ≡ b → taken item ≡ known item
  none_there is true e = takes item ∙ ap (λ (b : Bool). if b then known item else None) e
  none_there is false e = takes item ∙ ap (λ (b : Bool). if b then known item else None) e ∙ sym (sym (left_is false e) ∙ is)

  -- an item whose row isn't left has none, or it was taken
  pub taken-none : left item ≡ None → (path : List ℕ) (same : Bool) → bytes_eq item path ≡ same
      → taken path ≡ (if before path || same then known path else None)
  taken-none is path true e =
      ap taken (sym ((bytes_eq-Decides item path).0 e)) ∙ none_there is (before item) refl ∙ ap known ((bytes_eq-Decides item path).0 e)
      ∙ sym (ap (λ (b : Bool). if b then known path else None) (or_true (before path)))
  taken-none is path false e = as_before path

-- the stored rows that asked for such a name
pub stored-asked : (test : List ℕ → Bool) (entries : Entries) (index : KnownIndex) (last : IsLast test (shown test entries) index)
    (path : List ℕ) (one : StoredValue) (row : RowValue)
    → entries path ≡ Some one → row_of one.text ≡ Some row → asked_one test row ≡ asked test (shown test entries) index last path
stored-asked test entries index last path one row there is =
    sym (asked-there test (shown test entries) index last path (show_row test one.stale row)
    (ap (option_and_then (show_stored test)) there ∙ ap (option_map (show_row test one.stale)) is))
