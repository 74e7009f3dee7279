-- The ports that pass a test, found by the rows that there are.
use Rattle.std.proofs.Common.{◌≡◌, ◌∙◌, ap, sym, refl, subst, ℕ, Bool, true, false, cond, ◌||◌, List, [], ◌∷◌, ◌++◌, append_assoc}
use Rattle.std.proofs.Common.{append-nil, if◌then◌else◌, Ok, filter, map, Option, Some, None, is_some, option_map, String, Global}
use Rattle.std.proofs.Common.{string_bytes}
use Rattle.std.proofs.lemmas.Bool.{false≢true}
use Rattle.std.proofs.lemmas.Cmp.{nat_list_eq_equiv}
use Rattle.std.proofs.lemmas.Map.Entries.{option_filter}
use Rattle.std.proofs.lemmas.Map.Text.{is_eq-slice_cmp}
use Rattle.std.specs.BTreeMap.{is_at}
use Rattle.std.specs.Cmp.Lexicographic.{slice_cmp}
use Rattle.std.proofs.ByRecursion.{All-from_get_or}
use Rattle.std.specs.String.{string_cmp}
use Rattle.std.specs.declared.cmp.Ordering.TheVariants.{Less}
use Rattle.text_parts.specs.Order.{in_order}
use Rattle.std.specs.List.{All, AllByRecursion, cons_option, filter_map, list_any}
use Rattle.std.specs.List.Sorted.{IsStrictlySortedBy}
use Rattle.std.specs.Map.{lookup}
use Rattle.std.specs.Ordering.{is_eq, nat_cmp}
use Rattle.port_rules.specs.Ports.{PortValue}
use Rattle.port_deps.specs.Roots.{RootValue}
use Rattle.text_parts.specs.Ordered.{among, by_bytes, in_order-sorted}
use Rattle.port_index.specs.Dependencies.{is_port_that, root_at, root_with, roots_among, root_state}
use Rattle.std.specs.Str.{bytes_eq}
use Rattle.port_index.specs.FilledRows.{is_one_of}
use Rattle.port_index.specs.PathOutcomes.{PathOutcome, Port}
use Rattle.port_index.specs.Seen.{Said, known_row, known_seen, row_seen}
use Rattle.port_index.specs.declared.noted_rows.KnownRow.{KnownRow}
use Rattle.port_index.proofs.RowsFirst.{by_keys, listed_root}

abbrev Entry : Type 0
Entry = String Global × KnownRow

abbrev key_of : Entry → List ℕ
key_of entry = string_bytes entry.0

each_of : {X : Type 0} (P : X → Type 0) (xs : List X) → All P xs → AllByRecursion P xs
each_of P [] all = tt
each_of P (x ∷ xs) all = All-from_get_or P (x ∷ xs) x (λ place inside. all place x inside)

above_texts : (key : String Global) (entries : List Entry) → AllByRecursion (λ other. string_cmp key other ≡ Less)
    (map (λ (entry : Entry). entry.0) entries)
    → AllByRecursion (λ other. by_bytes (string_bytes key) other ≡ Less) (map key_of entries)
above_texts key [] all = tt
above_texts key (entry ∷ entries) all = (all.0, above_texts key entries all.1)

texts_rise : (entries : List Entry) → IsStrictlySortedBy string_cmp (map (λ (entry : Entry). entry.0) entries)
    → IsStrictlySortedBy by_bytes (map key_of entries)
unfolding IsStrictlySortedBy
texts_rise [] sorted = tt
texts_rise (entry ∷ entries) sorted = (above_texts entry.0 entries sorted.0, texts_rise entries sorted.1)

filtered_by : {Y : Type 0} (one : Y) (left right : List Y) (is : Bool) → left ≡ right
    → cond is (one ∷ left) left ≡ cons_option (cond is (Some one) None) right
filtered_by one left right true same = ap (λ rest. one ∷ rest) same
filtered_by one left right false same = same

module _ {X Y : Type 0} (p : Y → Bool) (h : X → Option Y) where
  filter_by : (one : Option Y) (xs : List X) → filter p (filter_map h xs) ≡ filter_map (λ x. option_filter p (h x)) xs
      → filter p (cons_option one (filter_map h xs)) ≡ cons_option (option_filter p one) (filter_map (λ x. option_filter p (h x)) xs)
  filter_by None xs rest = rest
  filter_by (Some one) xs rest = filtered_by one (filter p (filter_map h xs)) (filter_map (λ x. option_filter p (h x)) xs) (p one) rest

  -- those that pass a test of what is given
  filter-given : (xs : List X) → filter p (filter_map h xs) ≡ filter_map (λ x. option_filter p (h x)) xs
  filter-given [] = refl
  filter-given (x ∷ xs) = filter_by (h x) xs (filter-given xs)

module _ (test : PortValue → Bool) (listed : List (List ℕ)) where
  -- the root at a path, if it is a port that passes
  abbrev pub port_at : List ℕ → PathOutcome → Option RootValue
  port_at path outcome = option_filter (is_port_that test) (root_with path (root_state outcome))

  abbrev pub chosen_at : Entry → Option RootValue
  chosen_at entry = cond (among (key_of entry) listed) (port_at (key_of entry) (row_seen entry.1.row)) None

  -- the ports that pass, of the rows of listed paths
  abbrev pub chosen : List Entry → List RootValue
  chosen entries = filter_map chosen_at entries

  pub passed-on : (found : List RootValue) (entry : Entry) (rest : List Entry) (all : List RootValue) → chosen_at entry ≡ None
      → found ++ chosen (entry ∷ rest) ≡ all → found ++ chosen rest ≡ all
  passed-on found entry rest all none before = sym (ap (λ one. found ++ cons_option one (chosen rest)) none) ∙ before

  pub taken-on : (found : List RootValue) (entry : Entry) (rest : List Entry) (all : List RootValue) (root : RootValue)
      → chosen_at entry ≡ Some root
      → found ++ chosen (entry ∷ rest) ≡ all → (found ++ root ∷ []) ++ chosen rest ≡ all
  taken-on found entry rest all root some before =
      append_assoc found (root ∷ []) (chosen rest) ∙ sym (ap (λ one. found ++ cons_option one (chosen rest)) some) ∙ before

  tie : (path : List ℕ) → ◌≡◌ {A = List ℕ → Bool} (λ one. bytes_eq one path) (λ one. is_eq (slice_cmp nat_cmp path one))
  tie path i one = (nat_list_eq_equiv.symm one path ∙ sym (is_eq-slice_cmp path one)) i

  -- a path is one of the listed ones
  same_among : (path : List ℕ) → is_one_of path listed ≡ among path listed
  same_among path = ap (λ (p : List ℕ → Bool). list_any p listed) (tie path)

  abbrev no_root_at : Option RootValue
  no_root_at = None

  abbrev root_of : Entry → PortValue → RootValue
  root_of entry port = record { path = key_of entry; state = Ok port }

  port_by : (found : List RootValue) (entry : Entry) (rest : List Entry) (all : List RootValue) (port : PortValue) (is : Bool)
      → is_one_of (key_of entry) listed ≡ is → row_seen entry.1.row ≡ Port port → test port ≡ true
      → found ++ chosen (entry ∷ rest) ≡ all → (found ++ (if is then root_of entry port ∷ [] else [])) ++ chosen rest ≡ all
  port_by found entry rest all port true is row tested before =
      taken-on found entry rest all (root_of entry port)
      (ap (λ b. cond b (port_at (key_of entry) (row_seen entry.1.row)) None) (sym (same_among (key_of entry)) ∙ is)
      ∙ ap (port_at (key_of entry)) row ∙ ap (λ b. cond b (Some (root_of entry port)) None) tested) before
  port_by found entry rest all port false is row tested before =
      ap (λ one. one ++ chosen rest) (append-nil found)
      ∙ passed-on found entry rest all (ap (λ b. cond b (port_at (key_of entry) (row_seen entry.1.row)) None)
      (sym (same_among (key_of entry)) ∙ is)) before

  -- the row of a port that passes
  pub port-on : (found : List RootValue) (entry : Entry) (rest : List Entry) (all : List RootValue) (port : PortValue)
      → row_seen entry.1.row ≡ Port port → test port ≡ true → found ++ chosen (entry ∷ rest) ≡ all
      → (found ++ (if is_one_of (key_of entry) listed then record { path = key_of entry; state = Ok port } ∷ [] else [])) ++ chosen rest ≡
      all
  port-on found entry rest all port row tested before = port_by found entry rest all port
      (is_one_of (key_of entry) listed) refl row tested before

  none_either : (b : Bool) → cond b (no_root_at) None ≡ None
  none_either true = refl
  none_either false = refl

  -- that of a port that doesn't
  pub other-on : (found : List RootValue) (entry : Entry) (rest : List Entry) (all : List RootValue) (port : PortValue)
      → row_seen entry.1.row ≡ Port port → test port ≡ false → found ++ chosen (entry ∷ rest) ≡ all → found ++ chosen rest ≡ all
  other-on found entry rest all port row tested before =
      passed-on found entry rest all
      (ap (λ one. cond (among (key_of entry) listed) one None) (ap (port_at (key_of entry)) row
      ∙ ap (λ b. cond b (Some (root_of entry port)) None) tested)
      ∙ none_either (among (key_of entry) listed)) before

  module _ (rows : List ℕ → Option KnownRow) where
    abbrev pub outcomes : List ℕ → PathOutcome
    outcomes path = known_row (option_map (λ (said : Said). said.outcome) (option_map known_seen (rows path)))

    abbrev root : List ℕ → Option RootValue
    root path = option_filter (is_port_that test) (root_at outcomes path)

    by_entries : (entries : List Entry) → AllByRecursion (λ (entry : Entry). rows (key_of entry) ≡ Some entry.1) entries
        → chosen entries ≡ filter_map (listed_root root listed) (map key_of entries)
    by_entries [] all = refl
    by_entries (entry ∷ entries) all =
        ap (λ (row : Option KnownRow). cons_option (cond (among (key_of entry) listed)
        (port_at (key_of entry) (known_row (option_map (λ (said : Said). said.outcome) (option_map known_seen row)))) None)
        (chosen entries)) (sym all.0)
        ∙ ap (cons_option (listed_root root listed (key_of entry))) (by_entries entries all.1)

    no_root : (path : List ℕ) (row : Option KnownRow) → rows path ≡ row → is_some row ≡ false → is_some (root path) ≡ true → ⊥
    no_root path None is none there =
        false≢true (ap (λ (found : Option KnownRow). is_some
        (port_at path (known_row (option_map (λ (said : Said). said.outcome) (option_map known_seen found))))) (sym is) ∙ there)
    no_root path (Some row) is none there = false≢true (sym none)

    found_by : (path : List ℕ) (key : String Global) (row : KnownRow) (entries : List Entry) (same : Bool)
        → is_eq (slice_cmp nat_cmp path (string_bytes key)) ≡ same
        → is_some (cond same (Some row) (lookup (is_at (λ (one : String Global). slice_cmp nat_cmp path (string_bytes one))) entries)) ≡
        true
        → (is_some (lookup (is_at (λ (one : String Global). slice_cmp nat_cmp path (string_bytes one))) entries) ≡ true
        → among path (map key_of entries) ≡ true)
        → (is_eq (slice_cmp nat_cmp path (string_bytes key)) || among path (map key_of entries)) ≡ true
    found_by path key row entries true e found rest = ap (λ b. b || among path (map key_of entries)) e
    found_by path key row entries false e found rest = ap (λ b. b || among path (map key_of entries)) e ∙ rest found

    -- the path of a row that is found is one of the entries'
    found_among : (path : List ℕ) (entries : List Entry)
        → is_some (lookup (is_at (λ (one : String Global). slice_cmp nat_cmp path (string_bytes one))) entries) ≡ true
        → among path (map key_of entries) ≡ true
    found_among path [] found = absurd (false≢true found)
    found_among path ((key, row) ∷ entries) found =
        found_by path key row entries (is_eq (slice_cmp nat_cmp path (string_bytes key))) refl found (found_among path entries)

    module _ (entries : List Entry) (looks : (path : List ℕ)
        → rows path ≡ lookup (is_at (λ (one : String Global). slice_cmp nat_cmp path (string_bytes one))) entries) where
      there_by : (path : List ℕ) (row : Option KnownRow) → rows path ≡ row → is_some (root path) ≡ true
          → among path (map key_of entries) ≡ true
      there_by path None is there = absurd (no_root path None is refl there)
      there_by path (Some row) is there = found_among path entries (ap is_some (sym (looks path) ∙ is))

      -- the ports that pass, of the rows of listed paths, are those of the roots that pass
      pub chosen-roots : All (λ (entry : String Global × KnownRow). rows (string_bytes entry.0) ≡ Some entry.1) entries
          → in_order listed ≡ listed → IsStrictlySortedBy string_cmp (map (λ (entry : String Global × KnownRow). entry.0) entries)
          → chosen entries ≡ filter (is_port_that test) (roots_among outcomes listed)
      chosen-roots all ordered sorted =
          by_entries entries (each_of (λ (entry : Entry). rows (key_of entry) ≡ Some entry.1) entries all)
          ∙ by_keys root listed (map key_of entries) (λ path. there_by path (rows path) refl)
          (subst (IsStrictlySortedBy by_bytes) ordered (in_order-sorted listed)) (texts_rise entries sorted)
          ∙ sym (filter-given (is_port_that test) (root_at outcomes) listed)
