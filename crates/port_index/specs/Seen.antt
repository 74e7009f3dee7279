-- What the types of the code are seen as.
use Rattle.std.specs.Prelude.{◌≡◌, ℕ, if◌then◌else◌, Bool, false, List, ◌++◌, map, codes}
use Rattle.std.specs.Prelude.{Option, Some, None, option_map, option_to_list, Result, String, string_bytes, Vec}
use Rattle.std.specs.Borrow.{Bor}
use Rattle.std.specs.List.{list_any}
use Rattle.std.specs.Global.{Global}
use Rattle.std.specs.Str.{bytes_eq}
use Rattle.std.specs.BTreeSet.{BTreeSet, contains_text}
use Rattle.std.specs.BTreeMap.{get_by_text}
use Rattle.mk_eval.specs.Meaning.{value_of_variable}
use Rattle.mk_eval.specs.Views.{flavors_in}
use Rattle.mk_eval.specs.declared.outcome.Evaluated.{Evaluated}
use Rattle.mk_eval.specs.declared.outcome.Failed.{Failed}
use Rattle.port_rules.specs.Records.{record_of}
use Rattle.port_index.specs.PathOutcomes.{PathOutcome}
use Rattle.port_index.specs.FilledRows.{is_one_of}
use Rattle.port_index.specs.PathOutcomes as seen
use Rattle.port_index.specs.Dependencies.{RootItemValue}
use Rattle.port_index.specs.declared.path_outcomes.Row.{Row}
use Rattle.port_index.specs.declared.path_outcomes.Row.TheVariants.{Absent, Faulty, Port, BadPort, Lists, BadList, FlavoredList, Other}
use Rattle.port_index.specs.declared.path_outcomes.Finding.{Finding}
use Rattle.port_index.specs.declared.noted_rows.KnownRow.{KnownRow}
use Rattle.port_index.specs.declared.memory_rows.MemoryRows.{MemoryRows}
use Rattle.port_index.specs.declared.root_edges.RootItem.{RootItem}

-- a row
abbrev pub row_seen : Row → PathOutcome
row_seen Absent = seen.Absent
row_seen (Faulty fault) = seen.Faulty fault
row_seen (Port port) = seen.Port port
row_seen (BadPort fault) = seen.BadPort fault
row_seen (Lists words) = seen.Lists (map string_bytes words.items)
row_seen (BadList fault) = seen.BadList fault
row_seen FlavoredList = seen.FlavoredList
row_seen Other = seen.Other

-- a finding
abbrev pub finding_seen : Finding → seen.Finding
finding_seen found = record { outcome = row_seen found.row; cost = found.cost }

-- names
abbrev pub names_seen : List (String Global) → List (List ℕ)
names_seen names = map string_bytes names

-- what a row says: what its path leads to, and the names of the files that were asked for to learn that
pub record Said : Type 0 where
  pub outcome : PathOutcome
  pub names : List (List ℕ)

-- a row that is known
abbrev pub known_seen : KnownRow → Said
known_seen known = record { outcome = row_seen known.row; names = names_seen known.names.items }

-- what rows in memory say of each path
abbrev pub said_in : MemoryRows → List ℕ → Option Said
said_in rows path = option_map known_seen (get_by_text rows.noted.rows path)

-- what each path leads to by these
abbrev pub entries_in : MemoryRows → List ℕ → Option PathOutcome
entries_in rows path = option_map (λ (said : Said). said.outcome) (said_in rows path)

-- the names of the files that were asked for to learn that
abbrev pub names_said_in : MemoryRows → List ℕ → Option (List (List ℕ))
names_said_in rows path = option_map (λ (said : Said). said.names) (said_in rows path)

-- whether one of these names passes a test
abbrev pub has_asked_for : (List ℕ → Bool) → Option (List (List ℕ)) → Bool
has_asked_for test None = false
has_asked_for test (Some names) = list_any test names

-- how many bytes all rows have that were put
abbrev pub size_of : MemoryRows → ℕ
size_of rows = rows.size

-- what a path without a row leads to isn't known, and counts as nothing
abbrev pub known_row : Option PathOutcome → PathOutcome
known_row None = seen.Absent
known_row (Some row) = row

-- what each path leads to, as far as rows say it
abbrev pub known_in : (List ℕ → Option PathOutcome) → List ℕ → PathOutcome
known_in entries path = known_row (entries path)

-- an item of a port
abbrev pub item_seen : RootItem → RootItemValue
item_seen rooted = record { root = string_bytes rooted.root; item = rooted.item }

-- what a row that is lent says, if there is one
abbrev pub row_lent : Option (Bor Row) → Option PathOutcome
row_lent row = option_map (λ row. row_seen row.now) row

-- what a row that is lent says; without a row, nothing is there
abbrev pub row_says : Option (Bor Row) → PathOutcome
row_says row = known_row (row_lent row)

-- what each path leads to, as far as these rows say it
abbrev pub outcomes_in : MemoryRows → List ℕ → PathOutcome
outcomes_in rows = known_in (entries_in rows)

-- ---- texts that are given

-- these texts are given
abbrev pub GivesTexts : List (List ℕ) → Vec (String Global) Global → Type 0
GivesTexts texts given = map string_bytes given.items ≡ texts

-- this path is given, or none
abbrev pub GivesPath : Option (List ℕ) → Option (String Global) → Type 0
GivesPath path given = option_map string_bytes given ≡ path

-- these texts follow those that were there
abbrev pub AddsTexts : List (List ℕ) → Vec (String Global) Global → Vec (String Global) Global → Type 0
AddsTexts texts old new = map string_bytes new.items ≡ map string_bytes old.items ++ texts

-- this path, if there is one, follows those that were there
abbrev pub AddsPath : Option (List ℕ) → Vec (String Global) Global → Vec (String Global) Global → Type 0
AddsPath path old new = AddsTexts (option_to_list path) old new

-- ---- how rows in memory change

-- the row of this path says this, and each other says what it said
abbrev pub PutsSaid : String Global → KnownRow → MemoryRows → MemoryRows → Type 0
PutsSaid path known old new =
    (other : List ℕ) → said_in new other ≡ (if bytes_eq (string_bytes path) other then Some (known_seen known) else said_in old other)

-- this path leads to this, and each other to what it led to
abbrev pub PutsEntry : String Global → Row → MemoryRows → MemoryRows → Type 0
PutsEntry path row old new =
    (other : List ℕ) → entries_in new other ≡ (if bytes_eq (string_bytes path) other then Some (row_seen row) else entries_in old other)

-- this path has no row, and each other row says what it said
abbrev pub TakesSaidOut : List ℕ → MemoryRows → MemoryRows → Type 0
TakesSaidOut path old new = (other : List ℕ) → said_in new other ≡ (if bytes_eq path other then None else said_in old other)

-- each row says what it said
abbrev pub SaysSame : MemoryRows → MemoryRows → Type 0
SaysSame old new = (other : List ℕ) → said_in new other ≡ said_in old other

-- these, in any order, are the paths whose rows asked for a file of one of these names
abbrev pub HaveAsked : BTreeSet (String Global) → MemoryRows → Vec (String Global) Global → Type 0
HaveAsked names rows paths =
    (path : List ℕ) → is_one_of path (map string_bytes paths.items) ≡ has_asked_for (contains_text names) (names_said_in rows path)

-- ---- what a makefile describes

-- it is what a makefile describes after its evaluation with these flavors
abbrev pub IsFindingAfter : Evaluated → List ℕ → Option (Bor (List (String Global))) → Finding → Type 0
IsFindingAfter evaluated makefile flavors found = finding_seen found ≡ seen.finding_after makefile (flavors_in flavors) evaluated

-- it is what a makefile describes, given how its evaluation with these flavors ended
abbrev pub IsFindingOf : Result Evaluated Failed → List ℕ → Option (Bor (List (String Global))) → Finding → Type 0
IsFindingOf outcome makefile flavors found =
    finding_seen found ≡ seen.finding_of_evaluation makefile (flavors_in flavors) outcome

-- it is the port of a makefile that was evaluated
abbrev pub IsPortFinding : Evaluated → List ℕ → Finding → Type 0
IsPortFinding evaluated makefile found =
    finding_seen found ≡ seen.port_finding evaluated.cost (record_of evaluated.env makefile)

-- it is the list of directories of a makefile that was evaluated
abbrev pub IsListFinding : Evaluated → List ℕ → Finding → Type 0
IsListFinding evaluated makefile found =
    finding_seen found ≡ seen.list_finding evaluated.cost (value_of_variable evaluated.env makefile (codes "SUBDIR"))
