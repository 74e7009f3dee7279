-- Names, each with the paths whose rows asked for it.
use Rattle.std.specs.Prelude.{◌≡◌, ◌&&◌, ◌||◌, if◌then◌else◌, ℕ, List, map, Bool, true, false, Option, Some, None}
use Rattle.std.specs.Prelude.{String, string_bytes, Vec}
use Rattle.std.specs.BTreeMap.{BTreeMap, get_by_text}
use Rattle.std.specs.BTreeSet.{BTreeSet, contains_text}
use Rattle.std.specs.Global.{Global}
use Rattle.std.specs.List.{list_any}
use Rattle.std.specs.Str.{bytes_eq}
use Rattle.port_index.specs.FilledRows.{is_one_of}
use Rattle.port_index.specs.declared.asked_names.AskedNames.{AskedNames}
use Rattle.port_index.specs.declared.noted_rows.KnownRow.{KnownRow}

-- a path is one of these, if there are any
abbrev pub is_in : Option (BTreeSet (String Global)) → List ℕ → Bool
is_in None path = false
is_in (Some paths) path = contains_text paths path

-- which paths are noted with each name
abbrev pub Notes : Type 0
Notes = List ℕ → List ℕ → Bool

abbrev pub is_noted : AskedNames → Notes
is_noted asked name path = is_in (get_by_text asked.paths name) path

-- one more path is noted with this name
abbrev pub NotesOneMore : List ℕ → List ℕ → Notes → Notes → Type 0
NotesOneMore name path old new =
    (one other : List ℕ) → new one other ≡ ((bytes_eq name one && bytes_eq path other) || old one other)

-- in a record of names, one more path is noted with this name
abbrev pub AddsNote : List ℕ → List ℕ → AskedNames → AskedNames → Type 0
AddsNote name path old new = NotesOneMore name path (is_noted old) (is_noted new)

-- a path is noted with each of these names
abbrev pub NotesAll : List (String Global) → List ℕ → AskedNames → Type 0
NotesAll names path asked =
    (name : List ℕ) → list_any (λ one. bytes_eq (string_bytes one) name) names ≡ true → is_noted asked name path ≡ true

-- these are the paths that are noted with a name, if there are any
abbrev pub AreNotedWith : List ℕ → AskedNames → Option (BTreeSet (String Global)) → Type 0
AreNotedWith name asked paths = (path : List ℕ) → is_in paths path ≡ is_noted asked name path

-- one more text is among these
abbrev pub NotesText : List ℕ → BTreeSet (String Global) → BTreeSet (String Global) → Type 0
NotesText text old new = (other : List ℕ) → contains_text new other ≡ (bytes_eq text other || contains_text old other)

-- this path isn't noted with this name, and all else is as it was
abbrev pub NotesOneLess : List ℕ → List ℕ → Notes → Notes → Type 0
NotesOneLess name path old new =
    (one other : List ℕ) → new one other ≡ (if bytes_eq name one && bytes_eq path other then false else old one other)

-- the same is noted
abbrev pub NotesSame : Notes → Notes → Type 0
NotesSame old new = (one other : List ℕ) → new one other ≡ old one other

-- what was noted still is
abbrev pub KeepsNotes : Notes → Notes → Type 0
KeepsNotes old new = (name path : List ℕ) → old name path ≡ true → new name path ≡ true

-- what was noted of other paths than this one still is
abbrev pub KeepsOtherNotes : List ℕ → Notes → Notes → Type 0
KeepsOtherNotes path old new = (name other : List ℕ) → bytes_eq path other ≡ false → old name other ≡ true → new name other ≡ true

-- whether a row, if there is one, asked for the file of this name
abbrev pub asks_in : Option KnownRow → List ℕ → Bool
asks_in None name = false
asks_in (Some known) name = list_any (λ one. bytes_eq (string_bytes one) name) known.names.items

-- each path whose row asked for a name is noted with it
abbrev pub AreNotedAskers : BTreeMap (String Global) KnownRow → AskedNames → Type 0
AreNotedAskers rows asked = (name path : List ℕ) → asks_in (get_by_text rows path) name ≡ true → is_noted asked name path ≡ true

-- whether a row, if there is one, asked for a file whose name passes this test
abbrev pub asks_one_of : (List ℕ → Bool) → Option KnownRow → Bool
asks_one_of test None = false
asks_one_of test (Some known) = list_any (λ one. test (string_bytes one)) known.names.items

-- ---- rows by their paths

abbrev pub RowMap : Type 0
RowMap = BTreeMap (String Global) KnownRow

-- this path has this row, and each other the row that it had
abbrev pub NotesRow : String Global → KnownRow → RowMap → RowMap → Type 0
NotesRow path row old new =
    (other : List ℕ) → get_by_text new other ≡ (if bytes_eq (string_bytes path) other then Some row else get_by_text old other)

-- this path has no row, and each other has the row that it had
abbrev pub TakesRowOut : List ℕ → RowMap → RowMap → Type 0
TakesRowOut path old new = (other : List ℕ) → get_by_text new other ≡ (if bytes_eq path other then None else get_by_text old other)

-- each path has the row that it had
abbrev pub KeepsNoted : RowMap → RowMap → Type 0
KeepsNoted old new = (other : List ℕ) → get_by_text new other ≡ get_by_text old other

-- these, in any order, are the paths whose rows asked for a file of one of these names
abbrev pub AreAsking : BTreeSet (String Global) → RowMap → Vec (String Global) Global → Type 0
AreAsking names rows paths =
    (path : List ℕ) → is_one_of path (map string_bytes paths.items) ≡ asks_one_of (contains_text names) (get_by_text rows path)

-- the paths whose rows asked for the file of this name are added
abbrev pub AddsAskers : List ℕ → RowMap → Vec (String Global) Global → Vec (String Global) Global → Type 0
AddsAskers name rows old new =
    (path : List ℕ) → is_one_of path (map string_bytes new.items)
    ≡ (is_one_of path (map string_bytes old.items) || asks_in (get_by_text rows path) name)

-- of these paths, those whose rows asked for the file of this name are added
abbrev pub AddsAskersOf : BTreeSet (String Global) → List ℕ → RowMap → Vec (String Global) Global → Vec (String Global) Global → Type 0
AddsAskersOf noted name rows old new =
    (path : List ℕ) → is_one_of path (map string_bytes new.items)
    ≡ (is_one_of path (map string_bytes old.items) || (contains_text noted path && asks_in (get_by_text rows path) name))
