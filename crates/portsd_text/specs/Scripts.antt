-- Scripts: events, one a line. Empty lines and lines that begin with `#` are passed over, but counted.
use Rattle.std.specs.Prelude.{◌≡◌, ◌<◌, ℕ, ◌+◌, Bool, true, false, IsTrue, ◌||◌, ◌==◌, List, [], ◌∷◌, ◌++◌, length, map}
use Rattle.std.specs.Prelude.{zip, slice_index, Option, Some, None, option_map, Result, Ok, Err, if◌then◌else◌}
use Rattle.std.specs.Prelude.{MatchOption, IfSome, IfOk, OnOk, IfErr, vec_len}
use Rattle.std.specs.Borrow.{Bor}
use Rattle.std.specs.List.{slice_split}
use Rattle.std.specs.Io.KnownBytes.{Consumes, IsAtEnd}
use Rattle.general_facts.specs.Ascii.{line_feed, hash_sign}
use Rattle.refusals.specs.Refused.{refused}
use Rattle.ports_core.specs.declared.event.Event.{Event}
use Rattle.portsd_text.specs.declared.input.Given.{Given}
use Rattle.portsd_text.specs.declared.script.Script.{Script}
use Rattle.portsd_text.specs.declared.script.ScriptFault.{ScriptFault}
use Rattle.portsd_text.specs.declared.script.ScriptFault.TheVariants.{BadEvent, Memory}
use Rattle.portsd_text.specs.Entries.{EventValue, event_of, entry_of_event}

-- events, each with its line; or a line that is in no form of a script
abbrev pub Reading : Type 0
Reading = Result (List (ℕ × EventValue)) ℕ

-- the line is empty or a comment
abbrev pub is_passed_over : List ℕ → Bool
is_passed_over text = (length text == 0) || (slice_index text 0 == hash_sign)

-- events before those of the later lines
abbrev pub put_before : List (ℕ × EventValue) → Reading → Reading
put_before events (Ok later) = Ok (events ++ later)
put_before events (Err line) = Err line

-- a line's event before those of the later lines
abbrev pub with_event : ℕ → Option EventValue → Reading → Reading
with_event line None later = Err line
with_event line (Some event) later = put_before ((line, event) ∷ []) later

-- what a line gives, before the later lines
abbrev pub with_line : ℕ → List ℕ → Reading → Reading
with_line line text later = if is_passed_over text then later else with_event line (event_of text) later

-- the events of lines that are counted from a number on, or the first bad line; if the text isn't whole,
-- its last line is a bad one
unfoldable pub events_from : Bool → ℕ → List (List ℕ) → Reading
events_from whole line [] = Ok []
events_from whole line (text ∷ []) = if whole then with_line line text (Ok []) else Err line
events_from whole line (text ∷ next ∷ later) = with_line line text (events_from whole (line + 1) (next ∷ later))

-- the lines of a text, which is cut at its line feeds
abbrev pub lines_of : List ℕ → List (List ℕ)
lines_of text = slice_split (λ byte. byte == line_feed) text

-- the events of a text, whose lines are counted from 1
unfoldable pub script_of : Bool → List ℕ → Reading
script_of whole text = events_from whole 1 (lines_of text)

-- the events of a script that was read, each with its line
abbrev pub numbered : Script → List (ℕ × EventValue)
numbered script = zip script.lines.items (map entry_of_event script.events.items)

-- the fault that a reading gives
abbrev pub IsFaultOf : Reading → ScriptFault → Type 0
IsFaultOf reading (BadEvent line) = reading ≡ Err line
IsFaultOf reading (Memory _) = Unit {0}

-- an input has given these bytes, and all that it had if they are whole
abbrev pub HasGiven : Option (List ℕ) → Option (List ℕ) → Bool → List ℕ → Type 0
HasGiven old new whole text = Consumes old new text × (IsTrue whole → IsAtEnd new)

-- an input has given some bytes
abbrev pub HasGivenSome : Option (List ℕ) → Option (List ℕ) → Type 0
HasGivenSome old new = (text : List ℕ) × HasGiven old new false text

-- an input is read to its end, and these are the events of its bytes, each with its line
abbrev pub ReadsScript : Option (List ℕ) → Option (List ℕ) → List (ℕ × EventValue) → Type 0
ReadsScript old new entries = (text : List ℕ) × HasGiven old new true text × (script_of true text ≡ Ok entries)

-- an input isn't read: its bytes, which aren't whole if a read failed, have a bad
-- line, or there is no memory
abbrev pub FailsToRead : Option (List ℕ) → Option (List ℕ) → ScriptFault → Type 0
FailsToRead old new fault =
    (whole : Bool) × (text : List ℕ) × HasGiven old new whole text × IsFaultOf (script_of whole text) fault

-- where a function succeeds, an input has given its bytes
abbrev pub ReadsInput : {F : Type 0} → Result Given F → Option (List ℕ) → Option (List ℕ) → Type 0
ReadsInput result old new = IfOk result (λ given. HasGiven old new given.whole given.text.items)

-- where a function succeeds, it read an input to its end, and made the script of its bytes
abbrev pub GivesScript : {F : Type 0} → Result Script F → Option (List ℕ) → Option (List ℕ) → Type 0
GivesScript result old new = IfOk result (λ script. ReadsScript old new (numbered script))

-- where a function succeeds, its script has the events of this reading, which has no bad line
abbrev pub GivesReading : {F : Type 0} → Result Script F → Reading → Type 0
GivesReading result reading = IfOk result (λ script. reading ≡ Ok (numbered script))

-- each event of a script has a line
abbrev pub IsPaired : Script → Type 0
IsPaired script = vec_len script.lines ≡ vec_len script.events

-- a function lends this event with its line, or nothing if there is none
abbrev pub LendsEntry : Option (ℕ × Bor Event) → Option (ℕ × EventValue) → Type 0
LendsEntry result entry = option_map (λ (lent : ℕ × Bor Event). (lent.0, entry_of_event lent.1.now)) result ≡ entry

-- where a function succeeds, it added this event with its line at the end of a script
abbrev pub AddsEntry : {R F : Type 0} → Result R F → Script → Script → ℕ × EventValue → Type 0
AddsEntry result before after entry = OnOk result (numbered after ≡ numbered before ++ entry ∷ [])

-- where a function succeeds, it added what this line gives, whatever the later lines give
abbrev pub AddsLine : {R F : Type 0} → Result R F → Script → Script → ℕ → List ℕ → Type 0
AddsLine result before after line text =
    OnOk result ((later : Reading) → put_before (numbered before) (with_line line text later) ≡ put_before (numbered after) later)

-- if a function fails, this line is bad or there is no memory, whatever the later lines give
abbrev pub FailsAtLine : {R : Type 0} → Result R ScriptFault → ℕ → List ℕ → Type 0
FailsAtLine result line text = IfErr result (λ fault. (later : Reading) → IsFaultOf (with_line line text later) fault)

-- if a function fails, there is no memory
abbrev pub FailsForMemory : {R : Type 0} → Result R ScriptFault → Type 0
FailsForMemory result = IfErr result (λ fault. fault ≡ Memory refused)

-- a text is cut after its first line; if it isn't, it is a single line
abbrev pub CutsFirstLine : Option (Bor (List ℕ) × Bor (List ℕ)) → List ℕ → Type 0
CutsFirstLine result text =
    MatchOption result (lines_of text ≡ text ∷ []) (λ parts. lines_of text ≡ parts.0.now ∷ lines_of parts.1.now)

-- if a text is cut, what is left of it is shorter
abbrev pub LeavesLess : Option (Bor (List ℕ) × Bor (List ℕ)) → List ℕ → Type 0
LeavesLess result text = IfSome result (λ parts. length parts.1.now < length text)
