-- The lines of a script, each of which writes an event.
use Rattle.std.specs.Prelude.{ℕ, ◌==◌, nat_lt, List, length, codes, Option, Some, None, option_map, option_and_then, if◌then◌else◌}
use Rattle.std.specs.Prelude.{◌≡◌, Result, IfOk}
use Rattle.std.specs.List.{list_all, position_or_len, before_first, after_first}
use Rattle.std.specs.Str.{bytes_eq}
use Rattle.general_facts.specs.Ascii.{space}
use Rattle.ports_core.specs.declared.event.Event.{Event}
use Rattle.ports_core.specs.declared.event.Event.TheVariants as event
use Rattle.portsd_text.specs.Numerals.{number_of}
use Rattle.portsd_text.specs.Escapes.{is_printable, unescaped}

-- an event, with the bytes of a piece as a list
pub data EventValue : Type 0 where
  Open : ℕ → EventValue
  Piece : ℕ → List ℕ → EventValue
  End : ℕ → EventValue
  Fault : ℕ → EventValue
  Wrote : ℕ → Option ℕ → EventValue
  Turn : ℕ → EventValue

-- the event that a value of the service's type is
abbrev pub entry_of_event : Event → EventValue
entry_of_event (event.Open conn) = Open conn
entry_of_event (event.Piece conn bytes) = Piece conn bytes.items
entry_of_event (event.End conn) = End conn
entry_of_event (event.Fault conn) = Fault conn
entry_of_event (event.Wrote conn count) = Wrote conn count
entry_of_event (event.Turn tenant) = Turn tenant

-- what is read of the parts of a text before and after its first blank; `None` for a text without a blank
abbrev pub at_blank : (List ℕ → List ℕ → Option EventValue) → List ℕ → Option EventValue
at_blank read text =
    if nat_lt (position_or_len (λ byte. byte == space) text) (length text)
    then read (before_first (λ byte. byte == space) text) (after_first (λ byte. byte == space) text)
    else None

-- bytes that came on a connection, by its number and the escaped bytes
abbrev pub piece_of : List ℕ → List ℕ → Option EventValue
piece_of conn text =
    option_and_then (λ number. option_map (λ bytes. Piece number bytes) (unescaped text)) (number_of conn)

-- how many bytes were written: `all`, which is given by no number, or a number
abbrev pub count_of : List ℕ → Option (Option ℕ)
count_of text = if bytes_eq text (codes "all") then Some None else option_map (λ count. Some count) (number_of text)

-- bytes of a connection that were written, by its number and how many
abbrev pub wrote_of : List ℕ → List ℕ → Option EventValue
wrote_of conn count =
    option_and_then (λ number. option_map (λ written. Wrote number written) (count_of count)) (number_of conn)

-- the event that a word and what follows it write
abbrev pub worded : List ℕ → List ℕ → Option EventValue
worded word rest =
    if bytes_eq word (codes "open") then option_map Open (number_of rest)
    else (if bytes_eq word (codes "piece") then at_blank piece_of rest
    else (if bytes_eq word (codes "end") then option_map End (number_of rest)
    else (if bytes_eq word (codes "fault") then option_map Fault (number_of rest)
    else (if bytes_eq word (codes "wrote") then at_blank wrote_of rest
    else (if bytes_eq word (codes "turn") then option_map Turn (number_of rest) else None)))))

-- the event that a line writes: its bytes are from 32 to 126, and it is a word, a blank
-- and what the word asks for
unfoldable pub event_of : List ℕ → Option EventValue
event_of line = if list_all is_printable line then at_blank worded line else None

-- where a function succeeds, it read this event, or none if there is none
abbrev pub ReadsEvent : {F : Type 0} → Result (Option Event) F → Option EventValue → Type 0
ReadsEvent result entry = IfOk result (λ event. option_map entry_of_event event ≡ entry)
