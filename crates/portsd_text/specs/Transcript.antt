-- What a run prints.
use Rattle.std.specs.Prelude.{◌≡◌, ℕ, List, [], ◌∷◌, ◌++◌, codes, decimal, Option, Some, None, Result, IfOk, OnOk}
use Rattle.std.specs.Prelude.{String, string_bytes}
use Rattle.std.specs.declared.alloc.Global.{Global}
use Rattle.ports_core.specs.Effects.{Effect}
use Rattle.ports_core.specs.declared.event.Tell.{Tell}
use Rattle.ports_core.specs.declared.event.Refused.{Refused}
use Rattle.ports_core.specs.declared.event.Refused.TheVariants as refused
use Rattle.portsd_text.specs.Escapes.{escaped_bytes}
use Rattle.portsd_text.specs.Entries.{EventValue, Open, Piece, End, Fault, Wrote, Turn}

-- a printed line, which begins with the number of the line whose event it is about
abbrev pub print_line : ℕ → List ℕ → List ℕ
print_line line words = decimal line ++ (codes " " ++ (words ++ codes "\n"))

-- `sent C TEXT`: the bytes that were taken off a connection, if there are some
abbrev pub sent_bytes : ℕ → ℕ → List ℕ → List ℕ
sent_bytes line conn [] = []
sent_bytes line conn (byte ∷ bytes) =
    print_line line (codes "sent " ++ (decimal conn ++ (codes " " ++ escaped_bytes (byte ∷ bytes))))

-- the same of an event; only a Wrote takes bytes off its connection
abbrev pub sent_line : ℕ → EventValue → List ℕ → List ℕ
sent_line line (Wrote conn count) bytes = sent_bytes line conn bytes
sent_line line (Open conn) bytes = []
sent_line line (Piece conn piece) bytes = []
sent_line line (End conn) bytes = []
sent_line line (Fault conn) bytes = []
sent_line line (Turn tenant) bytes = []

-- a tenant's number, or `-`
abbrev pub tenant_text : Option ℕ → List ℕ
tenant_text None = codes "-"
tenant_text (Some tenant) = decimal tenant

-- `told T C S`: a reply, if there is one, by the number of its status
abbrev pub told_line : ℕ → Option Tell → List ℕ
told_line line None = []
told_line line (Some tell) =
    print_line line (codes "told "
    ++ (tenant_text tell.tenant
    ++ (codes " " ++ (decimal tell.conn ++ (codes " " ++ decimal tell.reply.status)))))

-- why a connection wasn't opened
abbrev pub refused_word : Refused → List ℕ
refused_word refused.Connections = codes "connections"
refused_word (refused.Memory _) = codes "memory"

-- `refused WHY`: a connection that wasn't opened, if there is one
abbrev pub refused_line : ℕ → Option Refused → List ℕ
refused_line line None = []
refused_line line (Some why) = print_line line (codes "refused " ++ refused_word why)

-- `closed C`: the connection that closed, if there is one
abbrev pub closed_line : ℕ → Option ℕ → List ℕ
closed_line line None = []
closed_line line (Some conn) = print_line line (codes "closed " ++ decimal conn)

-- what is printed of an event
unfoldable pub printed : ℕ → EventValue → Effect → List ℕ
printed line event step =
    sent_line line event step.sent
    ++ (told_line line step.told.reply ++ (refused_line line step.told.refused ++ closed_line line step.told.closed))

-- what is printed of a run: each event's lines, as far as there are steps
abbrev pub transcript : List (ℕ × EventValue) → List Effect → List ℕ
transcript [] steps = []
transcript (entry ∷ entries) [] = []
transcript (entry ∷ entries) (step ∷ steps) = printed entry.0 entry.1 step ++ transcript entries steps

-- where a function succeeds, it made this text
abbrev pub PrintsText : {F : Type 0} → Result (String Global) F → List ℕ → Type 0
PrintsText result text = IfOk result (λ made. string_bytes made ≡ text)

-- where a function succeeds, it added this text at the end
abbrev pub AddsText : {R F : Type 0} → Result R F → String Global → String Global → List ℕ → Type 0
AddsText result before after text = OnOk result (string_bytes after ≡ string_bytes before ++ text)
