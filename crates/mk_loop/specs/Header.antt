-- The header of a loop (make(1), "FOR LOOPS"): variables, the word `in`, and a text. Each iteration gives
-- the variables the next words of that text.
use Rattle.std.specs.Prelude.{ℕ, suc, zero, ◌/◌, ◌%◌, ◌==◌, if◌then◌else◌, List, [], ◌∷◌, length, drop, Option, Some, None}
use Rattle.std.specs.Prelude.{codes, option_map}
use Rattle.std.specs.Prelude.{Result, Vec, String, map, string_bytes}
use Rattle.std.specs.List.{zip}
use Rattle.std.specs.Str.{bytes_eq}
use Rattle.std.specs.Global.{Global}
use Rattle.std.specs.Borrow.{Bor}
use Rattle.mk_base.specs.declared.faults.FaultKind.{FaultKind}
use Rattle.mk_base.specs.declared.faults.FaultKind.TheVariants as kinds
use Rattle.mk_base.specs.Meter.{Meter}
use Rattle.mk_base.specs.Outcome.{Work, give, fail, ◌>>=◌}
use Rattle.mk_text.specs.declared.word_spans.Span.{Span}
use Rattle.mk_text.specs.Words.{words_of, word_spans, span_text}
use Rattle.mk_env.specs.Texts.{Variables}
use Rattle.mk_env.specs.Expansion.{expand}
use Rattle.mk_loop.specs.LoopWords.{LoopWords}
use Rattle.mk_base.specs.declared.stops.PureStop.{PureStop}
use Rattle.mk_base.specs.Stops.{GivesPurely}

-- A header by the places of its words: the words before the first word `in`, and what follows
-- that word. None if there is no `in`.
abbrev pub header_parts : List ℕ → List Span → Option (List (List ℕ) × List ℕ)
header_parts text [] = None
header_parts text (span ∷ spans) =
    if bytes_eq (span_text text span) (codes "in") then Some ([], drop span.end text)
    else option_map (λ parts. (span_text text span ∷ parts.0, parts.1)) (header_parts text spans)

-- a header must have an `in`, and a variable before it; anything else is a fault
abbrev pub formed : Option (List (List ℕ) × List ℕ) → Work Meter FaultKind (List (List ℕ) × List ℕ)
formed None = fail kinds.For
formed (Some ([], rest)) = fail kinds.For
formed (Some (name ∷ names, rest)) = give (name ∷ names, rest)

-- this many iterations of these variables, with one word for each variable in each
unfoldable pub iterations_from : ℕ → List (List ℕ) → List (List ℕ) → List LoopWords
iterations_from zero names words = []
iterations_from (suc iterations) names words = zip names words ∷ iterations_from iterations names (drop (length names) words)

-- the iterations that words give
abbrev pub iterations_of : List (List ℕ) → List (List ℕ) → List LoopWords
iterations_of names words = iterations_from (length words / length names) names words

-- the same if no words are left over; words that are left over are a fault
abbrev pub in_iterations : List (List ℕ) → List (List ℕ) → Work Meter FaultKind (List LoopWords)
in_iterations names words = if length words % length names == 0 then give (iterations_of names words) else fail kinds.For

-- The iterations of a loop with this header. Its form is tested first. Then what follows its `in` is
-- expanded, and the words of that are counted.
abbrev pub header : Variables → List ℕ → Work Meter FaultKind (List LoopWords)
header variables text =
    formed (header_parts text (word_spans text)) >>= λ parts. expand variables parts.1
    >>= λ found. in_iterations parts.0 (words_of found)

-- a function reads the names and the texts of this header, whatever the meter has counted
abbrev pub ReadsForm : Result (Vec (String Global) Global × Bor (List ℕ)) (PureStop FaultKind) → List ℕ → Type 0
ReadsForm result text =
    (m : Meter) → GivesPurely (λ form. (map string_bytes form.0.items, form.1.now)) result m
    (formed (header_parts text (word_spans text)) m)
