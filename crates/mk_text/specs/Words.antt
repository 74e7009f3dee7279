-- The words of a text, as make(1) splits values into words: the longest stretches without a blank, from
-- left to right.
use Rattle.std.specs.Prelude.{◌≤◌, ℕ, ◌+◌, ◌-◌, nat_lt, List, [], ◌∷◌, length, take, drop, filter}
use Rattle.std.specs.List.{slice_split}
use Rattle.std.specs.Str.{IsCharBoundary}
use Rattle.mk_text.specs.declared.word_spans.Span.{Span}
use Rattle.mk_text.specs.Blanks.{is_blank}

-- the words: what is between the blanks, if that isn't empty
unfoldable pub words_of : List ℕ → List (List ℕ)
words_of text = filter (λ piece. nat_lt 0 (length piece)) (slice_split is_blank text)

-- the places of pieces that follow one another with one byte between them, where the first piece begins at
-- this place
abbrev pub places_from : ℕ → List (List ℕ) → List Span
places_from start [] = []
places_from start (piece ∷ rest) =
    record { start = start; end = start + length piece } ∷ places_from (start + length piece + 1) rest

-- the places of the words: those of what is between the blanks, if that isn't empty
unfoldable pub word_spans : List ℕ → List Span
word_spans text = filter (λ span. nat_lt span.start span.end) (places_from 0 (slice_split is_blank text))

-- the part of a text at a place
abbrev pub span_text : List ℕ → Span → List ℕ
span_text text span = take (span.end - span.start) (drop span.start text)

-- a place in a text at whose ends the text may be cut between two characters
pub record IsSpanOf (text : List ℕ) (span : Span) : Type 0 where
  pub ordered : span.start ≤ span.end
  pub starts : IsCharBoundary text span.start
  pub ends : IsCharBoundary text span.end
