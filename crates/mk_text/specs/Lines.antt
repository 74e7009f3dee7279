-- The logical lines of a makefile. make(1) says that a backslash at the end of a line joins it to the next.
-- It says too that a tab begins a command line, and that a number sign begins a comment. What a continuation becomes is
-- this project's choice, and so is that `\#` is plain whatever comes before it.
use Rattle.std.specs.Prelude.{◌==◌, ℕ, ◌+◌, ◌-◌, Bool, true, false, ◌&&◌, nat_eq, List, [], ◌∷◌, ◌++◌, length, take}
use Rattle.std.specs.Prelude.{slice_index, if◌then◌else◌}
use Rattle.std.specs.List.{slice_split, onto_first, ends_with, flat_map}
use Rattle.general_facts.specs.Ascii.{tab, line_feed, space, hash_sign, backslash}
use Rattle.mk_text.specs.Blanks.{skip_blanks, trim_blanks}

-- a logical line: its text, the number of its first source line counted from 1, and whether it is a command
-- line
pub record LogicalLine : Type 0 where
  pub text : List ℕ
  pub line : ℕ
  pub command : Bool

-- a source line goes on in the next if its last byte is a backslash
abbrev pub goes_on : List ℕ → Bool
goes_on piece = ends_with nat_eq piece (backslash ∷ [])

-- a source line without the backslash at its end
abbrev pub unmarked : List ℕ → List ℕ
unmarked piece = if goes_on piece then take (length piece - 1) piece else piece

-- the source lines in runs: a line that goes on is in one run with the next
abbrev pub runs_of : List (List ℕ) → List (List (List ℕ))
runs_of [] = []
runs_of (piece ∷ rest) = if goes_on piece then onto_first piece (runs_of rest) else (piece ∷ []) ∷ runs_of rest

-- what a later source line adds to a run: one space for the continuation, and the line without the blanks
-- that it begins with and without a backslash at its end
abbrev pub continued : List ℕ → List ℕ
continued piece = space ∷ unmarked (skip_blanks piece)

-- a run as one text
abbrev pub text_of_run : List (List ℕ) → List ℕ
text_of_run [] = []
text_of_run (piece ∷ rest) = unmarked piece ++ flat_map continued rest

-- a line up to its comment: `\#` becomes a plain `#`, and any other `#` begins the comment
abbrev pub without_comment : List ℕ → List ℕ
without_comment [] = []
without_comment (b ∷ []) = if b == hash_sign then [] else b ∷ []
without_comment (b ∷ c ∷ rest) =
    if b == hash_sign then []
    else if b == backslash && c == hash_sign then hash_sign ∷ without_comment rest
    else b ∷ without_comment (c ∷ rest)

-- a joined line: if its first byte is a tab, it is a command line and is kept as it is; else its comment
-- and the blanks at its ends are left out
abbrev pub line_at : ℕ → List ℕ → LogicalLine
line_at number text =
    if slice_index text 0 == tab
    then record { text = text; line = number; command = true }
    else record { text = trim_blanks (without_comment text); line = number; command = false }

-- the lines that runs give, if the first run begins at the source line of this number
abbrev pub lines_from : ℕ → List (List (List ℕ)) → List LogicalLine
lines_from number [] = []
lines_from number (run ∷ rest) = line_at number (text_of_run run) ∷ lines_from (number + length run) rest

-- the logical lines of a text: cut at line feeds, put into runs, each run joined to one line
unfoldable pub logical_lines : List ℕ → List LogicalLine
logical_lines text = lines_from 1 (runs_of (slice_split (λ b. b == line_feed) text))
