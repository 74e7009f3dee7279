-- What a line of a loop's body becomes once the words of its iteration are put in. That each reference to a
-- variable of `.for` is replaced by its word before the line is read is make(1)'s ("FOR LOOPS"). The rest is
-- this project's choice: that its modifiers are applied as it is replaced, that each dollar of the word is
-- doubled, the cost and the limit.
use Rattle.std.specs.Prelude.{◌==◌, ℕ, suc, zero, ◌-◌, Bool, true, false, if◌then◌else◌, List, [], ◌∷◌, ◌++◌, length}
use Rattle.std.specs.Prelude.{take, drop, Option, Some, None}
use Rattle.std.specs.List.{flat_map}
use Rattle.general_facts.specs.Ascii.{dollar}
use Rattle.mk_base.specs.declared.faults.FaultKind.{FaultKind}
use Rattle.mk_base.specs.declared.faults.FaultKind.TheVariants as kinds
use Rattle.mk_base.specs.Meter.{Meter, pay}
use Rattle.mk_base.specs.Outcome.{Work, give, fail, each, ◌>>=◌}
use Rattle.mk_ref.specs.Atoms.{TextAtom, Byte, EscapedDollar, Reference, atoms_of, left_of}
use Rattle.mk_env.specs.Texts.{Variables}
use Rattle.mk_env.specs.Expansion.{bounded, modified_by}
use Rattle.mk_loop.specs.LoopWords.{LoopWords, word_named}

-- what is joined of a text so far, and whether a word was put into it
pub record SoFar : Type 0 where
  pub text : List ℕ
  pub replaced : Bool

-- nothing of a text yet
abbrev pub nothing : SoFar
nothing = record { text = []; replaced = false }

-- more of the text, as it is written
abbrev pub as_written : SoFar → List ℕ → SoFar
as_written so_far bytes = record so_far { text = so_far.text ++ bytes }

-- a text with each dollar doubled, so that it gives itself when it is expanded
abbrev pub double_dollars : List ℕ → List ℕ
double_dollars text = flat_map (λ b. if b == dollar then dollar ∷ dollar ∷ [] else b ∷ []) text

-- a word put in; it is a fault if what is joined of the text is then too long
abbrev pub with_loop_word : SoFar → List ℕ → Work Meter FaultKind SoFar
with_loop_word so_far word = bounded (so_far.text ++ double_dollars word) >>= λ text. give (record { text = text; replaced = true })

-- a text at its end: if a word was put into it, it may not be too long; any other text has no limit
abbrev pub finished : SoFar → Work Meter FaultKind (List ℕ)
finished so_far = if so_far.replaced then bounded so_far.text else give so_far.text

-- what puts words into the text that follows, given what is joined so far
abbrev pub Puts : Type 0
Puts = SoFar → List ℕ → Work Meter FaultKind SoFar

-- what is between the marks of a reference that is written like this; nothing if it has one
-- letter and no marks
abbrev pub inside : List ℕ → List ℕ
inside written = take (length written - 3) (drop 2 written)

-- the mark at its end; nothing if it has one letter and no marks
abbrev pub closing : List ℕ → List ℕ
closing written = drop (length (inside written)) (drop 2 written)

-- a reference that stays: it is joined as it is written, with words put in inside
abbrev pub stays : Puts → SoFar → List ℕ → Work Meter FaultKind SoFar
stays puts so_far written =
    puts (as_written so_far (take 2 written)) (inside written) >>= λ found. give (as_written found (closing written))

-- what the modifiers of a replaced reference, if it has any, make of its word: words are put into them first
abbrev pub modified_word : Variables → Puts → Option (List ℕ) → List ℕ → Work Meter FaultKind (List ℕ)
modified_word variables puts None word = give word
modified_word variables puts (Some modifiers) word = puts nothing modifiers >>= finished >>= λ text. modified_by variables text word

-- A reference. If it is to a loop's variable, it costs a unit and is replaced by its word, and its modifiers
-- are applied now. Any other stays.
abbrev pub put_reference : Variables → Puts → SoFar → List ℕ → Option (List ℕ) → Option (List ℕ) → Work Meter FaultKind SoFar
put_reference variables puts so_far written modifiers None = stays puts so_far written
put_reference variables puts so_far written modifiers (Some word) =
    pay >>= λ _. modified_word variables puts modifiers word >>= λ found. with_loop_word so_far found

-- an atom of a text with the words put in
abbrev pub put_atom : LoopWords → Variables → Puts → SoFar → TextAtom → Work Meter FaultKind SoFar
put_atom words variables puts so_far (Byte b) = give (as_written so_far (b ∷ []))
put_atom words variables puts so_far EscapedDollar = give (as_written so_far (dollar ∷ dollar ∷ []))
put_atom words variables puts so_far (Reference written name modifiers) =
    put_reference variables puts so_far written modifiers (word_named words name)

-- A text with the words put in, atom by atom. The number bounds how many references may be nested.
unfoldable pub put_by : LoopWords → Variables → ℕ → Puts
put_by words variables zero so_far text = give so_far
put_by words variables (suc levels) so_far text = each (put_atom words variables (put_by words variables levels)) so_far (atoms_of text)

-- the same with no bound: a text can't have more references nested than it has bytes
unfoldable pub put : LoopWords → Variables → Puts
put words variables so_far text = put_by words variables (length text) so_far text

-- A line with the words put in, if this is left of it after its atoms. If anything is left, a reference
-- doesn't end. That is a fault before any is replaced.
abbrev pub where_closed : LoopWords → Variables → List ℕ → List ℕ → Work Meter FaultKind (List ℕ)
where_closed words variables line [] = put words variables nothing line >>= finished
where_closed words variables line (b ∷ left) = fail kinds.Reference

-- a line of a loop's body with the words of its iteration put in, all at once
abbrev pub put_words : LoopWords → Variables → List ℕ → Work Meter FaultKind (List ℕ)
put_words words variables line = where_closed words variables line (left_of line)
