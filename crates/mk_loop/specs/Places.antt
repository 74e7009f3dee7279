-- Where a pass over a line is, and what it still has to do.
use Rattle.std.specs.Prelude.{◌≡◌, ◌==◌, Bool, String, ◌≢◌, ◌≤◌, ◌<◌, ◌+◌, ℕ, true, false, List, [], ◌∷◌, All, map}
use Rattle.std.specs.Prelude.{length, drop, reverse, slice_index, slice_range, Option, Some, None, Result, Ok, Err}
use Rattle.std.specs.Prelude.{string_bytes}
use Rattle.std.specs.List.{list_any}
use Rattle.std.specs.Str.{IsUtf8, IsCharBoundary}
use Rattle.std.specs.declared.alloc.Global.{Global}
use Rattle.mk_base.specs.declared.faults.FaultKind.{FaultKind}
use Rattle.mk_base.specs.declared.stops.PureStop.{PureStop}
use Rattle.mk_base.specs.Meter.{Meter}
use Rattle.mk_base.specs.Outcome.{Work, give, each, ◌>>=◌}
use Rattle.mk_base.specs.Stops.{StopsPurelyAt}
use Rattle.mk_ref.specs.Atoms.{TextAtom, sources, before_colon, following_colon, up_to_mark, cut}
use Rattle.mk_env.specs.Texts.{Variables}
use Rattle.mk_env.specs.Expansion.{modified_by}
use Rattle.mk_loop.specs.LoopWords.{LoopWords, is_reference}
use Rattle.mk_loop.specs.BodyLine.{SoFar, nothing, as_written, with_loop_word, finished, put_atom, put}
use Rattle.mk_loop.specs.Joinings.{so_far}
use Rattle.mk_loop.specs.Scopes.{words_in}
use Rattle.mk_loop.specs.declared.pass.Around.{Around}
use Rattle.mk_loop.specs.declared.pass.Around.TheVariants as v
use Rattle.mk_loop.specs.declared.pass.Body.{Body}
use Rattle.mk_loop.specs.declared.pass.Pass.{Pass}

-- A reference that a place is in. One that stays has the mark that closes it. One that is replaced, with the
-- place in its modifiers, has its mark, its word and what is joined before it.
pub data Surround : Type 0 where
  Staying : ℕ → Surround
  Changing : ℕ → List ℕ → SoFar → Surround

-- the mark that closes it
abbrev pub mark_of : Surround → ℕ
mark_of (Staying mark) = mark
mark_of (Changing mark word front) = mark

-- what is left of a line: the rest of its atoms; or the rest of the atoms inside a reference, and then what
-- is left after its mark
pub data Left : Type 0 where
  Outermost : List TextAtom → Left
  Within : List TextAtom → Surround → Left → Left

-- the references that the place is in, the innermost first
abbrev pub surrounds : Left → List Surround
surrounds (Outermost atoms) = []
surrounds (Within atoms surround left) = surround ∷ surrounds left

-- these atoms are what is left of a text
abbrev pub IsLeft : Left → List ℕ → Type 0
IsLeft (Outermost atoms) text = cut text ≡ (atoms, [])
IsLeft (Within atoms surround left) text = (rest : List ℕ) × ((up_to_mark (mark_of surround) text ≡ Some (atoms, rest)) × IsLeft left rest)

-- What the mark that closes a reference does. If the reference stays, the mark is joined as it is written.
-- If the reference is replaced, its word is put in, as its modifiers change it.
abbrev pub close_reference : Variables → Surround → SoFar → Work Meter FaultKind SoFar
close_reference variables (Staying mark) here = give (as_written here (mark ∷ []))
close_reference variables (Changing mark word front) here =
    finished here >>= λ text. modified_by variables text word >>= λ found. with_loop_word front found

-- what becomes of a line if this is left of it, given what is joined so far of the innermost text
abbrev pub goes : LoopWords → Variables → Left → SoFar → Work Meter FaultKind (List ℕ)
goes words variables (Outermost atoms) here m = (each (put_atom words variables (put words variables)) here atoms >>= finished) m
goes words variables (Within atoms surround left) here m =
    (each (put_atom words variables (put words variables)) here atoms >>= close_reference variables surround
    >>= goes words variables left) m

-- a reference that a pass is in
abbrev pub surround_of : Around → Surround
surround_of (v.Kept mark) = Staying mark
surround_of (v.Replaced mark word front) = Changing mark (string_bytes word) (so_far front)

-- what is joined up to the place of a pass
abbrev pub here : List ℕ → Pass → SoFar
here line pass = as_written (so_far pass.joined) (slice_range line pass.copied pass.at)

-- whether a byte closes the innermost reference that a pass is in
abbrev pub closes_first : List Surround → ℕ → Bool
closes_first [] byte = false
closes_first (surround ∷ outer) byte = byte == mark_of surround

abbrev pub closes : Pass → ℕ → Bool
closes pass byte = closes_first (map surround_of (reverse pass.around.items)) byte

-- the text that was made of a line; the line itself if none was made
abbrev pub made_or_line : List ℕ → Option (String Global) → List ℕ
made_or_line line None = line
made_or_line line (Some made) = string_bytes made

-- its mark is a byte of a text by itself
abbrev pub HasAsciiMark : Around → Type 0
HasAsciiMark around = mark_of (surround_of around) < 128

-- it stays
abbrev pub IsKeptReference : Around → Type 0
IsKeptReference (v.Kept mark) = Unit {0}
IsKeptReference (v.Replaced mark word front) = ⊥

-- the places of a pass are in the line, and the line is UTF-8
pub record IsPlaced (line : List ℕ) (pass : Pass) : Type 0 where
  pub text : IsUtf8 line
  pub ordered : pass.copied ≤ pass.at
  pub within : pass.at ≤ length line
  pub starts : IsCharBoundary line pass.copied
  pub marks : All HasAsciiMark pass.around.items
  -- if nothing is copied, no reference was replaced yet: nothing is joined, and each one around the place stays
  pub untouched : pass.copied ≡ 0 → so_far pass.joined ≡ nothing
  pub kept : pass.copied ≡ 0 → All IsKeptReference pass.around.items

-- What is copied was paid for: from the first meter on nothing is spent if nothing is copied, and at least one
-- atom if something is.
abbrev pub IsPaid : Meter → ℕ → Meter → Type 0
IsPaid from copied m = (copied ≡ 0 → m.spent ≡ from.spent) × (copied ≢ 0 → from.spent < m.spent)

-- a step pays for what it copies
abbrev pub PaysFor : Pass → Meter → Pass → Meter → Type 0
PaysFor pass m next m' = (from : Meter) → IsPaid from pass.copied m → IsPaid from next.copied m'

-- this is left of the line at the place of a pass
pub record HasLeft (line : List ℕ) (pass : Pass) (left : Left) : Type 0 where
  pub atoms : IsLeft left (drop pass.at line)
  pub around : surrounds left ≡ map surround_of (reverse pass.around.items)

-- A step of a pass, if this is left. What becomes of the line is the same from the new place on, or
-- it stops there.
abbrev pub ContinuesPass : LoopWords → Variables → List ℕ → Pass → Left → Meter → Result Pass (PureStop FaultKind) → Meter → Type 0
ContinuesPass words variables line pass left m (Ok next) m' =
    (more : Left)
    × (HasLeft line next more × (goes words variables left (here line pass) m ≡ goes words variables more (here line next) m'))
ContinuesPass words variables line pass left m (Err stop) m' = StopsPurelyAt stop m' (goes words variables left (here line pass) m)

-- a step of a pass over the line of a body, whatever is left of the line
abbrev pub StepsOn : Body → Pass → Meter → Result Pass (PureStop FaultKind) → Meter → Type 0
StepsOn body pass m result m' =
    (left : Left)
    → HasLeft body.line.now pass left
    → ContinuesPass (words_in body.loops.now) body.variables.now body.line.now pass left m result m'

-- The name of a reference ends at this index, and there is no reference in the name. The reference has these
-- atoms inside, the first of them at `start`, and this rest follows its mark.
pub record NameEnds (text : List ℕ) (start mark end : ℕ) (atoms : List TextAtom) (rest : List ℕ) : Type 0 where
  pub plain : list_any is_reference (before_colon atoms) ≡ false
  pub name : sources (before_colon atoms) ≡ slice_range text start end
  pub closes : slice_index text end ≡ mark → (following_colon atoms ≡ None) × (rest ≡ drop (end + 1) text)
  pub goes_on : slice_index text end ≢ mark
      → (more : List TextAtom)
      × ((following_colon atoms ≡ Some more) × (up_to_mark mark (drop (end + 1) text) ≡ Some (more, rest)))

-- where the name of a reference ends; None if there is a reference in the name
abbrev pub EndsName : List ℕ → ℕ → ℕ → Option ℕ → Type 0
EndsName text start mark None =
    (atoms : List TextAtom) (rest : List ℕ) → up_to_mark mark (drop start text) ≡ Some (atoms, rest)
    → list_any is_reference (before_colon atoms) ≡ true
EndsName text start mark (Some end) =
    (start ≤ end) × (end < length text) × (slice_index text end < 128)
    × ((atoms : List TextAtom) (rest : List ℕ) → up_to_mark mark (drop start text) ≡ Some (atoms, rest)
    → NameEnds text start mark end atoms rest)
