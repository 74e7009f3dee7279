-- How texts are cut at marks: in two, at the first mark that a certain text follows, or in parts, at every
-- mark. A text is its bytes.
use Rattle.std.specs.Prelude.{◌≡◌, ℕ, ◌+◌, ◌<◌, ◌==◌, ◌&&◌, if◌then◌else◌, Bool, List, [], ◌∷◌, length, take, drop}
use Rattle.std.specs.Prelude.{slice_index, map, Option, Some, None, option_map, MatchOption, Result, Vec, IfOk}
use Rattle.std.specs.Borrow.{Bor}
use Rattle.std.specs.Fn.{FnReturnsAt, Shared}
use Rattle.std.specs.Global.{Global}
use Rattle.std.specs.List.{slice_split}

-- a text cut in two
pub record Cut : Type 0 where
  pub before : List ℕ
  pub behind : List ℕ

-- what comes before the first mark after which the text passes a test, and what follows that mark
unfoldable pub cut_where : ℕ → (List ℕ → Bool) → List ℕ → Option Cut
cut_where mark test [] = None
cut_where mark test (byte ∷ rest) =
    if byte == mark && test rest
    then Some (record { before = []; behind = rest })
    else option_map (λ cut. record { before = byte ∷ cut.before; behind = cut.behind }) (cut_where mark test rest)

-- whatever a closure answers about a text is what the test says of it
abbrev pub AnswersAs : {F : Type 0} → Shared F (Bor (List ℕ) × Unit {0}) Bool → F → (List ℕ → Bool) → Type 0
AnswersAs calls closure test = (text : List ℕ) (answer : Bool) → FnReturnsAt calls closure text answer → answer ≡ test text

-- the texts that references point to
abbrev pub now_all : List (Bor (List ℕ)) → List (List ℕ)
now_all texts = map (λ text. text.now) texts

-- the cut of a text at a place
abbrev pub cut_at : List ℕ → ℕ → Cut
cut_at text at = record { before = take at text; behind = drop (at + 1) text }

-- there is a mark at this place of a text
pub record IsMarkAt (mark : ℕ) (text : List ℕ) (at : ℕ) : Type 0 where
  pub inside : at < length text
  pub is_mark : slice_index text at ≡ mark

-- a text is cut at the first mark after which it passes a closure's test, if there is one
abbrev pub CutsWhere : {F : Type 0} → Shared F (Bor (List ℕ) × Unit {0}) Bool → F
    → Option (Bor (List ℕ) × Bor (List ℕ)) → ℕ → List ℕ → Type 0
CutsWhere calls closure result mark text =
    (test : List ℕ → Bool) → AnswersAs calls closure test
    → MatchOption result (cut_where mark test text ≡ None)
    (λ cut. cut_where mark test text ≡ Some (record { before = cut.0.now; behind = cut.1.now }))

-- a function finds the place of that mark
abbrev pub FindsMark : {F : Type 0} → Shared F (Bor (List ℕ) × Unit {0}) Bool → F → Option ℕ → ℕ → List ℕ → Type 0
FindsMark calls closure result mark text =
    (test : List ℕ → Bool) → AnswersAs calls closure test → cut_where mark test text ≡ option_map (cut_at text) result

-- where a function succeeds, it cuts a text at each of these marks
abbrev pub CutsAtEach : {F : Type 0} → Result (Vec (Bor (List ℕ)) Global) F → ℕ → List ℕ → Type 0
CutsAtEach result mark text = IfOk result (λ parts. now_all parts.items ≡ slice_split (λ byte. byte == mark) text)
