-- What the functions of one pass through a line do.
use Rattle.std.specs.Prelude.{Result, ℕ, IfOk, ◌≡◌, ◌++◌, ◌∷◌, [], List, map, Option, String}
use Rattle.std.specs.Global.{Global}
use Rattle.mk_loop.specs.declared.pass.Pass.{Pass}
use Rattle.mk_loop.specs.declared.pass.Around.TheVariants as v
use Rattle.mk_loop.specs.Places.{surround_of, Changing, here, made_or_line, close_reference}
use Rattle.mk_base.specs.declared.stops.PureStop.{PureStop}
use Rattle.mk_base.specs.declared.faults.FaultKind.{FaultKind}
use Rattle.mk_base.specs.Meter.{Meter}
use Rattle.mk_base.specs.Stops.{GivesPurely}
use Rattle.mk_loop.specs.Joinings.{so_far}
use Rattle.mk_loop.specs.BodyLine.{with_loop_word, finished, put_words}
use Rattle.mk_loop.specs.declared.joined_text.Joined.{Joined}
use Rattle.mk_env.specs.Texts.{Variables}
use Rattle.mk_loop.specs.declared.iterations.Iteration.{Iteration}
use Rattle.mk_loop.specs.Scopes.{words_in}

-- where a function succeeds, what it passes next stands in a part that stays, up to this mark
abbrev pub KeepsMark : {F : Type 0} → Result Pass F → Pass → ℕ → Type 0
KeepsMark result pass mark = IfOk result (λ next. next.around.items ≡ pass.around.items ++ v.Kept mark ∷ [])

-- where a function succeeds, what it passes next are the modifiers of this word, up to this mark
abbrev pub BeginsChange : {F : Type 0} → Result Pass F → Pass → List ℕ → ℕ → List ℕ → Type 0
BeginsChange result pass line mark word =
    IfOk result (λ next. map surround_of next.around.items
    ≡ map surround_of pass.around.items ++ Changing mark word (here line pass) ∷ [])

-- a function puts this word behind what was passed of the line, whatever the meter has counted
abbrev pub PutsWord : Result Pass (PureStop FaultKind) → Pass → List ℕ → List ℕ → Type 0
PutsWord result pass line word =
    (m : Meter) → GivesPurely (λ next. so_far next.joined) result m (with_loop_word (here line pass) word m)

-- a function gives the text of the whole line, whatever the meter has counted
abbrev pub FinishesLine : Result (Option (String Global)) (PureStop FaultKind) → Pass → List ℕ → Type 0
FinishesLine result pass line = (m : Meter) → GivesPurely (made_or_line line) result m (finished (here line pass) m)

-- a function puts this word, changed by the modifiers, behind the front, whatever mark closes them
abbrev pub EndsChange : Result Joined (PureStop FaultKind) → Variables → List ℕ → Joined → Joined → Meter → Meter → Type 0
EndsChange result variables word front modifiers old new =
    (mark : ℕ) → GivesPurely so_far result new
    (close_reference variables (Changing mark word (so_far front)) (so_far modifiers) old)

-- a function puts the words of these loops into a line
abbrev pub PutsWords : Result (Option (String Global)) (PureStop FaultKind)
    → List Iteration → Variables → List ℕ → Meter → Meter → Type 0
PutsWords result loops variables line old new =
    GivesPurely (made_or_line line) result new (put_words (words_in loops) variables line old)
