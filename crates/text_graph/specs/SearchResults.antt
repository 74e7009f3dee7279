-- What the functions give that search over arrows, if they succeed.
use Rattle.std.specs.Prelude.{◌≡◌, ◌<◌, ℕ, List, map, Result, IfOk, Vec}
use Rattle.std.specs.Borrow.{Bor}
use Rattle.std.specs.declared.alloc.Global.{Global}
use Rattle.text_parts.specs.Cuts.{now_all}
use Rattle.text_graph.specs.Arrows.{ArrowValue, arrows_seen}
use Rattle.text_graph.specs.TextSearch.{FindsAll}
use Rattle.text_graph.specs.Numbers.{AreNumbers, IsNumberOf, texts_met, marks_count, numbers_found, next_kept, next_numbers}
use Rattle.text_graph.specs.declared.arrow.Arrow.{Arrow}
use Rattle.text_graph.specs.declared.numbers.Numbers.{Numbers}
use Rattle.text_graph.specs.declared.numbers.NumberedArrow.{NumberedArrow}
use Rattle.text_graph.specs.declared.text_search.Found.{Found}
use Rattle.text_graph.specs.declared.steps.Steps.{Steps}

-- it gave these texts
abbrev pub LendsTexts : {F : Type 0} → Result (Vec (Bor (List ℕ)) Global) F → List (List ℕ) → Type 0
LendsTexts result texts = IfOk result (λ lent. now_all lent.items ≡ texts)

-- it gave these arrows
abbrev pub GivesArrows : {F : Type 0} → Result (Vec Arrow Global) F → List ArrowValue → Type 0
GivesArrows result arrows = IfOk result (λ given. arrows_seen given.items ≡ arrows)

-- it gave the starts, and all texts that are reached from them over these arrows
abbrev pub FindsReached : {F : Type 0} → Result (Vec (Bor (List ℕ)) Global) F → List (List ℕ) → List ArrowValue → Type 0
FindsReached result starts arrows = IfOk result (λ texts. FindsAll starts arrows (now_all texts.items))

-- it gave the number of this text
abbrev pub GivesNumber : {F : Type 0} → Result ℕ F → Numbers → List ℕ → Type 0
GivesNumber result met text = IfOk result (λ number. IsNumberOf number met text)

-- it gave the numbers of these texts
abbrev pub GivesNumbers : {F : Type 0} → Result (Vec ℕ Global) F → Numbers → List (List ℕ) → Type 0
GivesNumbers result met texts = IfOk result (λ numbers. AreNumbers (texts_met met) numbers.items texts)

-- the arrow begins at the number of this text, or ends there
abbrev pub BeginsAtNumber : {F : Type 0} → Result NumberedArrow F → Numbers → List ℕ → Type 0
BeginsAtNumber result met text = IfOk result (λ arrow. IsNumberOf arrow.from met text)

abbrev pub EndsAtNumber : {F : Type 0} → Result NumberedArrow F → Numbers → List ℕ → Type 0
EndsAtNumber result met text = IfOk result (λ arrow. IsNumberOf arrow.to met text)

-- the arrows begin at the numbers of these texts, or end there
abbrev pub BeginAtNumbers : {F : Type 0} → Result (Vec NumberedArrow Global) F → Numbers → List (List ℕ) → Type 0
BeginAtNumbers result met texts =
    IfOk result (λ arrows. AreNumbers (texts_met met) (map (λ (arrow : NumberedArrow). arrow.from) arrows.items) texts)

abbrev pub EndAtNumbers : {F : Type 0} → Result (Vec NumberedArrow Global) F → Numbers → List (List ℕ) → Type 0
EndAtNumbers result met texts =
    IfOk result (λ arrows. AreNumbers (texts_met met) (map (λ (arrow : NumberedArrow). arrow.to) arrows.items) texts)

-- these are the numbers that are found
abbrev pub FindsNumbers : {F : Type 0} → Result Found F → List ℕ → Type 0
FindsNumbers result numbers = IfOk result (λ found. numbers_found found ≡ numbers)

-- there is a mark for each number below the count
abbrev pub HasMarks : {F : Type 0} → Result Found F → ℕ → Type 0
HasMarks result count = IfOk result (λ found. marks_count found ≡ count)

-- the steps from each number below the count are those over these arrows
abbrev pub StepsOver : {F : Type 0} → Result Steps F → ℕ → List NumberedArrow → Type 0
StepsOver result count arrows =
    IfOk result (λ steps. (number : ℕ) → number < count → next_kept steps number ≡ next_numbers arrows number)
