-- Texts and their numbers. A text's number is its place among the texts that were met.
use Rattle.std.specs.Prelude.{◌≡◌, ◌<◌, ℕ, suc, nat_eq, if◌then◌else◌, Bool, false, Option, Some, None, option_map}
use Rattle.std.specs.Prelude.{List, [], ◌∷◌, ◌++◌, map, filter, fold, length, get_or}
use Rattle.std.specs.List.{All, list_any}
use Rattle.std.specs.Str.{bytes_eq}
use Rattle.text_parts.specs.Cuts.{now_all}
use Rattle.text_graph.specs.Slots.{first_in, other_of}
use Rattle.text_graph.specs.declared.numbers.Numbers.{Numbers}
use Rattle.text_graph.specs.declared.numbers.NumberedArrow.{NumberedArrow}
use Rattle.text_graph.specs.declared.numbers.TheConstants.{SLOTS}
use Rattle.text_graph.specs.declared.text_search.Found.{Found}
use Rattle.text_graph.specs.declared.steps.Steps.{Steps}

-- the first place of a text among these texts
abbrev pub place_of : List (List ℕ) → List ℕ → Option ℕ
place_of [] text = None
place_of (first ∷ texts) text = if bytes_eq text first then Some 0 else option_map suc (place_of texts text)

-- the text at a place
abbrev pub text_at : List (List ℕ) → ℕ → List ℕ
text_at texts place = get_or texts place []

-- each text is once among these: the first place of the one at a place is that place
abbrev pub EachOnce : List (List ℕ) → Type 0
EachOnce texts = (place : ℕ) → place < length texts → place_of texts (text_at texts place) ≡ Some place

-- these are the numbers of those texts, one for one, where these texts were met
abbrev pub AreNumbers : List (List ℕ) → List ℕ → List (List ℕ) → Type 0
AreNumbers met numbers texts = map Some numbers ≡ map (place_of met) texts

-- the texts that were met, in the order of their numbers
abbrev pub texts_met : Numbers → List (List ℕ)
texts_met numbers = now_all numbers.texts.items

-- this is the number of a text that was met
abbrev pub IsNumberOf : ℕ → Numbers → List ℕ → Type 0
IsNumberOf number numbers text = place_of (texts_met numbers) text ≡ Some number

-- if this is the number of a text that was met, it is that of another text
abbrev pub IsOfAnother : ℕ → Numbers → List ℕ → Type 0
IsOfAnother number numbers text =
    number < length (texts_met numbers) → bytes_eq text (text_at (texts_met numbers) number) ≡ false

-- the texts at these places
abbrev pub texts_at : List (List ℕ) → List ℕ → List (List ℕ)
texts_at texts places = map (text_at texts) places

-- each of these numbers is below the count
abbrev pub AreWithin : ℕ → List ℕ → Type 0
AreWithin count numbers = All (λ number. number < count) numbers

-- the number where each of these arrows begins is below the count
abbrev pub BeginWithin : ℕ → List NumberedArrow → Type 0
BeginWithin count arrows = All (λ (arrow : NumberedArrow). arrow.from < count) arrows

-- the place of a text: that of the first of its slot, if that is this text, and else that among the others
abbrev pub place_kept : List (List ℕ) → List ℕ → Option ℕ → Option ℕ → Option ℕ
place_kept met text None other = other
place_kept met text (Some first) other = if bytes_eq text (text_at met first) then Some first else other

-- a text isn't the first of its slot
pub record IsNoFirst (numbers : Numbers) (text : List ℕ) : Type 0 where
  pub first : ℕ
  pub kept : first_in numbers text ≡ Some first
  pub differs : bytes_eq text (text_at (texts_met numbers) first) ≡ false

-- the slots and the map know exactly the texts that were met, each by its place, and each is once among them
pub record IsNumbering (numbers : Numbers) : Type 0 where
  pub slots : length numbers.first.items ≡ SLOTS
  pub inside : (text : List ℕ) (number : ℕ) → first_in numbers text ≡ Some number → number < length (texts_met numbers)
  pub spare : (text : List ℕ) → first_in numbers text ≡ None → other_of numbers text ≡ None
  pub knows : (text : List ℕ)
      → place_kept (texts_met numbers) text (first_in numbers text) (other_of numbers text)
      ≡ place_of (texts_met numbers) text
  pub once : EachOnce (texts_met numbers)

-- maybe more texts were met, and those that were met before have the numbers that they had
pub record MeetsMore (old new : Numbers) : Type 0 where
  pub numbering : IsNumbering new
  pub keeps : (text : List ℕ) (number : ℕ)
      → place_of (texts_met old) text ≡ Some number → place_of (texts_met new) text ≡ Some number

-- the numbers where arrows end that begin at a number
abbrev pub next_numbers : List NumberedArrow → ℕ → List ℕ
next_numbers arrows number =
    map (λ (arrow : NumberedArrow). arrow.to) (filter (λ (arrow : NumberedArrow). nat_eq number arrow.from) arrows)

-- a number is one of these
abbrev pub is_number_among : ℕ → List ℕ → Bool
is_number_among number numbers = list_any (nat_eq number) numbers

-- the numbers with one more, unless it is one of them
abbrev pub number_added : List ℕ → ℕ → List ℕ
number_added numbers number = if is_number_among number numbers then numbers else numbers ++ number ∷ []

abbrev pub numbers_added : List ℕ → List ℕ → List ℕ
numbers_added numbers more = fold number_added numbers more

-- the mark of a number
abbrev pub number_mark : Found → ℕ → Bool
number_mark found number = get_or found.known.items number false

abbrev pub numbers_found : Found → List ℕ
numbers_found found = found.numbers.items

-- how many texts there are, found or not
abbrev pub marks_count : Found → ℕ
marks_count found = length found.known.items

-- the marks are those of exactly the numbers that were found
abbrev pub KnowsItsNumbers : Found → Type 0
KnowsItsNumbers found = (number : ℕ)
    → number < marks_count found → number_mark found number ≡ is_number_among number (numbers_found found)

-- the numbers where the arrows from a number lead
abbrev pub next_kept : Steps → ℕ → List ℕ
next_kept steps number = get_or (map (λ next. next.items) steps.next.items) number []
