-- Variables that are asked for a record: their values, as make(1) expands them, over one budget.
use Rattle.std.specs.Prelude.{ℕ, if◌then◌else◌, is_some, List, [], ◌++◌, map, Option, Some, None, option_map, Result, codes}
use Rattle.std.specs.Prelude.{String, Vec, string_bytes}
use Rattle.std.specs.Global.{Global}
use Rattle.std.specs.Str.{bytes_eq, str_to_ascii_lowercase}
use Rattle.mk_base.specs.declared.faults.FaultKind.{FaultKind}
use Rattle.mk_base.specs.Meter.{Meter}
use Rattle.mk_base.specs.Outcome.{Work, give, ◌>>=◌}
use Rattle.mk_base.specs.Stops.{GivesPurely}
use Rattle.mk_base.specs.declared.stops.PureStop.{PureStop}
use Rattle.mk_text.specs.Words.{words_of}
use Rattle.mk_env.specs.Texts.{Variables, text_in}
use Rattle.mk_env.specs.Expansion.{variable}

-- the value of a variable; one that isn't defined has none, and costs nothing
unfoldable pub value : Variables → List ℕ → Work Meter FaultKind (Option (List ℕ))
value variables name m =
    (if is_some (text_in variables name)
    then (variable variables name >>= λ text. give (Some text)) else give None) m

-- a value, or, if there is none, what is taken instead
abbrev pub or_else : Option (List ℕ) → Work Meter FaultKind (Option (List ℕ)) → Work Meter FaultKind (Option (List ℕ))
or_else None other = other
or_else (Some text) other = give (Some text)

-- the value of a variable, or of another one if the first isn't defined
unfoldable pub value_or : Variables → List ℕ → List ℕ → Work Meter FaultKind (Option (List ℕ))
value_or variables name other m = (value variables name >>= λ found. or_else found (value variables other)) m

-- what a variable's name ends in for a package: the package's name; nothing for `-`, the one package of a
-- port that names none
abbrev pub ending : List ℕ → List ℕ
ending subpackage = if bytes_eq subpackage (codes "-") then [] else subpackage

-- the value of a variable for a package: of the variable with the package's ending, or of the one without if
-- that isn't defined
abbrev pub package_value : Variables → List ℕ → List ℕ → Work Meter FaultKind (Option (List ℕ))
package_value variables name subpackage = value_or variables (name ++ ending subpackage) name

-- the text of a value: empty if there is none
abbrev pub text_or_empty : Option (List ℕ) → List ℕ
text_or_empty None = []
text_or_empty (Some text) = text

-- the text of a variable, its words, and its words lowered
unfoldable pub asked_text : Variables → List ℕ → Work Meter FaultKind (List ℕ)
asked_text variables name m = (value variables name >>= λ found. give (text_or_empty found)) m

unfoldable pub asked_words : Variables → List ℕ → Work Meter FaultKind (List (List ℕ))
asked_words variables name m = (value variables name >>= λ found. give (words_of (text_or_empty found))) m

unfoldable pub lowercase_words : Variables → List ℕ → Work Meter FaultKind (List (List ℕ))
lowercase_words variables name m = (value variables name >>= λ found. give (words_of (str_to_ascii_lowercase (text_or_empty found)))) m

-- the text of a variable for a package, and its words
unfoldable pub package_text : Variables → List ℕ → List ℕ → Work Meter FaultKind (List ℕ)
package_text variables name subpackage m = (package_value variables name subpackage >>= λ found. give (text_or_empty found)) m

unfoldable pub package_words : Variables → List ℕ → List ℕ → Work Meter FaultKind (List (List ℕ))
package_words variables name subpackage m = (package_value variables name subpackage >>= λ found. give (words_of (text_or_empty found))) m

-- an answer is the value that this work finds, or that there is none; the meter goes from one to the other
abbrev pub MayGive : Result (Option (String Global)) (PureStop FaultKind)
    → Work Meter FaultKind (Option (List ℕ)) → Meter → Meter → Type 0
MayGive result work before after = GivesPurely (option_map string_bytes) result after (work before)

-- an answer is the text that this work gives
abbrev pub GivesText : Result (String Global) (PureStop FaultKind) → Work Meter FaultKind (List ℕ) → Meter
    → Meter → Type 0
GivesText result work before after = GivesPurely string_bytes result after (work before)

-- an answer is the words that this work gives
abbrev pub GivesWords : Result (Vec (String Global) Global) (PureStop FaultKind)
    → Work Meter FaultKind (List (List ℕ)) → Meter → Meter → Type 0
GivesWords result work before after = GivesPurely (λ found. map string_bytes found.items) result after (work before)

-- an answer is the value of a variable for a package
abbrev pub MayGiveFor : Result (Option (String Global)) (PureStop FaultKind) → Variables → List ℕ → List ℕ
    → Meter → Meter → Type 0
MayGiveFor result variables name subpackage = MayGive result (package_value variables name subpackage)

-- an answer is the value of the variable whose name has the package's ending
abbrev pub GivesOwn : Result (Option (String Global)) (PureStop FaultKind) → Variables → List ℕ → List ℕ
    → Meter → Meter → Type 0
GivesOwn result variables name subpackage = MayGive result (value variables (name ++ ending subpackage))

-- an answer is the text of a variable for a package
abbrev pub GivesTextFor : Result (String Global) (PureStop FaultKind) → Variables → List ℕ → List ℕ → Meter
    → Meter → Type 0
GivesTextFor result variables name subpackage = GivesText result (package_text variables name subpackage)

-- an answer is the words of a variable for a package
abbrev pub GivesWordsFor : Result (Vec (String Global) Global) (PureStop FaultKind) → Variables → List ℕ
    → List ℕ → Meter → Meter → Type 0
GivesWordsFor result variables name subpackage = GivesWords result (package_words variables name subpackage)
