use Rattle.std.specs.Prelude.{ℕ, List, ◌∷◌, ◌++◌, map, Option, None, Some, is_some, if◌then◌else◌, string_bytes, String}
use Rattle.std.specs.Prelude.{Result, OnOk, ◌≡◌}
use Rattle.std.specs.Ordering.{nat_cmp}
use Rattle.std.specs.Cmp.Lexicographic.{slice_cmp}
use Rattle.std.specs.declared.alloc.Global.{Global}
use Rattle.std.specs.FinMap as finite
use Rattle.general_facts.specs.Ascii.{space}
use Rattle.mk_text.specs.declared.profile.Profile.{Profile}

-- the texts of variables, by their names: a name that isn't there isn't defined
abbrev pub TextMap : Type 0
TextMap = finite.FinMap (slice_cmp nat_cmp) (List ℕ)

-- the variables of a makefile: the profile of the language in which references to them are read, and their texts
abbrev pub Variables : Type 0
Variables = Profile × TextMap

-- the profile in which references to variables are read
abbrev pub language_of : Variables → Profile
language_of variables = variables.0

-- the text of the variable of this name, if it is defined
abbrev pub text_in : Variables → List ℕ → Option (List ℕ)
text_in variables name = finite.get variables.1 name

-- no variable, in this profile
abbrev pub no_variables : Profile → Variables
no_variables profile = (profile, finite.empty)

-- the variables with this text in the one of this name
abbrev pub with_text : Variables → List ℕ → List ℕ → Variables
with_text variables name text = (variables.0, finite.insert variables.1 name text)

-- the variables without the one of this name
abbrev pub without_text : Variables → List ℕ → Variables
without_text variables name = (variables.0, finite.remove variables.1 name)

-- the bytes of a name and of its text
abbrev pub entry_bytes : String Global × String Global → List ℕ × List ℕ
entry_bytes entry = (string_bytes entry.0, string_bytes entry.1)

-- the map of these entries, by their bytes
abbrev pub texts_of : List (String Global × String Global) → TextMap
texts_of entries = finite.from_entries (map entry_bytes entries)

-- what `+=` leaves in a variable: its text, a space and the added text, or the added text alone if the
-- variable wasn't defined
abbrev pub appended : Option (List ℕ) → List ℕ → List ℕ
appended None text = text
appended (Some before) text = before ++ space ∷ text

-- what `?=` leaves: a name that is defined keeps its text, and one that isn't gets this text
abbrev pub defaulted : Variables → List ℕ → List ℕ → Variables
defaulted variables name text = if is_some (text_in variables name) then variables else with_text variables name text

-- where a function succeeds, it appended a text to that of this variable
abbrev pub AppendsText : {R F : Type 0} → Result R F → Variables → Variables → List ℕ → List ℕ → Type 0
AppendsText result old new name text = OnOk result (new ≡ with_text old name (appended (text_in old name) text))
