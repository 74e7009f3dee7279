-- The modules that a port names in MODULES (bsd.port.mk(5), port-modules(5)). That they are looked for along the
-- search path, in which language that is done, and in which order faults are looked for, is this project's choice.
use Rattle.std.specs.Prelude.{ℕ, Bool, true, false, not, ◌&&◌, ◌||◌, if◌then◌else◌, List, [], ◌∷◌, ◌++◌, map}
use Rattle.std.specs.Prelude.{Option, Some, None, option_map, is_some, codes}
use Rattle.std.specs.Str.{bytes_eq}
use Rattle.mk_base.specs.declared.faults.FaultKind.{FaultKind}
use Rattle.mk_base.specs.Meter.{Meter}
use Rattle.mk_base.specs.Outcome.{Work, give, ◌>>=◌}
use Rattle.mk_text.specs.Words.{words_of}
use Rattle.mk_text.specs.declared.profile.Profile.{Profile}
use Rattle.mk_text.specs.declared.profile.Profile.TheVariants.{One, Two}
use Rattle.mk_env.specs.Texts.{Variables, language_of, text_in}
use Rattle.mk_env.specs.Expansion.{variable}
use Rattle.general_facts.specs.Ascii.{slash}
use Rattle.mk_paths.specs.FileName.{parts_of_name, name_under, resolved}
use Rattle.mk_files.specs.Questions.{Account}
use Rattle.mk_eval.specs.declared.state.EvalState.{EvalState}
use Rattle.mk_eval.specs.Includes.{Place, Opened, open_if_there}

-- whether `<bsd.port.mk>` includes modules too
abbrev pub has_modules : Profile → Bool
has_modules One = false
has_modules Two = true

-- whether a line after this state may be one that modules are included after
abbrev pub may_ask_modules : EvalState → Bool
may_ask_modules state = not state.shared_asked && has_modules (language_of state.variables)

-- whether modules are included after a line, by the state before it and the one that it leaves: the line is the first
-- to include `<bsd.port.mk>`
abbrev pub asks_modules : EvalState → EvalState → Bool
asks_modules old new = may_ask_modules old && new.shared_asked

-- the words of MODULES, expanded; there are none, at no cost, if it isn't defined
abbrev pub module_words : Variables → Work Meter FaultKind (List (List ℕ))
module_words variables =
    if is_some (text_in variables (codes "MODULES"))
    then variable variables (codes "MODULES") >>= (λ text. give (words_of text))
    else give []

-- whether a part of a word may name a directory
abbrev pub may_name_directory : List ℕ → Bool
may_name_directory part = not (bytes_eq part [] || bytes_eq part (codes ".") || bytes_eq part (codes ".."))

-- the name of the module that a word with these parts names: the word is `category/name`
abbrev pub module_name : List (List ℕ) → Option (List ℕ)
module_name (category ∷ name ∷ []) = if may_name_directory category && may_name_directory name then Some name else None
module_name parts = None

-- the file of a module in a tree, `category/name/name.port.mk`; None for a word of another form
abbrev pub module_file : List ℕ → Option (List ℕ)
module_file word = option_map (λ name. word ++ slash ∷ name ++ codes ".port.mk") (module_name (parts_of_name word))

-- the names that a file has in some trees
abbrev pub names_in_trees : List (List ℕ) → Option (List ℕ) → List (List ℕ)
names_in_trees trees None = []
names_in_trees trees (Some file) = map (λ tree. name_under tree file) trees

-- a file that is there, or else what others give
abbrev pub opened_or : (EvalState → Work Account FaultKind Opened) → Opened → Work Account FaultKind Opened
opened_or others (state, Some file) = give (state, Some file)
opened_or others (state, None) = others state

-- the first of these names that is that of a file, if one is
abbrev pub open_first : Place → List (List ℕ) → EvalState → Work Account FaultKind Opened
open_first place [] state = give (state, None)
open_first place (name ∷ names) state = open_if_there place state (resolved name) >>= opened_or (open_first place names)

-- the file of the module that a word of MODULES names, in the first tree of the search path that has one
abbrev pub open_module : Place → EvalState → List ℕ → Work Account FaultKind Opened
open_module place state word = open_first place (names_in_trees state.path (module_file word)) state
