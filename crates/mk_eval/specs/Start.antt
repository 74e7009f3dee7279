-- The variables with which an evaluation begins (bsd.port.mk(5)); which they are, and their values, is this
-- project's choice.
use Rattle.std.specs.Prelude.{◌≡◌, ℕ, List, Option, Some, None, codes, Result, IfOk, String, string_bytes}
use Rattle.std.specs.Global.{Global}
use Rattle.std.specs.List.{join_by}
use Rattle.text_parts.specs.Order.{in_order}
use Rattle.mk_env.specs.Texts.{Variables, no_variables, with_text}
use Rattle.mk_paths.specs.declared.search_path.Settings.{Settings}
use Rattle.mk_paths.specs.FileName.{directory_of}

-- texts one after another, with this one between each two
abbrev pub between : List ℕ → List (List ℕ) → List ℕ
between mark texts = join_by (λ text. text) mark texts

-- the variables of the makefile of this name, in the language of the settings, with the trees of their search path, which
-- have colons between them
abbrev pub unflavored_start : Settings → List ℕ → Variables
unflavored_start settings makefile =
    let place = with_text (no_variables settings.profile) (codes ".CURDIR") (directory_of makefile) in
    let trees =
    with_text (with_text place (codes "PORTSDIR") (codes "/ports")) (codes "PORTSDIR_PATH")
    (between (codes ":") settings.path) in
    with_text (with_text trees (codes "MACHINE_ARCH") (codes "amd64")) (codes "LOCALBASE") (codes "/usr/local")

-- these flavors in order, with a space between each two
abbrev pub flavors_text : List (List ℕ) → List ℕ
flavors_text flavors = between (codes " ") (in_order flavors)

-- FLAVOR has the flavors
abbrev pub with_flavors : Variables → List (List ℕ) → Variables
with_flavors variables flavors = with_text variables (codes "FLAVOR") (flavors_text flavors)

-- the same with the flavors, if flavors are given
abbrev pub start : Settings → List ℕ → Option (List (List ℕ)) → Variables
start settings makefile None = unflavored_start settings makefile
start settings makefile (Some flavors) = with_flavors (unflavored_start settings makefile) flavors

-- if a function succeeds, an evaluation starts with these variables
abbrev pub Starts : {F : Type 0} → Result Variables F → Variables → Type 0
Starts result variables = IfOk result (λ made. made ≡ variables)

-- if a function succeeds, the texts that it joined make this one
abbrev pub JoinsTo : {F : Type 0} → Result (String Global) F → List ℕ → Type 0
JoinsTo result text = IfOk result (λ joined. string_bytes joined ≡ text)
