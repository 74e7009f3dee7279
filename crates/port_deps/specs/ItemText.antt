-- Items of dependencies, `[pkgspec:]pkgpath[:target]` (BUILD_DEPENDS of bsd.port.mk(5), pkgpath(7),
-- packages-specs(7)). Which items can't be read, and how a spec is distinguished from a path, is this
-- project's choice.
use Rattle.std.specs.Prelude.{◌≡◌, ℕ, ◌==◌, ◌||◌, not, if◌then◌else◌, Bool, false, List, [], ◌∷◌, ◌++◌, length, take, drop}
use Rattle.std.specs.Prelude.{Option, Some, None, IfSome, option_and_then, is_ok, position, codes}
use Rattle.std.specs.List.{slice_split, list_any, prefix_len}
use Rattle.general_facts.specs.Ascii.{star, slash, colon, less_sign, equals_sign, greater_sign, bar}
use Rattle.text_parts.specs.Cuts.{Cut}
use Rattle.pkg_path.specs.Paths.{PathValue, path_if_one, port_path}
use Rattle.general_facts.specs.Ascii.{comma}
use Rattle.pkg_spec.specs.Alternatives.{spec_of}

-- what an item asks for: the path of a port, and the text of a spec of the packages that will do
pub record WantedValue : Type 0 where
  pub path : PathValue
  pub spec : List ℕ

-- the parts of an item that say so, not read yet: a spec, if there is one, and a path
pub record PartsValue : Type 0 where
  pub spec : Option (List ℕ)
  pub path : List ℕ

-- the parts of a text between its colons
abbrev pub cut_at_colons : List ℕ → List (List ℕ)
cut_at_colons text = slice_split (λ byte. byte == colon) text

-- the parts without the empty ones that come first
abbrev pub after_empty : List (List ℕ) → List (List ℕ)
after_empty parts = drop (prefix_len (λ part. length part == 0) parts) parts

-- the parts of an item: colons separate them, and empty parts that come first are dropped
abbrev pub parts_of_item : List ℕ → List (List ℕ)
parts_of_item text = after_empty (cut_at_colons text)

-- the first of two parts is a spec if it has no slash, or has `*` or `|`
abbrev pub is_spec : List ℕ → Bool
is_spec part = not (list_any (λ byte. byte == slash) part) || list_any (λ byte. byte == star) part || list_any (λ byte. byte == bar) part

-- two parts are a spec and a path, or a path and a target
abbrev pub of_two : List ℕ → List ℕ → PartsValue
of_two first second = if is_spec first then record { spec = Some first; path = second } else record { spec = None; path = first }

-- which parts ask for what: one part is a path; two parts are as above; three parts are a spec, a
-- path and a target
abbrev pub named_parts : List (List ℕ) → Option PartsValue
named_parts [] = None
named_parts (path ∷ []) = Some (record { spec = None; path = path })
named_parts (first ∷ second ∷ []) = Some (of_two first second)
named_parts (spec ∷ path ∷ target ∷ []) = Some (record { spec = Some spec; path = path })
named_parts (first ∷ second ∷ third ∷ fourth ∷ more) = None

-- a byte that begins the sign of a comparison: `<`, `>` or `=`
abbrev pub is_sign : ℕ → Bool
is_sign byte = byte == less_sign || byte == greater_sign || byte == equals_sign

-- a text cut in two at this place; without a place nothing follows
abbrev pub cut_at_place : List ℕ → Option ℕ → Cut
cut_at_place text None = record { before = text; behind = [] }
cut_at_place text (Some at) = record { before = take at text; behind = drop at text }

-- a path, and the versions after it: these begin at the first sign of a comparison
abbrev pub at_sign : List ℕ → Cut
at_sign text = cut_at_place text (position is_sign text)

-- The text of the spec that an item gives before its path, or after it as versions of any stem. Without
-- either any package will do, and both are one too many.
abbrev pub spec_text : Option (List ℕ) → List ℕ → Option (List ℕ)
spec_text None [] = Some (codes "STEM-*")
spec_text None (sign ∷ versions) = Some (codes "STEM-" ++ sign ∷ versions)
spec_text (Some spec) [] = Some spec
spec_text (Some spec) (sign ∷ versions) = None

-- the text of a spec that admits any package, if there is none
abbrev pub spec_or_any : Option (List ℕ) → List ℕ
spec_or_any None = codes "STEM-*"
spec_or_any (Some spec) = spec

-- the text of a spec, if it is one
abbrev pub spec_if_one : List ℕ → Option (List ℕ)
spec_if_one text = if is_ok (spec_of text) then Some text else None

-- what a path and a spec ask for, if they can be read
abbrev pub wanted_by : List ℕ → List ℕ → Option WantedValue
wanted_by path spec =
    option_and_then (λ path. option_and_then (λ spec. Some (record { path = path; spec = spec })) (spec_if_one spec))
    (path_if_one path)

-- what a path, with versions after it or none, and a spec, or none, ask for
abbrev pub wanted_at : Cut → Option (List ℕ) → Option WantedValue
wanted_at cut spec = option_and_then (wanted_by cut.before) (spec_text spec cut.behind)

-- what these parts ask for
abbrev pub wanted_in : PartsValue → Option WantedValue
wanted_in parts = wanted_at (at_sign parts.path) parts.spec

-- what an item asks for; None if it can't be read
abbrev pub wanted_of : List ℕ → Option WantedValue
wanted_of text = option_and_then wanted_in (named_parts (parts_of_item text))

-- a text has a comma
abbrev pub has_comma : List ℕ → Bool
has_comma text = list_any (λ byte. byte == comma) text

-- the path that an item names, if the item can be read, has no comma: it chooses no flavors
abbrev pub NamesPlainPath : List ℕ → Type 0
NamesPlainPath item = IfSome (wanted_of item) (λ wanted. has_comma (port_path wanted.path) ≡ false)
