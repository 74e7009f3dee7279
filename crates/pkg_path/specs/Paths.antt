-- Package paths (pkgpath(7)): the directory of a port below a ports tree, the flavors that are chosen, and a
-- subpackage, as in `editors/vim,gtk3,-lang`. That flavors and subpackage may come in any order, and what is
-- refused, is this project's choice.
use Rattle.std.specs.Prelude.{◌≡◌, ℕ, ◌==◌, nat_lt, nat_le, ◌&&◌, ◌||◌, if◌then◌else◌, Bool, false, not, List, []}
use Rattle.std.specs.Prelude.{◌∷◌, ◌++◌, length, filter, find, Option, Some, None, Result, Ok, Err, is_none, option_to_list}
use Rattle.std.specs.Prelude.{codes}
use Rattle.std.specs.List.{slice_split, flat_map, list_all, list_any}
use Rattle.std.specs.Result.{result_ok}
use Rattle.std.specs.Str.{bytes_eq}
use Rattle.general_facts.specs.Ascii.{bang, star, comma, dash, slash, colon, less_sign, equals_sign, greater_sign, bar}
use Rattle.general_facts.specs.Ascii.{tilde}
use Rattle.text_parts.specs.Order.{in_order}
use Rattle.pkg_path.specs.declared.faults.PkgPathFault.{PkgPathFault}
use Rattle.pkg_path.specs.declared.faults.PkgPathFault.TheVariants.{Empty, TwoSubpackages, BadCharacter, Memory}

-- What a package path says. It has a directory. It has the flavors that are chosen, maybe none of them (the
-- empty flavor), or None for the port's default. It has the subpackage, with its dash, if one is named.
pub record PathValue : Type 0 where
  pub directory : List ℕ
  pub flavors : Option (List (List ℕ))
  pub subpackage : Option (List ℕ)

-- the elements of a path, which commas separate: the directory, and then the choices
abbrev pub elements_of : List ℕ → List (List ℕ)
elements_of text = slice_split (λ byte. byte == comma) text

abbrev pub directory_element : List (List ℕ) → List ℕ
directory_element [] = []
directory_element (directory ∷ choices) = directory

abbrev pub choices_of : List (List ℕ) → List (List ℕ)
choices_of [] = []
choices_of (directory ∷ choices) = choices

-- a choice that begins with a dash is a subpackage
abbrev pub is_subpackage : List ℕ → Bool
is_subpackage [] = false
is_subpackage (first ∷ rest) = first == dash

-- any other choice that isn't empty is a flavor
abbrev pub is_flavor : List ℕ → Bool
is_flavor choice = nat_lt 0 (length choice) && not (is_subpackage choice)

-- the flavors of choices: a choice that isn't a subpackage, even an empty one, makes them explicit
abbrev pub flavors_of : List (List ℕ) → Option (List (List ℕ))
flavors_of choices =
    if list_any (λ choice. not (is_subpackage choice)) choices then Some (in_order (filter is_flavor choices)) else None

-- what the elements of a path say
abbrev pub value_of : List (List ℕ) → PathValue
value_of elements = record {
  directory = directory_element elements;
  flavors = flavors_of (choices_of elements);
  subpackage = find is_subpackage (choices_of elements);
}

-- there are two subpackages or more
abbrev pub has_two_subpackages : List (List ℕ) → Bool
has_two_subpackages elements = nat_lt 1 (length (filter is_subpackage (choices_of elements)))

-- a byte of a path: printable ASCII, no blank, and none of `: | < > = *`
abbrev pub may_occur : ℕ → Bool
may_occur byte =
    nat_le bang byte && nat_le byte tilde && not (byte == colon) && not (byte == bar) && not (byte == less_sign)
    && not (byte == greater_sign) && not (byte == equals_sign) && not (byte == star)

-- a part of a directory: not empty, and not `.` or `..`
abbrev pub is_directory_part : List ℕ → Bool
is_directory_part part = not (bytes_eq part [] || bytes_eq part (codes ".") || bytes_eq part (codes ".."))

-- a directory: its parts are what slashes separate
abbrev pub is_directory : List ℕ → Bool
is_directory directory = list_all is_directory_part (slice_split (λ byte. byte == slash) directory)

-- a dash without a name
abbrev pub is_bare_dash : List ℕ → Bool
is_bare_dash choice = bytes_eq choice (codes "-")

-- the bytes may be in a path, the directory is one, and no choice is a bare dash
abbrev pub is_well_cut : List ℕ → List ℕ → List (List ℕ) → Bool
is_well_cut text directory choices = list_all may_occur text && is_directory directory && not (list_any is_bare_dash choices)

abbrev pub is_well_written : List ℕ → Bool
is_well_written text = is_well_cut text (directory_element (elements_of text)) (choices_of (elements_of text))

-- the path that a text names, or the first refusal that fits
unfoldable pub path_of : List ℕ → Result PathValue PkgPathFault
path_of text =
    if length text == 0 then Err Empty
    else if has_two_subpackages (elements_of text) then Err TwoSubpackages
    else if is_well_written text then Ok (value_of (elements_of text))
    else Err BadCharacter

-- the path that a text names, if it names one
abbrev pub path_if_one : List ℕ → Option PathValue
path_if_one text = result_ok (path_of text)

-- a path that chooses no flavors and names no subpackage
abbrev pub names_directory : PathValue → Bool
names_directory path = is_none path.flavors && is_none path.subpackage

abbrev pub is_bare_path : Option PathValue → Bool
is_bare_path None = false
is_bare_path (Some path) = names_directory path

-- a text that names such a path: a directory alone
abbrev pub is_bare_directory : List ℕ → Bool
is_bare_directory text = is_bare_path (path_if_one text)

-- the number of a refusal; running out of memory has none
abbrev pub refusal_number : PkgPathFault → Option ℕ
refusal_number Empty = Some 1
refusal_number TwoSubpackages = Some 2
refusal_number BadCharacter = Some 3
refusal_number (Memory _) = None

-- the flavors as choices: the empty flavor is an empty choice
abbrev pub flavor_choices : Option (List (List ℕ)) → List (List ℕ)
flavor_choices None = []
flavor_choices (Some []) = [] ∷ []
flavor_choices (Some (flavor ∷ flavors)) = flavor ∷ flavors

-- the choices, each after a comma
abbrev pub choices_text : List (List ℕ) → List ℕ
choices_text choices = flat_map (λ choice. comma ∷ choice) choices

-- the canonical text: the directory, the flavors, the subpackage
unfoldable pub canonical : PathValue → List ℕ
canonical path = path.directory ++ choices_text (flavor_choices path.flavors) ++ choices_text (option_to_list path.subpackage)

-- the value of a package path: its own canonical text names it
pub record IsPath (path : PathValue) : Type 0 where
  pub itself : path_of (canonical path) ≡ Ok path

-- the same path without its subpackage
abbrev pub without_subpackage : PathValue → PathValue
without_subpackage path = record path { subpackage = None }

-- the port that a path names: the canonical text without the subpackage
abbrev pub port_path : PathValue → List ℕ
port_path path = canonical (without_subpackage path)
