-- Names of packages: a stem, a version and flavors, with dashes between them (packages-specs(7)). A text
-- is its bytes.
use Rattle.std.specs.Prelude.{◌≡◌, ℕ, ◌==◌, ◌&&◌, ◌||◌, not, if◌then◌else◌, Bool, List, [], ◌∷◌, ◌++◌, Option, Some, None, option_and_then}
use Rattle.std.specs.Prelude.{MatchOption}
use Rattle.std.specs.List.{list_all, slice_split, flat_map}
use Rattle.std.specs.Str.{bytes_eq}
use Rattle.std.specs.Borrow.{Bor}
use Rattle.general_facts.specs.Ascii.{tab, space, bang, star, comma, dash, slash, less_sign, equals_sign, greater_sign}
use Rattle.general_facts.specs.Ascii.{bar}
use Rattle.text_parts.specs.Cuts.{Cut, cut_where, now_all}
use Rattle.pkg_name.specs.Version.{begins_with_digit, is_version}

-- a byte that is in no stem and in no flavor: a blank, or one of `/ , | < > = * !`
abbrev pub is_forbidden : ℕ → Bool
is_forbidden byte =
    byte == space || byte == tab || byte == slash || byte == comma || byte == bar || byte == less_sign || byte == greater_sign
    || byte == equals_sign || byte == star || byte == bang

-- a stem or a flavor: it isn't empty, and has no such byte
abbrev pub is_stem_or_flavor : List ℕ → Bool
is_stem_or_flavor text = not (bytes_eq text []) && list_all (λ byte. not (is_forbidden byte)) text

-- the three parts of a package's name
pub record NameParts : Type 0 where
  pub stem : List ℕ
  pub version : List ℕ
  pub flavors : List (List ℕ)

-- what is before the first dash that a digit follows, and what follows that dash
abbrev pub at_version : List ℕ → Option Cut
at_version text = cut_where dash begins_with_digit text

-- the name of these parts, if they are parts of a name
abbrev pub name_if : Bool → List ℕ → List ℕ → List (List ℕ) → Option NameParts
name_if are_parts stem version flavors = if are_parts then Some (record { stem = stem; version = version; flavors = flavors }) else None

-- the name of a stem and the words after it: the first word is the version, and the others are flavors
abbrev pub name_of : List ℕ → List (List ℕ) → Option NameParts
name_of stem [] = None
name_of stem (version ∷ flavors) =
    name_if (is_stem_or_flavor stem && is_version version && list_all is_stem_or_flavor flavors) stem version flavors

-- the parts of the name that a text is, if it is one: from where the version begins, dashes separate them
abbrev pub split_name : List ℕ → Option NameParts
split_name text = option_and_then (λ cut. name_of cut.before (slice_split (λ byte. byte == dash) cut.behind)) (at_version text)

-- the text of a name: the stem, and then the version and the flavors, each after a dash
abbrev pub name_text : NameParts → List ℕ
name_text parts = parts.stem ++ flat_map (λ word. dash ∷ word) (parts.version ∷ parts.flavors)

-- a name that its own text is split into
pub record IsName (parts : NameParts) : Type 0 where
  pub itself : split_name (name_text parts) ≡ Some parts

-- a text is cut before its version, if it has one
abbrev pub CutsAtVersion : Option (Bor (List ℕ) × Bor (List ℕ)) → List ℕ → Type 0
CutsAtVersion result text =
    MatchOption result (at_version text ≡ None)
    (λ cut. at_version text ≡ Some (record { before = cut.0.now; behind = cut.1.now }))

-- these words behind a stem are cut into the version and the flavors, or they are no part of a name
abbrev pub CutsFlavors : Option (Bor (List ℕ) × Bor (List (Bor (List ℕ)))) → List ℕ → List (Bor (List ℕ)) → Type 0
CutsFlavors result stem words =
    MatchOption result (name_of stem (now_all words) ≡ None)
    (λ cut. name_of stem (now_all words) ≡ name_if (is_version cut.0.now) stem cut.0.now (now_all cut.1.now))
