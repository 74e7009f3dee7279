-- The path of an item without a comma has none.
use Rattle.std.proofs.Common.{◌++◌, ◌≡◌, ◌∙◌, ap, sym, refl, ℕ, zero, suc, Bool, true, false, not, ◌&&◌, ◌==◌, ◌||◌, if◌then◌else◌, List}
use Rattle.std.proofs.Common.{[], ◌∷◌, append-nil, drop, take, length, Option, Some, None, IfSome, Ok, Err}
use Rattle.std.proofs.lemmas.Bool.{and_from, and_parts, false≢true}
use Rattle.std.proofs.lemmas.List.Splits.{slice_split-cons_no}
use Rattle.std.specs.List.{list_all, list_any, prefix_len, slice_split, onto_first}
use Rattle.std.specs.Result.{result_ok}
use Rattle.std.specs.Option.{option_and_then}
use Rattle.std.specs.Prelude.{position}
use Rattle.text_parts.specs.Laws.{is_between}
use Rattle.text_parts.proofs.PartTexts.{parts_are_between}
use Rattle.pkg_path.specs.Paths.{PathValue, canonical, elements_of, path_if_one, path_of, port_path, value_of}
use Rattle.general_facts.specs.Ascii.{comma}
use Rattle.pkg_path.specs.declared.faults.PkgPathFault.TheVariants.{Empty, TwoSubpackages, BadCharacter}
use Rattle.port_deps.specs.ItemText.{NamesPlainPath, PartsValue, WantedValue, at_sign, cut_at_colons, cut_at_place, has_comma, is_sign}
use Rattle.port_deps.specs.ItemText.{is_spec, named_parts, parts_of_item, spec_if_one, spec_text, wanted_by, wanted_in}
use Rattle.general_facts.specs.Ascii.{colon}

abbrev is_comma : ℕ → Bool
is_comma byte = byte == comma

abbrev is_apart : ℕ → Bool
is_apart byte = not (is_comma byte)

-- ---- the parts of a text without a comma

apart_by : (comma : Bool) (rest : Bool) → (comma || rest) ≡ false → (not comma ≡ true) × (rest ≡ false)
apart_by true rest none = absurd (false≢true (sym none))
apart_by false rest none = (refl, none)

all-apart : (text : List ℕ) → has_comma text ≡ false → list_all is_apart text ≡ true
all-apart [] none = refl
all-apart (byte ∷ text) none =
    let e = apart_by (is_comma byte) (has_comma text) none in
    and_from (is_apart byte) (list_all is_apart text) e.0 (all-apart text e.1)

abbrev is_plain : List ℕ → Bool
is_plain part = list_all (is_between colon is_apart) part

none_by : (comma mark : Bool) → (not comma && not mark) ≡ true → comma ≡ false
none_by true mark e = absurd (false≢true e)
none_by false mark e = refl

none-plain : (part : List ℕ) → is_plain part ≡ true → has_comma part ≡ false
none-plain [] e = refl
none-plain (byte ∷ part) e =
    let all = and_parts (is_between colon is_apart byte) (is_plain part) e in
    ap (λ b. b || has_comma part) (none_by (is_comma byte) (byte == colon) all.0) ∙ none-plain part all.1

plain-drop : (n : ℕ) (parts : List (List ℕ)) → list_all is_plain parts ≡ true → list_all is_plain (drop n parts) ≡ true
plain-drop zero parts e = e
plain-drop (suc n) [] e = refl
plain-drop (suc n) (part ∷ parts) e = plain-drop n parts (and_parts (is_plain part) (list_all is_plain parts) e).1

plain-parts : (item : List ℕ) → has_comma item ≡ false → list_all is_plain (parts_of_item item) ≡ true
plain-parts item none =
    plain-drop (prefix_len (λ part. length part == 0) (cut_at_colons item)) (cut_at_colons item)
    (parts_are_between colon is_apart item (all-apart item none))

of_two-plain : (first second : List ℕ) (spec : Bool) → is_plain first ≡ true → is_plain second ≡ true
    → is_plain (let parts : PartsValue =
    (if spec then record { spec = Some first; path = second } else record { spec = None; path = first }) in parts).path ≡ true
of_two-plain first second true a b = b
of_two-plain first second false a b = a

named-plain : (parts : List (List ℕ)) → list_all is_plain parts ≡ true
    → IfSome (named_parts parts) (λ (parts : PartsValue). is_plain parts.path ≡ true)
named-plain [] e = tt
named-plain (path ∷ []) e = (and_parts (is_plain path) true e).0
named-plain (first ∷ second ∷ []) e =
    let one = and_parts (is_plain first) (list_all is_plain (second ∷ [])) e in
    of_two-plain first second (is_spec first) one.0 (and_parts (is_plain second) true one.1).0
named-plain (spec ∷ path ∷ target ∷ []) e =
    let one = and_parts (is_plain spec) (list_all is_plain (path ∷ target ∷ [])) e in
    (and_parts (is_plain path) (list_all is_plain (target ∷ [])) one.1).0
named-plain (first ∷ second ∷ third ∷ fourth ∷ more) e = tt

-- ---- a path without a comma is the path of its port

uncut_from : (byte : ℕ) (text : List ℕ) (is : Bool) → is_comma byte ≡ is → (is || list_any is_comma text) ≡ false
    → (list_any is_comma text ≡ false → slice_split is_comma text ≡ text ∷ []) → slice_split is_comma (byte ∷ text) ≡ (byte ∷ text) ∷ []
uncut_from byte text true is none rest = absurd (false≢true (sym none))
uncut_from byte text false is none rest = slice_split-cons_no is_comma byte text is ∙ ap (onto_first byte) (rest none)

-- a text without a comma is one element
pub uncut : (text : List ℕ) → has_comma text ≡ false → elements_of text ≡ text ∷ []
uncut [] none = refl
uncut (byte ∷ text) none = uncut_from byte text (is_comma byte) refl none (uncut text)

whole : (text : List ℕ) → port_path (value_of (text ∷ [])) ≡ text
unfolding canonical
whole text = append-nil (text ++ []) ∙ append-nil text

read_by : (text : List ℕ) (elements : List (List ℕ)) (empty two well : Bool) → elements ≡ text ∷ []
    → IfSome (result_ok (if empty then Err Empty else if two then Err TwoSubpackages else if well then Ok (value_of elements) else Err
    BadCharacter)) (λ path. port_path path ≡ text)
read_by text elements true two well is = tt
read_by text elements false true well is = tt
read_by text elements false false true is = ap (λ e. port_path (value_of e)) is ∙ whole text
read_by text elements false false false is = tt

plain-path : (text : List ℕ) → has_comma text ≡ false → IfSome (path_if_one text) (λ path. port_path path ≡ text)
unfolding path_of
plain-path text none = read_by text (elements_of text) _ _ _ (uncut text none)

-- ---- so the path that such an item names has none

take_by : (n : ℕ) (text : List ℕ) (comma : Bool) → (comma || has_comma text) ≡ false
    → (has_comma text ≡ false → has_comma (take n text) ≡ false)
    → (comma || has_comma (take n text)) ≡ false
take_by n text true none rest = none
take_by n text false none rest = rest none

none-take : (n : ℕ) (text : List ℕ) → has_comma text ≡ false → has_comma (take n text) ≡ false
none-take zero text none = refl
none-take (suc n) [] none = refl
none-take (suc n) (byte ∷ text) none = take_by n text (is_comma byte) none (none-take n text)

none-before : (text : List ℕ) (at : Option ℕ) → has_comma text ≡ false → has_comma (cut_at_place text at).before ≡ false
none-before text None none = none
none-before text (Some at) none = none-take at text none

with_spec : (text : List ℕ) (path : Option PathValue) (spec : Option (List ℕ)) → has_comma text ≡ false
    → IfSome path (λ one. port_path one ≡ text)
    → IfSome (option_and_then
    (λ one. option_and_then (λ given. Some (let wanted : WantedValue = record { path = one; spec = given } in wanted)) spec) path)
    (λ wanted. has_comma (port_path wanted.path) ≡ false)
with_spec text None spec none is = tt
with_spec text (Some path) None none is = tt
with_spec text (Some path) (Some spec) none is = ap has_comma is ∙ none

at_spec : (text : List ℕ) (spec : Option (List ℕ)) → has_comma text ≡ false → IfSome (option_and_then (wanted_by text) spec)
    (λ wanted. has_comma (port_path wanted.path) ≡ false)
at_spec text None none = tt
at_spec text (Some spec) none = with_spec text (path_if_one text) (spec_if_one spec) none (plain-path text none)

in_parts : (parts : Option PartsValue) → IfSome parts (λ (parts : PartsValue). is_plain parts.path ≡ true)
    → IfSome (option_and_then wanted_in parts) (λ wanted. has_comma (port_path wanted.path) ≡ false)
in_parts None plain = tt
in_parts (Some parts) plain =
    let cut = at_sign parts.path in
    at_spec cut.before (spec_text parts.spec cut.behind)
    (none-before parts.path (position is_sign parts.path) (none-plain parts.path plain))

pub plain-item : (item : List ℕ) → has_comma item ≡ false → NamesPlainPath item
plain-item item none = in_parts (named_parts (parts_of_item item)) (named-plain (parts_of_item item) (plain-parts item none))
