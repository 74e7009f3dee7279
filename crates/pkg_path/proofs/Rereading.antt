-- What a text names is named by its canonical text, too.
use Rattle.std.proofs.Common.{◌≡◌, ◌∙◌, sym, ap, subst, refl, ℕ, Bool, true, false, not, cond, ◌&&◌, ◌||◌, eqb, ltb, List, [], ◌∷◌, ◌++◌}
use Rattle.std.proofs.Common.{length, Option, Some, None, Ok, Err, append_assoc, arith}
use Rattle.std.proofs.lemmas.Bool.{false≢true, and_parts, and_from, or_parts, not-true}
use Rattle.std.proofs.lemmas.Grind.{common_steps, flat_map-append}
use Rattle.std.proofs.lemmas.List.Folds.{list_all-append}
use Rattle.general_facts.specs.Bools.{not-and}
use Rattle.text_parts.specs.Laws.{is_between}
use Rattle.text_parts.proofs.PartTexts.{parts_are_between, written_is_cut_again, written_parts_may_occur}
use Rattle.std.specs.List.{list_all, list_any, filter, find}
use Rattle.std.specs.Option.{option_to_list}
use Rattle.std.specs.Str.{bytes_eq}
use Rattle.text_parts.specs.Ordered.{among-in_order, in_order-again}
use Rattle.general_facts.specs.Ascii.{comma}
use Rattle.pkg_path.specs.Paths.{PathValue, elements_of, directory_element, choices_of, is_subpackage, is_flavor, flavors_of, value_of}
use Rattle.pkg_path.specs.Paths.{has_two_subpackages, may_occur, is_directory, is_bare_dash, is_well_written, path_of, flavor_choices}
use Rattle.pkg_path.specs.Paths.{choices_text, canonical, IsPath, without_subpackage}
use Rattle.text_parts.specs.Order.{in_order}
use Rattle.pkg_path.specs.declared.faults.PkgPathFault.TheVariants.{Empty, TwoSubpackages, BadCharacter}

-- a byte of an element: it may be in a path and is no comma
abbrev is_plain : ℕ → Bool
is_plain = is_between comma may_occur

-- a flavor as a path has it
abbrev is_word : List ℕ → Bool
is_word flavor = is_flavor flavor && list_all is_plain flavor

abbrev AreSound : Option (List (List ℕ)) → Type 0
AreSound None = Unit {0}
AreSound (Some flavors) = (list_all is_word flavors ≡ true) × (in_order flavors ≡ flavors)

abbrev IsSoundName : Option (List ℕ) → Type 0
IsSoundName None = Unit {0}
IsSoundName (Some name) = (is_subpackage name ≡ true) × (list_all is_plain name ≡ true) × (is_bare_dash name ≡ false)

record IsSound (path : PathValue) : Type 0 where
  bytes : list_all is_plain path.directory ≡ true
  parts : is_directory path.directory ≡ true
  flavors : AreSound path.flavors
  subpackage : IsSoundName path.subpackage

-- tests

of_not : (a : Bool) → not a ≡ false → a ≡ true
of_not true e = refl
of_not false e = sym e

-- each passes where none fails
fails_none : (p : List ℕ → Bool) (xs : List (List ℕ)) → list_any (λ x. not (p x)) xs ≡ not (list_all p xs)
fails_none p [] = refl
fails_none p (x ∷ xs) = ap (λ b. not (p x) || b) (fails_none p xs) ∙ not-and (p x) (list_all p xs)

all_in_order : (p : List ℕ → Bool) (xs : List (List ℕ)) → list_all p xs ≡ true → list_all p (in_order xs) ≡ true
all_in_order p xs a =
    of_not (list_all p (in_order xs)) (sym (fails_none p (in_order xs)) ∙ among-in_order (λ x. not (p x)) xs ∙ fails_none p xs ∙ ap not a)

-- what was read is sound

words_of_choices : (choices : List (List ℕ)) → list_all (list_all is_plain) choices ≡ true
    → list_all is_word (filter is_flavor choices) ≡ true
words_of_choices [] a = refl
words_of_choices (choice ∷ choices) a =
    let e = and_parts (list_all is_plain choice) (list_all (list_all is_plain) choices) a in
    let rest = words_of_choices choices e.1 in
    elim (is_flavor choice) as (λ b. is_flavor choice ≡ b
    → list_all is_word (cond b (choice ∷ filter is_flavor choices) (filter is_flavor choices)) ≡ true) [
      | true ↦ λ is. and_from (is_word choice) (list_all is_word (filter is_flavor choices))
          (and_from (is_flavor choice) (list_all is_plain choice) is e.0) rest
      | false ↦ λ is. rest
    ] refl

sound_flavors_by : (some : Bool) (choices : List (List ℕ)) → list_all (list_all is_plain) choices ≡ true
    → AreSound (cond some (Some (in_order (filter is_flavor choices))) None)
sound_flavors_by true choices a = (
  all_in_order is_word (filter is_flavor choices) (words_of_choices choices a),
  in_order-again
      (filter is_flavor choices),
)
sound_flavors_by false choices a = tt

sound_name : (choices : List (List ℕ)) → list_all (list_all is_plain) choices ≡ true → list_any is_bare_dash choices ≡ false
    → IsSoundName (find is_subpackage choices)
sound_name [] a b = tt
sound_name (choice ∷ choices) a b =
    let e = and_parts (list_all is_plain choice) (list_all (list_all is_plain) choices) a in
    let n = or_parts (is_bare_dash choice) (list_any is_bare_dash choices) b in
    elim (is_subpackage choice) as (λ b. is_subpackage choice ≡ b → IsSoundName (cond b (Some choice) (find is_subpackage choices))) [
      | true ↦ λ is. (is, e.0, n.0)
      | false ↦ λ is. sound_name choices e.1 n.1
    ] refl

directory_plain : (elements : List (List ℕ)) → list_all (list_all is_plain) elements ≡ true
    → list_all is_plain (directory_element elements) ≡ true
directory_plain [] a = refl
directory_plain (directory ∷ choices) a = (and_parts (list_all is_plain directory) (list_all (list_all is_plain) choices) a).0

choices_plain : (elements : List (List ℕ)) → list_all (list_all is_plain) elements ≡ true
    → list_all (list_all is_plain) (choices_of elements) ≡ true
choices_plain [] a = refl
choices_plain (directory ∷ choices) a = (and_parts (list_all is_plain directory) (list_all (list_all is_plain) choices) a).1

sound_by : (none two written : Bool) (text : List ℕ) (path : PathValue) → is_well_written text ≡ written
    → cond none (Err Empty) (cond two (Err TwoSubpackages) (cond written (Ok (value_of (elements_of text))) (Err BadCharacter)))
    ≡ Ok path → IsSound path
sound_by true two written text path is e = absurd cc
sound_by false true written text path is e = absurd cc
sound_by false false false text path is e = absurd cc
sound_by false false true text path is e =
    let same : value_of (elements_of text) ≡ path = cc in
    let t = and_parts (list_all may_occur text && is_directory (directory_element (elements_of text)))
    (not (list_any is_bare_dash (choices_of (elements_of text)))) is in
    let bytes = and_parts (list_all may_occur text) (is_directory (directory_element (elements_of text))) t.0 in
    let plain = parts_are_between comma may_occur text bytes.0 in
    let choices = choices_plain (elements_of text) plain in
    let sound : IsSound (value_of (elements_of text)) = record {
      bytes = directory_plain (elements_of text) plain;
      parts = bytes.1;
      flavors = sound_flavors_by (list_any (λ choice. not (is_subpackage choice)) (choices_of (elements_of text)))
          (choices_of (elements_of text)) choices;
      subpackage = sound_name (choices_of (elements_of text)) choices
          (not-true (list_any is_bare_dash (choices_of (elements_of text))) t.1);
    } in
    subst IsSound same sound

sound : (text : List ℕ) (path : PathValue) → path_of text ≡ Ok path → IsSound path
unfolding path_of
sound text path e = sound_by (eqb (length text) 0) (has_two_subpackages (elements_of text)) (is_well_written text) text path refl e

-- the canonical text, cut again

-- the choices that the canonical text writes
abbrev written : PathValue → List (List ℕ)
written path = flavor_choices path.flavors ++ option_to_list path.subpackage

canonical_is : (path : PathValue) → canonical path ≡ path.directory ++ choices_text (written path)
unfolding canonical
canonical_is path = append_assoc path.directory _ _ ∙ ap (λ rest. path.directory ++ rest)
    (sym (flat_map-append (λ choice. 44 ∷ choice) (flavor_choices path.flavors) (option_to_list path.subpackage)))

-- the choices that are written, read again

-- none of them names a subpackage
abbrev NoneNames : List (List ℕ) → Type 0
NoneNames choices = list_all (λ choice. not (is_subpackage choice)) choices ≡ true

words_plain : (words : List (List ℕ)) → list_all is_word words ≡ true → list_all (list_all is_plain) words ≡ true
words_plain [] a = refl
words_plain (word ∷ words) a =
    let e = and_parts (is_word word) (list_all is_word words) a in
    and_from (list_all is_plain word) (list_all (list_all is_plain) words) ((and_parts (is_flavor word) (list_all is_plain word) e.0).1)
    (words_plain words e.1)

flavor_names_none : (word : List ℕ) → is_word word ≡ true → not (is_subpackage word) ≡ true
flavor_names_none word a =
    (and_parts (ltb 0 (length word)) (not (is_subpackage word)) ((and_parts (is_flavor word) (list_all is_plain word) a).0)).1

words_name_none : (words : List (List ℕ)) → list_all is_word words ≡ true → NoneNames words
words_name_none [] a = refl
words_name_none (word ∷ words) a =
    let e = and_parts (is_word word) (list_all is_word words) a in
    and_from (not (is_subpackage word)) (list_all (λ choice. not (is_subpackage choice)) words) (flavor_names_none word e.0)
    (words_name_none words e.1)

flavors_plain : (flavors : Option (List (List ℕ))) → AreSound flavors → list_all (list_all is_plain) (flavor_choices flavors) ≡ true
flavors_plain None a = refl
flavors_plain (Some []) a = refl
flavors_plain (Some (flavor ∷ flavors)) a = words_plain (flavor ∷ flavors) a.0

flavors_name_none : (flavors : Option (List (List ℕ))) → AreSound flavors → NoneNames (flavor_choices flavors)
flavors_name_none None a = refl
flavors_name_none (Some []) a = refl
flavors_name_none (Some (flavor ∷ flavors)) a = words_name_none (flavor ∷ flavors) a.0

name_plain : (name : Option (List ℕ)) → IsSoundName name → list_all (list_all is_plain) (option_to_list name) ≡ true
name_plain None a = refl
name_plain (Some name) a = and_from (list_all is_plain name) true a.1 refl

found_after : (choices : List (List ℕ)) (name : Option (List ℕ)) → NoneNames choices → IsSoundName name
    → find is_subpackage (choices ++ option_to_list name) ≡ name
found_after [] None a b = refl
found_after [] (Some name) a b = ap (λ t. cond t (Some name) None) b.0
found_after (choice ∷ choices) name a b =
    let e = and_parts (not (is_subpackage choice)) (list_all (λ choice. not (is_subpackage choice)) choices) a in
    ap (λ t. cond t (Some choice) (find is_subpackage (choices ++ option_to_list name))) (not-true (is_subpackage choice) e.0)
    ∙ found_after choices name e.1 b

names_at_most_one : (name : Option (List ℕ)) → ltb 1 (length (filter is_subpackage (option_to_list name))) ≡ false
names_at_most_one None = refl
names_at_most_one (Some name) = by (is_subpackage name)
  where
    by : (b : Bool) → ltb 1 (length (cond b (name ∷ []) [])) ≡ false
    by true = refl
    by false = refl

one_name : (choices : List (List ℕ)) (name : Option (List ℕ)) → NoneNames choices
    → ltb 1 (length (filter is_subpackage (choices ++ option_to_list name))) ≡ false
one_name [] name a = names_at_most_one name
one_name (choice ∷ choices) name a =
    let e = and_parts (not (is_subpackage choice)) (list_all (λ choice. not (is_subpackage choice)) choices) a in
    ap (λ t. ltb 1 (length (cond t (choice ∷ filter is_subpackage (choices ++ option_to_list name))
    (filter is_subpackage (choices ++ option_to_list name))))) (not-true (is_subpackage choice) e.0)
    ∙ one_name choices name e.1

not_bare : (choice : List ℕ) → not (is_subpackage choice) ≡ true → is_bare_dash choice ≡ false
not_bare [] a = refl
not_bare (x ∷ choice) a = ap (λ b. b && bytes_eq choice []) (not-true (eqb x 45) a)

none_bare : (choices : List (List ℕ)) (name : Option (List ℕ)) → NoneNames choices → IsSoundName name
    → list_any is_bare_dash (choices ++ option_to_list name) ≡ false
none_bare [] None a b = refl
none_bare [] (Some name) a b = ap (λ t. t || false) b.2
none_bare (choice ∷ choices) name a b =
    let e = and_parts (not (is_subpackage choice)) (list_all (λ choice. not (is_subpackage choice)) choices) a in
    ap (λ t. t || list_any is_bare_dash (choices ++ option_to_list name)) (not_bare choice e.0) ∙ none_bare choices name e.1 b

-- a subpackage chooses no flavor

name_chooses_none : (name : Option (List ℕ)) → IsSoundName name → list_any (λ choice. not (is_subpackage choice))
    (option_to_list name) ≡ false
name_chooses_none None a = refl
name_chooses_none (Some name) a = ap (λ t. not t || false) a.0

name_adds_none : (name : Option (List ℕ)) → IsSoundName name → filter is_flavor (option_to_list name) ≡ []
name_adds_none None a = refl
name_adds_none (Some name) a = ap (λ t. cond (ltb 0 (length name) && not t) (name ∷ []) []) a.0 ∙ by (ltb 0 (length name))
  where
    by : (b : Bool) → cond (b && false) (name ∷ []) [] ≡ []
    by true = refl
    by false = refl

words_stay : (words : List (List ℕ)) (name : Option (List ℕ)) → list_all is_word words ≡ true → IsSoundName name
    → filter is_flavor (words ++ option_to_list name) ≡ words
words_stay [] name a b = name_adds_none name b
words_stay (word ∷ words) name a b =
    let e = and_parts (is_word word) (list_all is_word words) a in
    ap (λ t. cond t (word ∷ filter is_flavor (words ++ option_to_list name)) (filter is_flavor (words ++ option_to_list name)))
    ((and_parts (is_flavor word) (list_all is_plain word) e.0).0)
    ∙ ap (λ rest. word ∷ rest) (words_stay words name e.1 b)

flavors_again : (flavors : Option (List (List ℕ))) (name : Option (List ℕ)) → AreSound flavors → IsSoundName name
    → flavors_of (flavor_choices flavors ++ option_to_list name) ≡ flavors
flavors_again None name a b = ap (λ t. cond t (Some (in_order (filter is_flavor (option_to_list name)))) None) (name_chooses_none name b)
flavors_again (Some []) name a b = ap (λ names. Some (in_order names)) (name_adds_none name b)
flavors_again (Some (flavor ∷ flavors)) name a b =
    let e = and_parts (is_word flavor) (list_all is_word flavors) a.0 in
    ap (λ t. cond (t || list_any (λ choice. not (is_subpackage choice)) (flavors ++ option_to_list name))
    (Some (in_order (filter is_flavor (flavor ∷ flavors ++ option_to_list name)))) None) (flavor_names_none flavor e.0)
    ∙ ap (λ names. Some (in_order names)) (words_stay (flavor ∷ flavors) name a.0 b) ∙ ap Some a.1

-- a sound value is named by its canonical text

some_byte : (directory rest : List ℕ) → is_directory directory ≡ true → eqb (length (directory ++ rest)) 0 ≡ false
some_byte [] rest a = absurd (false≢true a)
some_byte (x ∷ directory) rest a = grind (arith, common_steps)

names_itself : (path : PathValue) → IsSound path → path_of (canonical path) ≡ Ok path
unfolding path_of
names_itself path s =
    let none_names = flavors_name_none path.flavors s.flavors in
    let plain : list_all (list_all is_plain) (written path) ≡ true =
    list_all-append (list_all is_plain) (flavor_choices path.flavors) (option_to_list path.subpackage)
    ∙ and_from _ _ (flavors_plain path.flavors s.flavors) (name_plain path.subpackage s.subpackage) in
    let text = path.directory ++ choices_text (written path) in
    let whole : list_all (list_all is_plain) (path.directory ∷ written path) ≡ true = and_from (list_all is_plain path.directory)
    (list_all (list_all is_plain) (written path)) s.bytes plain in
    let cut : elements_of text ≡ path.directory ∷ written path = written_is_cut_again comma may_occur path.directory (written path) whole in
    let bytes : list_all may_occur text ≡ true = written_parts_may_occur comma may_occur path.directory (written path) refl whole in
    let well : is_well_written text ≡ true =
    ap (λ elements. (list_all may_occur text && is_directory (directory_element elements)) && not
    (list_any is_bare_dash (choices_of elements))) cut
    ∙ and_from (list_all may_occur text && is_directory path.directory) (not (list_any is_bare_dash (written path)))
    (and_from (list_all may_occur text) (is_directory path.directory) bytes s.parts)
    (ap not (none_bare (flavor_choices path.flavors) path.subpackage none_names s.subpackage)) in
    let value : value_of (path.directory ∷ written path) ≡ path =
    λ i. record {
      directory = path.directory;
      flavors = flavors_again path.flavors path.subpackage s.flavors s.subpackage i;
      subpackage =
          found_after (flavor_choices path.flavors) path.subpackage none_names s.subpackage i;
    } in
    ap path_of (canonical_is path)
    ∙ ap (λ b. cond b (Err Empty) (cond (has_two_subpackages (elements_of text)) (Err TwoSubpackages)
    (cond (is_well_written text) (Ok (value_of (elements_of text))) (Err BadCharacter))))
    (some_byte path.directory (choices_text (written path)) s.parts)
    ∙ ap (λ elements. cond (has_two_subpackages elements) (Err TwoSubpackages)
    (cond (is_well_written text) (Ok (value_of elements)) (Err BadCharacter))) cut
    ∙ ap (λ b. cond b (Err TwoSubpackages) (cond (is_well_written text) (Ok (value_of (path.directory ∷ written path))) (Err BadCharacter)))
    (one_name (flavor_choices path.flavors) path.subpackage none_names)
    ∙ ap (λ b. cond b (Ok (value_of (path.directory ∷ written path))) (Err BadCharacter)) well
    ∙ ap Ok value

pub canonical_names : (text : List ℕ) (path : PathValue) → path_of text ≡ Ok path → path_of (canonical path) ≡ Ok path
canonical_names text path e = names_itself path (sound text path e)

-- what a text names is a path
pub path_of-IsPath : (text : List ℕ) (path : PathValue) → path_of text ≡ Ok path → IsPath path
path_of-IsPath text path e = record { itself = canonical_names text path e }

-- a path without its subpackage is a path
pub without-IsPath : (path : PathValue) → IsPath path → IsPath (without_subpackage path)
without-IsPath path is =
    let s = sound (canonical path) path is.itself in
    record {
      itself = names_itself (without_subpackage path)
          (record { bytes = s.bytes; parts = s.parts; flavors = s.flavors; subpackage = tt });
    }
