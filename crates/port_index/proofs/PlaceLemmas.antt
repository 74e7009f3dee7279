-- The makefiles of paths, by the names of files.
use lib.Pointwise.{pointwise}
use Rattle.std.proofs.Common.{◌≡◌, ◌∙◌, ap, sym, refl, ℕ, ◌-◌, ◌==◌, nat_le, ◌&&◌, Bool, true, false, if◌then◌else◌, List, [], ◌∷◌, ◌++◌}
use Rattle.std.proofs.Common.{append_assoc, length, length-append, arith, drop, codes, nat_eq, Option, Some, None, option_map}
use Rattle.std.proofs.Common.{option_and_then, Result, Ok, Err, slice_index}
use Rattle.std.proofs.Math.Seq.{drop-append_seam}
use Rattle.std.proofs.lemmas.List.Splits.{slice_split-cons_no, slice_split-cons_yes}
use Rattle.std.specs.FinMap.{contains_key}
use Rattle.std.specs.List.{cons_option, ends_with, find, list_all, onto_first}
use Rattle.std.specs.Result.{result_ok}
use Rattle.std.specs.Str.{bytes_eq}
use Rattle.general_facts.specs.Lists.{slice_split-first}
use Rattle.mk_eval.specs.Meaning.{means}
use Rattle.mk_paths.specs.FileName.{is_plain, with_slashes, kept_parts, name_of_parts, parts_of_name, resolved, with_part}
use Rattle.general_facts.specs.Ascii.{slash}
use Rattle.mk_paths.specs.Place.{candidates, makefile_in, place}
use Rattle.mk_paths.specs.World.{FileMap, World}
use Rattle.mk_paths.specs.declared.file_name.NameFault.{NameFault}
use Rattle.mk_paths.specs.declared.file_name.NameFault.TheVariants.{BadName}
use Rattle.mk_paths.specs.declared.search_path.Settings.{Settings}
use Rattle.pkg_path.specs.Paths.{PathValue, path_if_one}
use Rattle.port_index.specs.Efforts.{has_makefile, is_there}
use Rattle.port_index.specs.Makefiles.{SameMakefiles, is_makefile}
use Rattle.port_index.specs.PathOutcomes.{finding_at, finding_in, finding_named, finding_of, own_directory}
use Rattle.port_index.proofs.PairLemmas.{evaluation_there}

-- ---- the name of a makefile ends so, once its parts are resolved

abbrev last : List ℕ
last = codes "Makefile"

split_by : (x : ℕ) (xs ys : List ℕ) (b : Bool) → (x == slash) ≡ b → parts_of_name (xs ++ ys) ≡ parts_of_name xs ++ last ∷ []
    → parts_of_name (x ∷ xs ++ ys) ≡ parts_of_name (x ∷ xs) ++ last ∷ []
split_by x xs ys true is rest =
    slice_split-cons_yes (λ byte. byte == slash) x (xs ++ ys) is ∙ ap (λ parts. [] ∷ parts) rest
    ∙ sym (ap (λ parts. parts ++ last ∷ []) (slice_split-cons_yes (λ byte. byte == slash) x xs is))
split_by x xs ys false is rest =
    let cut = slice_split-first (λ byte. byte == slash) xs in
    slice_split-cons_no (λ byte. byte == slash) x (xs ++ ys) is ∙ ap (onto_first x) (rest ∙ ap (λ parts. parts ++ last ∷ []) cut.2)
    ∙ sym (ap (λ parts. parts ++ last ∷ []) (slice_split-cons_no (λ byte. byte == slash) x xs is ∙ ap (onto_first x) cut.2))

parts-end : (text : List ℕ) → parts_of_name (text ++ codes "/Makefile") ≡ parts_of_name text ++ last ∷ []
parts-end [] = refl
parts-end (x ∷ text) = split_by x text (codes "/Makefile") (x == slash) refl (parts-end text)

kept_by : (parts : List (List ℕ)) (rest : (kept : List (List ℕ)) → kept_parts kept (parts ++ last ∷ []) ≡ option_map
    (λ all. all ++ last ∷ []) (kept_parts kept parts)) (next : Option (List (List ℕ)))
    → option_and_then (λ one. kept_parts one (parts ++ last ∷ [])) next ≡ option_map (λ all. all ++ last ∷ [])
    (option_and_then (λ one. kept_parts one parts) next)
kept_by parts rest None = refl
kept_by parts rest (Some next) = rest next

kept-end : (kept parts : List (List ℕ)) → kept_parts kept (parts ++ last ∷ []) ≡ option_map
    (λ all. all ++ last ∷ []) (kept_parts kept parts)
unfolding kept_parts
kept-end kept [] = refl
kept-end kept (part ∷ parts) = kept_by parts (λ next. kept-end next parts) (with_part kept part)

pub with_slashes-end : (parts : List (List ℕ)) → with_slashes (parts ++ last ∷ []) ≡ with_slashes parts ++ codes "/Makefile"
with_slashes-end [] = refl
with_slashes-end (part ∷ parts) = ap (λ rest. slash ∷ part ++ rest) (with_slashes-end parts)
    ∙ sym (append_assoc (slash ∷ part) (with_slashes parts) (codes "/Makefile"))

drop-front : (text end : List ℕ) → drop (length (text ++ end) - length end) (text ++ end) ≡ end
drop-front text end = ap (λ n. drop n (text ++ end)) (omega (arith, length-append text end)) ∙ drop-append_seam text end

pub ends-so : (text : List ℕ) → ends_with nat_eq (text ++ codes "/Makefile") (codes "/Makefile") ≡ true
ends-so text = ap (pointwise nat_eq (codes "/Makefile")) (drop-front text (codes "/Makefile"))

is_name : (fits : Bool) (parts : List (List ℕ)) (name : List ℕ) → ◌≡◌ {A = Result (List ℕ) NameFault}
    (if fits then Ok (with_slashes (parts ++ last ∷ [])) else Err BadName) (Ok name) → name ≡ with_slashes (parts ++ last ∷ [])
is_name true parts name is = cc
is_name false parts name is = absurd cc

named_so : (parts : Option (List (List ℕ))) (name : List ℕ) → name_of_parts (option_map (λ all. all ++ last ∷ []) parts) ≡ Ok name
    → is_makefile name ≡ true
named_so None name is = absurd cc
named_so (Some parts) name is =
    ap is_makefile (is_name (nat_le 2 (length (parts ++ last ∷ [])) && nat_le (length (with_slashes (parts ++ last ∷ []))) 255) parts name
    is ∙ with_slashes-end parts) ∙ ends-so (with_slashes parts)

resolved_by : (plain : Bool) (text name : List ℕ) → (if plain then name_of_parts (kept_parts [] (parts_of_name (text ++ codes "/Makefile")))
    else Err BadName) ≡ Ok name → is_makefile name ≡ true
resolved_by true text name is = named_so (kept_parts [] (parts_of_name text)) name
    (sym (ap (λ parts. name_of_parts (kept_parts [] parts)) (parts-end text) ∙ ap name_of_parts (kept-end [] (parts_of_name text))) ∙ is)
resolved_by false text name is = absurd cc

resolved-so : (text name : List ℕ) → resolved (text ++ codes "/Makefile") ≡ Ok name → is_makefile name ≡ true
resolved-so text name is =
    resolved_by (slice_index (text ++ codes "/Makefile") 0 == slash && list_all is_plain (text ++ codes "/Makefile")) text name is

ok_of : (result : Result (List ℕ) NameFault) (name : List ℕ) → result_ok result ≡ Some name → result ≡ Ok name
ok_of (Ok one) name is = let same : one ≡ name = cc in ap Ok same
ok_of (Err fault) name is = absurd cc

candidate-so : (tree directory name : List ℕ) → result_ok (resolved (makefile_in tree directory)) ≡ Some name → is_makefile name ≡ true
candidate-so tree directory name is =
    resolved-so (tree ++ slash ∷ directory) name
    (ok_of (resolved (makefile_in tree directory)) name is)

-- ---- where the same makefiles are there, the same is found

module _ (old new : FileMap) (same : SameMakefiles old new) where
  find_first : (one : Option (List ℕ)) (rest : List (List ℕ)) → ((name : List ℕ) → one ≡ Some name → is_makefile name ≡ true)
      → find (contains_key new) rest ≡ find (contains_key old) rest
      → find (contains_key new) (cons_option one rest) ≡ find (contains_key old) (cons_option one rest)
  find_first None rest makefile found = found
  find_first (Some name) rest makefile found =
      ap (λ (b : Bool). if b then Some name else find (contains_key new) rest) (same name (makefile name refl))
      ∙ ap (λ o. if contains_key old name then Some name else o) found

  places : (trees : List (List ℕ)) (directory : List ℕ) → find (contains_key new) (candidates trees directory) ≡ find (contains_key old)
      (candidates trees directory)
  places [] directory = refl
  places (tree ∷ trees) directory =
      find_first (result_ok (resolved (makefile_in tree directory))) (candidates trees directory) (candidate-so tree directory)
      (places trees directory)

  module _ (settings : Settings) where
    abbrev before : World
    before = (old, settings)

    abbrev after : World
    after = (new, settings)

    there_of : (flavors : Option (List (List ℕ))) (makefile : Option (List ℕ)) → is_there (finding_of after flavors makefile).outcome ≡
        is_there (finding_of before flavors makefile).outcome
    there_of flavors None = refl
    there_of flavors (Some makefile) = evaluation_there makefile flavors (means after makefile flavors)
        ∙ sym (evaluation_there makefile flavors (means before makefile flavors))

    there_in : (directory : List ℕ) (flavors : Option (List (List ℕ))) → is_there (finding_in after directory flavors).outcome ≡ is_there
        (finding_in before directory flavors).outcome
    there_in directory flavors =
        ap (λ makefile. is_there (finding_of after flavors makefile).outcome) (places settings.path directory)
        ∙ there_of flavors (place before directory)

    there_named : (path : Option PathValue) → is_there (finding_named after path).outcome ≡ is_there (finding_named before path).outcome
    there_named None = refl
    there_named (Some path) = there_in path.directory path.flavors

    there_by : (path : List ℕ) (own : Bool)
        → is_there (if own then finding_in after path None else finding_named after (path_if_one path)).outcome
        ≡ is_there (if own then finding_in before path None else finding_named before (path_if_one path)).outcome
    there_by path true = there_in path None
    there_by path false = there_named (path_if_one path)

pub makefiles-same : (old new : FileMap) (settings : Settings) → SameMakefiles old new → (path : List ℕ)
    → has_makefile (new, settings) path ≡ has_makefile (old, settings) path
unfolding finding_at
makefiles-same old new settings same path = there_by old new same settings path (bytes_eq path own_directory)
