-- A path without a comma has a makefile only if it is one of the files' directories.
use Rattle.std.proofs.Common.{suc, ◌≡◌, ◌∙◌, sym, ap, subst, refl, arith, ℕ, ◌+◌, ◌-◌, ◌<◌, Bool, true, false, cond, not, ◌&&◌, ◌||◌, ◌==◌}
use Rattle.std.proofs.Common.{if◌then◌else◌, List, [], ◌∷◌, ◌++◌, append-nil, length, length-append, drop, take, Option, Some, None, codes}
use Rattle.std.proofs.Math.Seq.{take-append_seam}
use Rattle.std.proofs.lemmas.Bool.{and_parts, false≢true, or_right}
use Rattle.std.proofs.lemmas.Grind.{common_steps}
use Rattle.std.proofs.lemmas.List.Splits.{join_with_byte-slice_split, length-slice_split}
use Rattle.std.proofs.lemmas.Slice.Eq.{bytes_eq-Decides}
use Rattle.std.specs.FinMap.{contains_key}
use Rattle.std.specs.List.{after_first, find, join_with_byte, list_all, list_any, position_or_len}
use Rattle.std.specs.Option.{option_and_then, option_map, unwrap_or}
use Rattle.std.specs.Prelude.{nat_le}
use Rattle.std.specs.Str.{bytes_eq}
use Rattle.text_parts.specs.Laws.{are_between, is_between}
use Rattle.general_facts.specs.Ascii.{slash}
use Rattle.mk_paths.specs.FileName.{is_plain, with_slashes, parts_of_name}
use Rattle.mk_paths.specs.Place.{candidates, place}
use Rattle.mk_paths.specs.SearchPath.{IsSearchPath, is_tree}
use Rattle.mk_paths.specs.World.{World, files_in, search_path_of}
use Rattle.pkg_path.specs.Paths.{PathValue, is_bare_directory, is_bare_path, path_if_one, path_of, value_of}
use Rattle.port_deps.specs.ItemText.{has_comma}
use Rattle.port_deps.proofs.PlainPaths.{uncut}
use Rattle.port_index.specs.Efforts.{is_there}
use Rattle.port_index.specs.FilledRows.{is_one_of}
use Rattle.port_index.specs.Makefiles.{AreOfDirectories}
use Rattle.port_index.specs.TreePaths.{after_slash, directories, directory_below, listable_directory, if_directory, is_slash}
use Rattle.port_index.specs.TreePaths.{without_suffix}
use Rattle.port_index.specs.PathOutcomes.{finding_at, finding_in, finding_named, finding_of, own_directory}
use Rattle.port_index.proofs.MakefileLemmas.{directory-there}
use Rattle.port_index.proofs.MakefileNames.{IsNamedBy, in_tree, is_no_dot, last, named_in, named_own}
use Rattle.port_index.proofs.PathReading.{has_directory, ok_if, read_as}
use Rattle.port_index.proofs.PlaceLemmas.{ends-so, with_slashes-end}

-- ---- the directory that the name of a makefile says

after_next : (byte : ℕ) (more : List ℕ) → is_slash byte ≡ false → after_slash (byte ∷ more) ≡ after_slash more
after_next byte more none =
    ap (λ b. cond (b || list_any is_slash more) (Some (drop (cond (not b) (1 + position_or_len is_slash more) 0 + 1) (byte ∷ more))) None)
    none
    ∙ ap (λ n. cond (list_any is_slash more) (Some (drop n (byte ∷ more))) None) (let same : 1 + position_or_len is_slash more + 1 ≡ suc
    (position_or_len is_slash more + 1) = omega arith in same)

apart_by : (mark rest : Bool) → (mark || rest) ≡ false → (mark ≡ false) × (rest ≡ false)
apart_by true rest none = absurd (false≢true (sym none))
apart_by false rest none = (refl, none)

after-part : (part rest : List ℕ) → list_any is_slash part ≡ false → after_slash (part ++ slash ∷ rest) ≡ Some rest
after-part [] rest none = refl
after-part (byte ∷ part) rest none =
    let e = apart_by (is_slash byte) (list_any is_slash part) none in
    after_next byte (part ++ slash ∷ rest) e.0 ∙ after-part part rest e.1

without-own : (text : List ℕ) → without_suffix (codes "/Makefile") (text ++ codes "/Makefile") ≡ Some text
without-own text =
    let end = codes "/Makefile" in
    ap (λ (b : Bool). if b then Some (take (length (text ++ end) - length end) (text ++ end)) else None) (ends-so text)
    ∙ ap (λ n. Some (take n (text ++ end))) (let long = length-append text end in omega (arith, long))
    ∙ ap Some (take-append_seam text end)

-- the makefile of the directory with these parts below its tree
named-below : (part : List ℕ) (stem : List (List ℕ)) → list_any is_slash part ≡ false
    → listable_directory (with_slashes (part ∷ (stem ++ last ∷ []))) ≡ if_directory (directory_below (part ++ with_slashes stem))
unfolding listable_directory
named-below part stem none =
    ap (λ name. option_and_then if_directory
    (option_map directory_below (option_and_then after_slash (without_suffix (codes "/Makefile") name))))
    (with_slashes-end (part ∷ stem))
    ∙ ap (λ text. option_and_then if_directory (option_map directory_below (option_and_then after_slash text)))
    (without-own (with_slashes (part ∷ stem)))

none_between : (mark plain : Bool) → (plain && not mark) ≡ true → mark ≡ false
none_between true true e = absurd (false≢true e)
none_between true false e = absurd (false≢true e)
none_between false plain e = refl

none-in : (part : List ℕ) → list_all (is_between slash is_plain) part ≡ true → list_any is_slash part ≡ false
none-in [] e = refl
none-in (byte ∷ part) e =
    let all = and_parts (is_between slash is_plain byte) (list_all (is_between slash is_plain) part) e in
    ap (λ b. b || list_any is_slash part) (none_between (is_slash byte) (is_plain byte) all.0) ∙ none-in part all.1

with_slashes-cut : (part : List ℕ) (parts : List (List ℕ)) → with_slashes (part ∷ parts) ≡ slash ∷ join_with_byte 47 (part ∷ parts)
with_slashes-cut part [] = ap (λ text. slash ∷ text) (append-nil part)
with_slashes-cut part (next ∷ more) = ap (λ text. slash ∷ part ++ text) (with_slashes-cut next more)

with_slashes-some : (parts : List (List ℕ)) → 0 < length parts → with_slashes parts ≡ slash ∷ join_with_byte 47 parts
with_slashes-some [] some = absurd (omega (arith, some))
with_slashes-some (part ∷ parts) some = with_slashes-cut part parts

with_slashes-parts : (directory : List ℕ) → with_slashes (parts_of_name directory) ≡ slash ∷ directory
with_slashes-parts directory =
    with_slashes-some (parts_of_name directory) (omega (arith, length-slice_split (λ byte. byte == slash) directory))
    ∙ ap (λ text. slash ∷ text) (join_with_byte-slice_split 47 directory)

module _ (stem : List (List ℕ)) (name : List ℕ) (named : IsNamedBy stem name) where
  apart : list_any is_slash named.part ≡ false
  apart = none-in named.part (and_parts (list_all (is_between slash is_plain) named.part)
      (are_between slash is_plain (stem ++ last ∷ [])) named.between).0

  below : listable_directory name ≡ if_directory (directory_below (named.part ++ with_slashes stem))
  below = ap listable_directory named.is ∙ named-below named.part stem apart

none-after : (text : List ℕ) → list_any is_slash text ≡ false → directory_below text ≡ own_directory
none-after text none = ap (λ b. unwrap_or (cond b (Some (after_first is_slash text)) None) own_directory) none

own-named : (name : List ℕ) → IsNamedBy [] name → listable_directory name ≡ Some own_directory
own-named name named =
    below [] name named
    ∙ ap (λ text. if_directory (directory_below text)) (append-nil named.part)
    ∙ ap if_directory (none-after named.part (apart [] name named))

path-named : (path name : List ℕ) → is_bare_directory path ≡ true → IsNamedBy (parts_of_name path) name
    → listable_directory name ≡ Some path
path-named path name bare named =
    below (parts_of_name path) name named
    ∙ ap (λ text. if_directory (directory_below (named.part ++ text))) (with_slashes-parts path)
    ∙ ap (λ after. if_directory (unwrap_or after own_directory)) (after-part named.part path (apart (parts_of_name path) name named))
    ∙ ap (λ b. cond b (Some path) None) (or_right (bytes_eq path own_directory) (is_bare_directory path) bare)

-- ---- a makefile that is found is there

holds_by : (p : List ℕ → Bool) (one name : List ℕ) (rest : Option (List ℕ)) (is : Bool) → p one ≡ is → (if is then Some one else rest) ≡
    Some name → (rest ≡ Some name → p name ≡ true) → p name ≡ true
holds_by p one name rest true e found more = let same : one ≡ name = cc in ap p (sym same) ∙ e
holds_by p one name rest false e found more = more found

find-holds : (p : List ℕ → Bool) (names : List (List ℕ)) (name : List ℕ) → find p names ≡ Some name → p name ≡ true
find-holds p [] name found = absurd cc
find-holds p (one ∷ names) name found = holds_by p one name (find p names) (p one) refl found (find-holds p names name)

module _ (world : World) (trees : IsSearchPath (search_path_of world)) where
  all_trees : list_all is_tree (search_path_of world) ≡ true
  all_trees = last_of (nat_le 1 (length (search_path_of world))) (nat_le (length (search_path_of world)) 8)
      (list_all is_tree (search_path_of world)) trees
    where
      last_of : (a b c : Bool) → (a && b && c) ≡ true → c ≡ true
      last_of a b c e = grind (arith, common_steps)

  there-place : (flavors : Option (List (List ℕ))) (makefile : Option (List ℕ)) → is_there (finding_of world flavors makefile).outcome ≡
      true → (name : List ℕ) × (makefile ≡ Some name)
  there-place flavors None there = absurd (false≢true there)
  there-place flavors (Some name) there = (name, refl)

  -- a directory is one of the files' if the name of its makefile says so
  module _ (path directory : List ℕ) (flavors : Option (List (List ℕ)))
      (there : is_there (finding_in world directory flavors).outcome ≡ true) where
    found : (name : List ℕ) × (place world directory ≡ Some name)
    found = there-place flavors (place world directory) there

    among : listable_directory found.0 ≡ Some path → is_one_of path (directories (files_in world)) ≡ true
    among is = directory-there path found.0 is (files_in world)
        (find-holds (contains_key (files_in world)) (candidates (search_path_of world) directory) found.0 found.1)

  own : (path : List ℕ) → path ≡ own_directory → is_there (finding_in world path None).outcome ≡ true
      → is_one_of path (directories (files_in world)) ≡ true
  own path is there =
      let at = found path path None there in
      let tree = in_tree (files_in world) path at.0 (search_path_of world) all_trees at.1 in
      among path path None there (own-named at.0 (named_own tree.0 tree.1 path at.0 tree.2 is) ∙ ap Some (sym is))

  plain : (path : List ℕ) → has_comma path ≡ false → (value : Option PathValue) → path_if_one path ≡ value
      → is_there (finding_named world value).outcome ≡ true
      → is_one_of path (directories (files_in world)) ≡ true
  plain path none None is there = absurd (false≢true there)
  plain path none (Some value) is there =
      let read = ok_if (path_of path) value is in
      let whole : value_of (path ∷ []) ≡ value = ap value_of (sym (uncut path none)) ∙ (read_as path value read).0 in
      let directory : value.directory ≡ path = ap (λ (v : PathValue). v.directory) (sym whole) in
      let bare : is_bare_directory path ≡ true = ap is_bare_path (is ∙ ap Some (sym whole)) in
      let here = subst (λ d. is_there (finding_in world d value.flavors).outcome ≡ true) directory there in
      let parts = subst (λ d. list_all is_no_dot (parts_of_name d) ≡ true) directory (has_directory path value read) in
      let at = found path path value.flavors here in
      let tree = in_tree (files_in world) path at.0 (search_path_of world) all_trees at.1 in
      among path path value.flavors here (path-named path at.0 bare (named_in tree.0 tree.1 path at.0 tree.2 parts))

  by_own : (path : List ℕ) (is : Bool) → bytes_eq path own_directory ≡ is → has_comma path ≡ false
      → is_there (if is then finding_in world path None else finding_named world (path_if_one path)).outcome ≡ true
      → is_one_of path (directories (files_in world)) ≡ true
  by_own path true is none there = own path ((bytes_eq-Decides path own_directory).0 is) there
  by_own path false is none there = plain path none (path_if_one path) refl there

pub of-directories : (world : World) → IsSearchPath (search_path_of world) → AreOfDirectories world
unfolding finding_at
of-directories world trees path none there = by_own world trees path (bytes_eq path own_directory) refl none there
