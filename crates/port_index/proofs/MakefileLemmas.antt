-- Directories by the names of makefiles.
use Rattle.std.proofs.Common.{◌≡◌, ◌∙◌, ap, sym, refl, ℕ, ◌-◌, Bool, true, false, ◌||◌, if◌then◌else◌, List, [], ◌∷◌, Option, Some, None}
use Rattle.std.proofs.Common.{map, take, length, codes, nat_eq, option_map, option_and_then, String, Global, string_bytes}
use Rattle.std.proofs.lemmas.Bool.{false≢true, or_right}
use Rattle.std.proofs.lemmas.Cmp.{nat_list_eq_equiv}
use Rattle.std.proofs.lemmas.Map.Text.{is_eq-slice_cmp}
use Rattle.std.proofs.lemmas.Slice.Eq.{bytes_eq-Decides}
use Rattle.std.specs.BTreeSet.{BTreeSet, contains_text, keys as names_of}
use Rattle.std.specs.FinMap.{contains_key, contains_key-keys, keys}
use Rattle.std.specs.List.{cons_option, ends_with, filter_map, list_any}
use Rattle.std.specs.Ordering.{eq_by_cmp}
use Rattle.std.specs.Str.{bytes_eq}
use Rattle.general_facts.specs.Lists.{list_any-map}
use Rattle.text_parts.specs.Ordered.{among, among-in_order, by_bytes, in_order-sorted, same_in_order}
use Rattle.mk_paths.specs.World.{FileMap}
use Rattle.port_index.specs.FilledRows.{is_one_of}
use Rattle.port_index.specs.Makefiles.{SameMakefiles, SameMakefilesServe, is_makefile}
use Rattle.port_index.specs.TreePaths.{after_slash, directories, directory_below, listable_directory, if_directory}
use Rattle.port_index.proofs.PlaceLemmas.{makefiles-same}

-- booleans that follow from each other are the same
pub same_by : (a b : Bool) → (a ≡ true → b ≡ true) → (b ≡ true → a ≡ true) → a ≡ b
same_by true b f g = sym (f refl)
same_by false true f g = g refl
same_by false false f g = refl

tie : (path : List ℕ) → ◌≡◌ {A = List ℕ → Bool} (eq_by_cmp by_bytes path) (λ one. bytes_eq one path)
tie path i one = (is_eq-slice_cmp path one ∙ nat_list_eq_equiv.symm path one) i

tied : (path : List ℕ) (paths : List (List ℕ)) → among path paths ≡ is_one_of path paths
tied path paths = ap (λ (p : List ℕ → Bool). list_any p paths) (tie path)

-- a file is there if its name is one of the files' names
there-named : (files : FileMap) (name : List ℕ) → contains_key files name ≡ is_one_of name (keys files)
there-named files name = contains_key-keys files name ∙ tied name (keys files)

-- ---- names, one of which is the makefile of a directory

record Makefile (path : List ℕ) (names : List (List ℕ)) : Type 0 where
  name : List ℕ
  one : is_one_of name names ≡ true
  is : listable_directory name ≡ Some path

module _ (path : List ℕ) where
  further : (name : List ℕ) (names : List (List ℕ)) → Makefile path names → Makefile path (name ∷ names)
  further name names found = record {
    name = found.name;
    one = or_right (bytes_eq name found.name) (is_one_of found.name names)
        found.one;
    is = found.is;
  }

  here : (name : List ℕ) (names : List (List ℕ)) (directory : List ℕ) (same : Bool) → listable_directory name ≡ Some directory
      → bytes_eq directory path ≡ same
      → (same || is_one_of path (filter_map listable_directory names)) ≡ true → (is_one_of path (filter_map listable_directory names) ≡ true
      → Makefile path names) → Makefile path (name ∷ names)
  here name names directory true is e one rest = record {
    name = name;
    one = ap (λ b. b || is_one_of name names) ((bytes_eq-Decides name name).1 refl);
    is = is ∙ ap Some ((bytes_eq-Decides directory path).0 e);
  }
  here name names directory false is e one rest = further name names (rest one)

  by_first : (name : List ℕ) (names : List (List ℕ)) (found : Option (List ℕ)) → listable_directory name ≡ found
      → is_one_of path (cons_option found (filter_map listable_directory names)) ≡ true
      → (is_one_of path (filter_map listable_directory names) ≡ true → Makefile path names) → Makefile path (name ∷ names)
  by_first name names None is one rest = further name names (rest one)
  by_first name names (Some directory) is one rest = here name names directory (bytes_eq directory path) is refl one rest

  makefile-of : (names : List (List ℕ)) → is_one_of path (filter_map listable_directory names) ≡ true → Makefile path names
  makefile-of [] one = absurd (false≢true one)
  makefile-of (name ∷ names) one = by_first name names (listable_directory name) refl one (makefile-of names)

  first_of : (found : Option (List ℕ)) (paths : List (List ℕ)) → found ≡ Some path → is_one_of path (cons_option found paths) ≡ true
  first_of found paths is =
      ap (λ (o : Option (List ℕ)). is_one_of path (cons_option o paths)) is ∙ ap (λ b. b || is_one_of path paths)
      ((bytes_eq-Decides path path).1 refl)

  later_of : (found : Option (List ℕ)) (paths : List (List ℕ)) → is_one_of path paths ≡ true
      → is_one_of path (cons_option found paths) ≡ true
  later_of None paths one = one
  later_of (Some other) paths one = or_right (bytes_eq other path) (is_one_of path paths) one

  -- a name whose file is the directory's makefile, one of these
  module _ (name : List ℕ) (is : listable_directory name ≡ Some path) where
    in_first : (other : List ℕ) (names : List (List ℕ)) (same : Bool) → bytes_eq other name ≡ same → (same || is_one_of name names) ≡ true
        → (is_one_of name names ≡ true → is_one_of path (filter_map listable_directory names) ≡ true)
        → is_one_of path (filter_map listable_directory (other ∷ names)) ≡ true
    in_first other names true e one rest = first_of (listable_directory other) (filter_map listable_directory names)
        (ap listable_directory ((bytes_eq-Decides other name).0 e) ∙ is)
    in_first other names false e one rest = later_of (listable_directory other) (filter_map listable_directory names) (rest one)

    one_of-makefile : (names : List (List ℕ)) → is_one_of name names ≡ true → is_one_of path (filter_map listable_directory names) ≡ true
    one_of-makefile [] one = absurd (false≢true one)
    one_of-makefile (other ∷ names) one = in_first other names (bytes_eq other name) refl one (one_of-makefile names)

    -- the directory of a makefile that is there is one of the files' directories
    pub directory-there : (files : FileMap) → contains_key files name ≡ true → is_one_of path (directories files) ≡ true
    directory-there files there =
        among-in_order (λ one. bytes_eq one path) (filter_map listable_directory (keys files))
        ∙ one_of-makefile (keys files) (sym (there-named files name) ∙ there)

  -- one of the files' names is the makefile of a directory of theirs
  there-directory : (files : FileMap) → is_one_of path (directories files) ≡ true → Makefile path (keys files)
  there-directory files one =
      makefile-of (keys files) (sym (among-in_order (λ one. bytes_eq one path) (filter_map listable_directory (keys files))) ∙ one)

-- ---- the same makefiles are there

named_by : (name path text : List ℕ) (ends : Bool) → ends_with nat_eq name (codes "/Makefile") ≡ ends
    → option_and_then if_directory (option_map directory_below (option_and_then after_slash (if ends then Some text else None))) ≡ Some path
    → is_makefile name ≡ true
named_by name path text true e is = e
named_by name path text false e is = absurd cc

-- a name of which a directory is known is a makefile's
makefile-named : (name path : List ℕ) → listable_directory name ≡ Some path → is_makefile name ≡ true
unfolding listable_directory
makefile-named name path is = named_by name path (take (length name - length (codes "/Makefile")) name)
    (ends_with nat_eq name (codes "/Makefile")) refl is

module _ (old new : FileMap) (same : SameMakefiles old new) where
  still-directory : (path : List ℕ) → is_one_of path (directories old) ≡ true → is_one_of path (directories new) ≡ true
  still-directory path is =
      let found = there-directory path old is in
      directory-there path found.name found.is new (same found.name (makefile-named found.name path found.is)
      ∙ there-named old found.name ∙ found.one)

same-directories : (old new : FileMap) → SameMakefiles old new → directories new ≡ directories old
same-directories old new same =
    same_in_order (directories new) (directories old) (in_order-sorted (filter_map listable_directory (keys new)))
    (in_order-sorted (filter_map listable_directory (keys old)))
    (λ path. tied path (directories new)
    ∙ same_by (is_one_of path (directories new)) (is_one_of path (directories old)) (still-directory new old (λ name is. sym (same name is))
    path) (still-directory old new same path)
    ∙ sym (tied path (directories old)))

pub same-makefiles : SameMakefilesServe
same-makefiles = record { directories = same-directories; paths = makefiles-same }

-- ---- names that have changed

pub changed-named : (changed : BTreeSet (String Global)) (name : List ℕ) → contains_text changed name ≡ is_one_of name
    (map string_bytes (names_of changed))
changed-named changed name = sym (list_any-map (eq_by_cmp by_bytes name) string_bytes (names_of changed))
    ∙ tied name (map string_bytes (names_of changed))
