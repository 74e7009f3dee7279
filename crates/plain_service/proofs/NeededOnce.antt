-- No makefile is twice, with the same flavors, among those on which an answer rests.
use Rattle.std.proofs.Common.{◌≡◌, ◌≢◌, ◌∙◌, ◌⊎◌, inl, inr, sym, ap, subst, refl, ℕ, ◌<◌, Bool, true, false, cond, not, ◌&&◌, ◌||◌, ◌==◌}
use Rattle.std.proofs.Common.{List, [], ◌∷◌, ◌++◌, length, Option, Some, None, Ok, arith}
use Rattle.std.proofs.lemmas.Bool.{and_parts, false≢true}
use Rattle.std.proofs.lemmas.Grind.{common_steps}
use Rattle.std.proofs.lemmas.Cmp.{tied_itself, nat_list_cmp_total}
use Rattle.std.proofs.lemmas.List.{append-nil}
use Rattle.std.proofs.lemmas.List.Elements.{All-cons, All-nil}
use Rattle.std.proofs.lemmas.List.Kept.{AllPairs-cons}
use Rattle.std.proofs.lemmas.List.Splits.{join_with_byte-slice_split, length-slice_split}
use Rattle.std.proofs.lemmas.Slice.Eq.{bytes_eq-Decides}
use Rattle.std.specs.BTreeSet.{insert_key}
use Rattle.std.specs.FinMap.{keys}
use Rattle.std.specs.List.{All, AllPairs, AllByRecursion, list_any, list_all, filter, filter_map, flat_map, cons_option, find}
use Rattle.std.specs.List.{join_with_byte}
use Rattle.std.specs.List.Sorted.{IsStrictlySortedBy}
use Rattle.std.specs.Option.{option_map, option_and_then, is_none, option_to_list}
use Rattle.std.specs.Ordering.{match_ordering}
use Rattle.std.specs.declared.cmp.Ordering.{Ordering}
use Rattle.std.specs.declared.cmp.Ordering.TheVariants.{Less, Equal, Greater}
use Rattle.std.specs.Prelude.{nat_le}
use Rattle.std.specs.Result.{result_ok}
use Rattle.std.specs.Str.{bytes_eq}
use Rattle.text_parts.specs.Order.{in_order}
use Rattle.text_parts.specs.Ordered.{by_bytes, in_order-sorted}
use Rattle.general_facts.specs.Ascii.{slash}
use Rattle.mk_paths.specs.FileName.{parts_of_name}
use Rattle.mk_paths.specs.Place.{place}
use Rattle.mk_paths.specs.SearchPath.{IsSearchPath, is_tree}
use Rattle.mk_paths.specs.World.{World, files_in, search_path_of}
use Rattle.pkg_path.specs.Paths.{is_bare_directory, is_bare_path, PathValue, path_of, path_if_one, canonical, without_subpackage, port_path}
use Rattle.pkg_path.specs.Paths.{elements_of, directory_element, choices_of, choices_text, flavor_choices, flavors_of, is_flavor}
use Rattle.pkg_path.specs.Paths.{is_subpackage}
use Rattle.general_facts.specs.Ascii.{comma}
use Rattle.pkg_path.proofs.Rereading.{path_of-IsPath, without-IsPath}
use Rattle.port_rules.specs.Depends.{DependValue}
use Rattle.port_deps.specs.ItemText.{WantedValue, PartsValue, wanted_of, wanted_in, wanted_at, wanted_by, spec_if_one, spec_text, at_sign}
use Rattle.port_deps.specs.ItemText.{named_parts}
use Rattle.port_deps.specs.ItemText as item_text
use Rattle.port_index.specs.Dependencies.{target_by, targets_in, target_of, items_among}
use Rattle.port_index.specs.Index.{needed_paths, listed_paths}
use Rattle.port_index.specs.TreePaths as tree_paths
use Rattle.port_index.specs.TreePaths.{if_directory, directories, makefile_directory, path_of_word, named_at, path_below}
use Rattle.port_index.specs.TreePaths.{named_in as named_in_list}
use Rattle.port_index.specs.Pairs.{Pair, pair_in, pair_named, pair_at, pairs_at}
use Rattle.port_index.specs.PathOutcomes.{PathOutcome, Absent, Faulty, Port, BadPort, Lists, BadList, FlavoredList, Other, outcome_at}
use Rattle.port_index.specs.PathOutcomes.{own_directory}
use Rattle.port_index.proofs.PathReading.{has_directory, ok_if, read_as}
use Rattle.port_index.proofs.TargetLemmas.{targets-among}
use Rattle.plain_service.specs.Questions.{question_of}
use Rattle.plain_service.specs.AnswerCosts.{rests_for, RestsOnEachOnce}
use Rattle.plain_service.specs.declared.questions.Question.{Question}
use Rattle.plain_service.specs.declared.questions.Question.TheVariants.{Settled, OfFile, OfPort, OfIndex}
use Rattle.port_index.proofs.MakefileNames.{IsNamedBy, one_stem, named_in, named_own, in_tree}

-- what is of each element, through the lists that are made

module _ {X : Type 0} (P : X → Type 0) where
  each-append : (xs ys : List X) → AllByRecursion P xs → AllByRecursion P ys → AllByRecursion P (xs ++ ys)
  each-append [] ys a b = b
  each-append (x ∷ xs) ys a b = (a.0, each-append xs ys a.1 b)

  each-flat_map : {W : Type 0} (f : W → List X) → ((w : W) → AllByRecursion P (f w)) → (ws : List W) → AllByRecursion P (flat_map f ws)
  each-flat_map f all [] = tt
  each-flat_map f all (w ∷ ws) = each-append (f w) (flat_map f ws) (all w) (each-flat_map f all ws)

  each-given : {W : Type 0} (f : W → Option X) → ((w : W) (x : X) → f w ≡ Some x → P x) → (ws : List W) → AllByRecursion P (filter_map f ws)
  each-given f all [] = tt
  each-given f all (w ∷ ws) = by (f w) refl (each-given f all ws)
    where
      by : (found : Option X) → f w ≡ found → AllByRecursion P (filter_map f ws) → AllByRecursion P (cons_option found (filter_map f ws))
      by None is rest = rest
      by (Some x) is rest = (all w x is, rest)

module _ (P : List ℕ → Type 0) where
  put_by : (k x : List ℕ) (xs : List (List ℕ)) (o : Ordering) → P k → AllByRecursion P (x ∷ xs)
      → AllByRecursion P (insert_key by_bytes xs k)
      → AllByRecursion P (match_ordering o (k ∷ x ∷ xs) (x ∷ xs) (x ∷ insert_key by_bytes xs k))
  put_by k x xs Less p a rest = (p, a)
  put_by k x xs Equal p a rest = a
  put_by k x xs Greater p a rest = (a.0, rest)

  put : (k : List ℕ) (xs : List (List ℕ)) → P k → AllByRecursion P xs → AllByRecursion P (insert_key by_bytes xs k)
  put k [] p a = (p, tt)
  put k (x ∷ xs) p a = put_by k x xs (by_bytes k x) p a (put k xs p a.1)

  each-in_order : (xs : List (List ℕ)) → AllByRecursion P xs → AllByRecursion P (in_order xs)
  each-in_order [] a = tt
  each-in_order (x ∷ xs) a = put x (in_order xs) a.0 (each-in_order xs a.1)

-- what is found for texts in order is apart, if what is found says which text it is found for

module _ {Y : Type 0} (f : List ℕ → Option Y) (P : List ℕ → Type 0) (one : (x z : List ℕ) (y : Y) → P x → P z → f x ≡ Some y
    → f z ≡ Some y → x ≡ z) where
  not_later : (x : List ℕ) (y : Y) (zs : List (List ℕ)) → P x → f x ≡ Some y → AllByRecursion (λ z. by_bytes x z ≡ Less) zs
      → AllByRecursion P zs → All (λ other. y ≢ other) (filter_map f zs)
  not_later x y [] p is above all = All-nil _
  not_later x y (z ∷ zs) p is above all = by (f z) refl (not_later x y zs p is above.1 all.1)
    where
      by : (found : Option Y) → f z ≡ found → All (λ other. y ≢ other) (filter_map f zs)
          → All (λ other. y ≢ other) (cons_option found (filter_map f zs))
      by None at rest = rest
      by (Some other) at rest =
          All-cons (λ other. y ≢ other) other _ (λ same.
          let here : x ≡ z = one x z y p all.0 is (at ∙ ap Some (sym same)) in
          let tied : by_bytes x z ≡ Equal = subst (λ z. by_bytes x z ≡ Equal) here (tied_itself nat_list_cmp_total x) in
          cc) rest

  found_apart : (xs : List (List ℕ)) → IsStrictlySortedBy by_bytes xs → AllByRecursion P xs
      → AllPairs (λ y other. y ≢ other) (filter_map f xs)
  unfolding IsStrictlySortedBy
  found_apart [] sorted all = λ i j d below within. absurd (omega (arith, within))
  found_apart (x ∷ xs) sorted all = by (f x) refl (found_apart xs sorted.1 all.1)
    where
      by : (found : Option Y) → f x ≡ found → AllPairs (λ y other. y ≢ other) (filter_map f xs)
          → AllPairs (λ y other. y ≢ other) (cons_option found (filter_map f xs))
      by None is rest = rest
      by (Some y) is rest = AllPairs-cons (λ y other. y ≢ other) y (filter_map f xs) (not_later x y xs all.0 is sorted.0 all.1) rest

one_apart : {Y : Type 0} (found : Option Y) → AllPairs (λ y other. y ≢ other) (option_to_list found)
one_apart None = λ i j d below within. absurd (omega (arith, within))
one_apart (Some y) = λ i j d below within. absurd (omega (arith, below, within))

-- paths that may be needed

-- a canonical path without a subpackage
record IsBarePath (path : List ℕ) : Type 0 where
  value : PathValue
  read : path_of path ≡ Ok value
  written : path ≡ canonical value
  bare : value.subpackage ≡ None

abbrev MayBeNeeded : List ℕ → Type 0
MayBeNeeded path = (path ≡ own_directory) ⊎ IsBarePath path

port_is_bare : (text : List ℕ) (path : PathValue) → path_if_one text ≡ Some path → IsBarePath (port_path path)
port_is_bare text path e =
    let is = without-IsPath path (path_of-IsPath text path (ok_if (path_of text) path e)) in
    record { value = without_subpackage path; read = is.itself; written = refl; bare = refl }

-- a path without choices is its directory

none_is : {X : Type 0} (found : Option X) → is_none found ≡ true → found ≡ None
none_is None e = refl
none_is (Some x) e = absurd (false≢true e)

no_choices : (choices : List (List ℕ)) → is_none (flavors_of choices) ≡ true → is_none (find is_subpackage choices) ≡ true → choices ≡ []
no_choices [] a b = refl
no_choices (choice ∷ choices) a b = by (is_subpackage choice) refl
  where
    by : (sub : Bool) → is_subpackage choice ≡ sub → choice ∷ choices ≡ []
    by true is = absurd (false≢true (ap (λ sub. is_none (cond sub (Some choice) (find is_subpackage choices))) (sym is) ∙ b))
    by false is =
        absurd (false≢true (ap (λ sub. is_none (cond (not sub || list_any (λ choice. not (is_subpackage choice)) choices)
        (Some (in_order (filter is_flavor (choice ∷ choices)))) None)) (sym is) ∙ a))

one_element : (elements : List (List ℕ)) → 0 < length elements → choices_of elements ≡ []
    → join_with_byte 44 elements ≡ directory_element elements
one_element [] some none = absurd (omega (arith, some))
one_element (directory ∷ []) some none = refl
one_element (directory ∷ choice ∷ choices) some none = absurd cc

bare_text : (text : List ℕ) → is_bare_directory text ≡ true → IsBarePath text
unfolding canonical
bare_text text e = by (path_if_one text) refl e
  where
    by : (found : Option PathValue) → path_if_one text ≡ found → is_bare_path found ≡ true → IsBarePath text
    by None is e = absurd (false≢true e)
    by (Some path) is e =
        let read = ok_if (path_of text) path is in
        let r = read_as text path read in
        let n = and_parts (is_none path.flavors) (is_none path.subpackage) e in
        let none : choices_of (elements_of text) ≡ [] =
        no_choices (choices_of (elements_of text)) (ap (λ (path : PathValue). is_none path.flavors) r.0 ∙ n.0)
        (ap (λ (path : PathValue). is_none path.subpackage) r.0 ∙ n.1) in
        record {
          value = path;
          read = read;
          written =
              sym (join_with_byte-slice_split 44 text)
              ∙ one_element (elements_of text) (omega (arith, length-slice_split (λ byte. byte == 44) text)) none
              ∙ ap (λ (path : PathValue). path.directory) r.0
              ∙ sym (ap (λ flavors. path.directory ++ choices_text (flavor_choices flavors) ++ choices_text
              (option_to_list path.subpackage)) (none_is path.flavors n.0)
              ∙ ap (λ sub. path.directory ++ [] ++ choices_text (option_to_list sub)) (none_is path.subpackage n.1)
              ∙ append-nil (path.directory ++ []) ∙ append-nil path.directory);
          bare = none_is path.subpackage n.1;
        }

-- so is each path that is needed

map_some : {X Y : Type 0} (f : X → Y) (found : Option X) (y : Y) → option_map f found ≡ Some y → (x : X) × (found ≡ Some x) × (f x ≡ y)
map_some f None y e = absurd cc
map_some f (Some x) y e = (x, refl, cc)

then_some : {X Y : Type 0} (f : X → Option Y) (found : Option X) (y : Y) → option_and_then f found ≡ Some y → (x : X)
    × (found ≡ Some x) × (f x ≡ Some y)
then_some f None y e = absurd cc
then_some f (Some x) y e = (x, refl, e)

-- a directory that may be listed
listed_directory : (name path : List ℕ) → tree_paths.listable_directory name ≡ Some path → MayBeNeeded path
unfolding tree_paths.listable_directory
listed_directory name path e =
    let t = then_some if_directory (makefile_directory name) path e in
    by (bytes_eq t.0 own_directory) (is_bare_directory t.0) t.0 refl refl t.2
  where
    by : (own bare : Bool) (directory : List ℕ) → bytes_eq directory own_directory ≡ own → is_bare_directory directory ≡ bare
        → cond (own || bare) (Some directory) None ≡ Some path → MayBeNeeded path
    by true bare directory is is_bare_directory e =
        let same : directory ≡ path = cc in
        subst MayBeNeeded same (inl ((bytes_eq-Decides directory own_directory).0 is))
    by false true directory is is_bare_directory e =
        let same : directory ≡ path = cc in
        subst MayBeNeeded same (inr (bare_text directory is_bare_directory))
    by false false directory is is_bare_directory e = absurd cc

-- a path that a list of directories names
listed_word : (directory word path : List ℕ) → path_of_word directory word ≡ Some path → MayBeNeeded path
listed_word directory word path e = by (list_any (λ byte. byte == comma) word) e
  where
    by : (has : Bool) → cond has (option_map port_path (path_if_one (path_below directory word))) None ≡ Some path → MayBeNeeded path
    by true e =
        let t = map_some port_path (path_if_one (path_below directory word)) path e in
        subst MayBeNeeded t.2 (inr (port_is_bare (path_below directory word) t.0 t.1))
    by false e = absurd cc

listed_at : (directory : List ℕ) (outcome : PathOutcome) → AllByRecursion MayBeNeeded (named_in_list directory outcome)
listed_at directory (Lists words) = each-given MayBeNeeded (path_of_word directory) (listed_word directory) words
listed_at directory Absent = tt
listed_at directory (Faulty fault) = tt
listed_at directory (Port port) = tt
listed_at directory (BadPort fault) = tt
listed_at directory (BadList fault) = tt
listed_at directory FlavoredList = tt
listed_at directory Other = tt

-- a path that an item names

abbrev wanted_value : PathValue → List ℕ → WantedValue
wanted_value path spec = record { path = path; spec = spec }

path_wanted : (text spec : List ℕ) (wanted : WantedValue) → wanted_by text spec ≡ Some wanted → path_if_one text ≡ Some wanted.path
path_wanted text spec wanted e =
    let t = then_some (λ path. option_and_then (λ spec. Some (wanted_value path spec)) (spec_if_one spec)) (path_if_one text) wanted e in
    let u = then_some (λ spec. Some (wanted_value t.0 spec)) (spec_if_one spec) wanted t.2 in
    let is : wanted_value t.0 u.0 ≡ wanted = cc in
    t.1 ∙ ap (λ (wanted : WantedValue). Some wanted.path) is

target_needed : (depend : DependValue) (path : List ℕ) → target_by depend ≡ Some path → MayBeNeeded path
target_needed depend path e =
    let t = map_some (λ (wanted : WantedValue). port_path wanted.path) (wanted_of depend.item) path e in
    let u = then_some wanted_in (named_parts (item_text.parts_of_item depend.item)) t.0 t.1 in
    let v = then_some (wanted_by (at_sign u.0.path).before) (spec_text u.0.spec (at_sign u.0.path).behind) t.0 u.2 in
    subst MayBeNeeded t.2 (inr (port_is_bare (at_sign u.0.path).before t.0.path (path_wanted (at_sign u.0.path).before v.0 t.0 v.2)))

targets_needed : (outcome : PathOutcome) → AllByRecursion MayBeNeeded (targets_in outcome)
targets_needed (Port port) = each-given MayBeNeeded target_by target_needed port.depends
targets_needed Absent = tt
targets_needed (Faulty fault) = tt
targets_needed (BadPort fault) = tt
targets_needed (Lists words) = tt
targets_needed (BadList fault) = tt
targets_needed FlavoredList = tt
targets_needed Other = tt

module _ (world : World) where
  all_listed : AllByRecursion MayBeNeeded (listed_paths world)
  all_listed =
      let found = directories (files_in world) in
      each-in_order MayBeNeeded (flat_map (named_at (outcome_at world)) found ++ found)
      (each-append MayBeNeeded (flat_map (named_at (outcome_at world)) found) found
      (each-flat_map MayBeNeeded (named_at (outcome_at world)) (λ directory. listed_at directory (outcome_at world directory)) found)
      (each-in_order MayBeNeeded (filter_map tree_paths.listable_directory (keys (files_in world)))
      (each-given MayBeNeeded tree_paths.listable_directory listed_directory (keys (files_in world)))))

  all_needed : AllByRecursion MayBeNeeded (needed_paths world)
  all_needed =
      let listed = listed_paths world in
      each-in_order MayBeNeeded (listed ++ filter_map target_of (items_among (outcome_at world) listed))
      (each-append MayBeNeeded listed (filter_map target_of (items_among (outcome_at world) listed)) all_listed
      (subst (AllByRecursion MayBeNeeded) (targets-among (outcome_at world) listed)
      (each-flat_map MayBeNeeded (λ path. targets_in (outcome_at world path)) (λ path. targets_needed (outcome_at world path)) listed)))

-- what is found for a path says which path it is

-- the canonical path of the directory with these parts; the trees' own directory has none
abbrev path_with : List (List ℕ) → Option (List (List ℕ)) → List ℕ
path_with [] flavors = own_directory
path_with (part ∷ parts) flavors = canonical (record { directory = join_with_byte 47 (part ∷ parts); flavors = flavors; subpackage = None })

path_with-some : (stem : List (List ℕ)) (flavors : Option (List (List ℕ))) → 0 < length stem
    → path_with stem flavors ≡ canonical (record { directory = join_with_byte 47 stem; flavors = flavors; subpackage = None })
path_with-some [] flavors some = absurd (omega (arith, some))
path_with-some (part ∷ parts) flavors some = refl

record IsFoundFor (path : List ℕ) (pair : Pair) : Type 0 where
  stem : List (List ℕ)
  named : IsNamedBy stem pair.makefile
  written : path ≡ path_with stem pair.flavors

module _ (world : World) (trees : IsSearchPath (search_path_of world)) where
  all_trees : list_all is_tree (search_path_of world) ≡ true
  all_trees = last_of (nat_le 1 (length (search_path_of world))) (nat_le (length (search_path_of world)) 8)
      (list_all is_tree (search_path_of world)) trees
    where
      last_of : (a b c : Bool) → (a && b && c) ≡ true → c ≡ true
      last_of a b c e = grind (arith, common_steps)

  own_found : (path : List ℕ) (pair : Pair) → path ≡ own_directory → pair_in world path None ≡ Some pair → IsFoundFor path pair
  own_found path pair own e =
      let t = map_some (λ makefile. let pair : Pair = record { makefile = makefile; flavors = None } in pair) (place world path) pair e in
      let f = in_tree (files_in world) path t.0 (search_path_of world) all_trees t.1 in
      subst (IsFoundFor path) t.2 (record { stem = []; named = named_own f.0 f.1 path t.0 f.2 own; written = own })

  bare_found : (path : List ℕ) (pair : Pair) (bare : IsBarePath path) → pair_named world bare.value ≡ Some pair → IsFoundFor path pair
  bare_found path pair bare e =
      let value = bare.value in
      let t = map_some (λ makefile. let pair : Pair = record { makefile = makefile; flavors = value.flavors } in pair)
      (place world value.directory) pair e in
      let f = in_tree (files_in world) value.directory t.0 (search_path_of world) all_trees t.1 in
      let stem = parts_of_name value.directory in
      subst (IsFoundFor path) t.2 (record {
        stem = stem;
        named = named_in f.0 f.1 value.directory t.0 f.2 (has_directory path value bare.read);
        written =
            bare.written
            ∙ (λ i. canonical (record {
              directory = sym (join_with_byte-slice_split 47 value.directory) i;
              flavors =
                  value.flavors;
              subpackage = bare.bare i;
            }))
            ∙ sym (path_with-some stem value.flavors (omega (arith, length-slice_split (λ byte. byte == slash) value.directory)));
      })

  found : (path : List ℕ) (pair : Pair) → MayBeNeeded path → pair_at world path ≡ Some pair → IsFoundFor path pair
  found path pair may e = by (bytes_eq path own_directory) refl may e
    where
      by : (own : Bool) → bytes_eq path own_directory ≡ own → MayBeNeeded path
          → cond own (pair_in world path None) (option_and_then (pair_named world) (path_if_one path)) ≡ Some pair → IsFoundFor path pair
      by true is may e = own_found path pair ((bytes_eq-Decides path own_directory).0 is) e
      by false is (inl own) e = absurd (false≢true (sym is ∙ (bytes_eq-Decides path own_directory).1 own))
      by false is (inr bare) e = bare_found path pair bare
          (ap (λ found. option_and_then (pair_named world) (result_ok found)) (sym bare.read) ∙ e)

  one_path : (path other : List ℕ) (pair : Pair) → MayBeNeeded path → MayBeNeeded other → pair_at world path ≡ Some pair
      → pair_at world other ≡ Some pair → path ≡ other
  one_path path other pair a b one two =
      let f = found path pair a one in
      let g = found other pair b two in
      f.written ∙ ap (λ stem. path_with stem pair.flavors) (one_stem f.stem g.stem pair.makefile f.named g.named) ∙ sym g.written

  needed_apart : AllPairs (λ one other. one ≢ other) (pairs_at world (needed_paths world))
  needed_apart = found_apart (pair_at world) MayBeNeeded one_path (needed_paths world)
      (in_order-sorted (listed_paths world ++ filter_map target_of (items_among (outcome_at world) (listed_paths world))))
      (all_needed world)

  rests_apart : (question : Question) → AllPairs (λ one other. one ≢ other) (rests_for world question)
  rests_apart (Settled prepared) = one_apart None
  rests_apart (OfFile asked) = one_apart None
  rests_apart (OfPort asked) = one_apart _
  rests_apart (OfIndex asked) = needed_apart

pub rests_on_each_once : RestsOnEachOnce
rests_on_each_once world request trees = rests_apart world trees (question_of request)
