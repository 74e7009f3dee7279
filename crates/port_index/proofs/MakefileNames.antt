-- The name of a makefile says in which directory below its tree it was found.
use Rattle.std.proofs.Common.{◌≡◌, ◌∙◌, sym, ap, refl, ℕ, ◌<◌, Bool, true, false, cond, not, ◌&&◌, ◌||◌, ◌==◌, List, [], ◌∷◌, ◌++◌, length}
use Rattle.std.proofs.Common.{drop, Option, Some, None, Result, Ok, Err, codes, append_assoc, arith}
use Rattle.std.proofs.lemmas.Bool.{and_parts, and_from, eqb-true}
use Rattle.std.proofs.lemmas.Grind.{common_steps}
use Rattle.std.proofs.lemmas.List.{append_cancel_right}
use Rattle.std.proofs.lemmas.List.Elements.{All-cons, All-nil}
use Rattle.std.proofs.lemmas.List.Splits.{slice_split-cons_yes, slice_split-cons_no, slice_split_at, length-slice_split}
use Rattle.std.specs.FinMap.{contains_key}
use Rattle.std.specs.List.{list_all, slice_split, onto_first, filter_map, find, cons_option, All}
use Rattle.std.specs.Option.{option_and_then}
use Rattle.std.specs.Result.{result_ok}
use Rattle.std.specs.Str.{bytes_eq}
use Rattle.general_facts.specs.Ascii.{slash}
use Rattle.mk_paths.specs.FileName.{is_plain, parts_of_name, kept_parts, with_part, without_last, with_slashes, name_of_parts, resolved}
use Rattle.mk_paths.specs.Place.{makefile_in, place_among}
use Rattle.mk_paths.specs.SearchPath.{is_tree, is_part, may_be_in_part}
use Rattle.mk_paths.specs.World.{FileMap}
use Rattle.mk_paths.specs.declared.file_name.NameFault.{NameFault}
use Rattle.mk_paths.specs.declared.file_name.NameFault.TheVariants.{BadName}
use Rattle.mk_paths.proofs.Resolving.{may_occur, is_kept, kept_again}
use Rattle.text_parts.specs.Laws.{are_between}
use Rattle.text_parts.proofs.PartTexts.{parts_are_between, written_is_cut_again}

-- a text cut at a mark that passes, and before and after it

onto_append : (x : ℕ) (parts more : List (List ℕ)) → 0 < length parts → onto_first x (parts ++ more) ≡ onto_first x parts ++ more
onto_append x [] more some = absurd (omega (arith, some))
onto_append x (part ∷ parts) more some = refl

module _ (p : ℕ → Bool) where
  split_then : (xs : List ℕ) (y : ℕ) (ys : List ℕ) → p y ≡ true → slice_split p (xs ++ y ∷ ys) ≡ slice_split p xs ++ slice_split p ys
  split_then [] y ys is = slice_split-cons_yes p y ys is
  split_then (x ∷ xs) y ys is =
      elim (p x) as (λ b. p x ≡ b → slice_split p (x ∷ xs ++ y ∷ ys) ≡ slice_split p (x ∷ xs) ++ slice_split p ys) [
        | true ↦ λ at.
            slice_split-cons_yes p x (xs ++ y ∷ ys) at ∙ ap (λ l. [] ∷ l) (split_then xs y ys is)
            ∙ sym (ap (λ l. l ++ slice_split p ys) (slice_split-cons_yes p x xs at))
        | false ↦ λ at.
            slice_split-cons_no p x (xs ++ y ∷ ys) at ∙ ap (onto_first x) (split_then xs y ys is)
            ∙ onto_append x (slice_split p xs) (slice_split p ys) (omega (arith, length-slice_split p xs))
            ∙ sym (ap (λ l. l ++ slice_split p ys) (slice_split-cons_no p x xs at))
      ] refl

-- parts that stay as they are

abbrev pub is_no_dot : List ℕ → Bool
is_no_dot part = not (bytes_eq part [] || bytes_eq part (codes ".") || bytes_eq part (codes ".."))

both : (a b c d : Bool) → not (a || b || c) ≡ true → d ≡ true → ((not a && not b && not c) && d) ≡ true
both a b c d p q = grind (arith, common_steps)

tests_of : (a b c : Bool) → not (a || b || c) ≡ true → ((a || b) ≡ false) × (c ≡ false)
tests_of a b c p = grind (arith, common_steps)

kept_one : (part : List ℕ) → is_no_dot part ≡ true → list_all may_occur part ≡ true → is_kept part ≡ true
kept_one part a b = both (bytes_eq part []) (bytes_eq part (codes ".")) (bytes_eq part (codes "..")) (list_all may_occur part) a b

kept_all : (parts : List (List ℕ)) → list_all is_no_dot parts ≡ true → are_between slash is_plain parts ≡ true
    → list_all is_kept parts ≡ true
kept_all [] a b = refl
kept_all (part ∷ parts) a b =
    let s = and_parts (is_no_dot part) (list_all is_no_dot parts) a in
    let t = and_parts (list_all may_occur part) (are_between slash is_plain parts) b in
    and_from (is_kept part) (list_all is_kept parts) (kept_one part s.0 t.0) (kept_all parts s.1 t.1)

with_first : (part : List ℕ) → is_no_dot part ≡ true → with_part [] part ≡ Some (part ∷ [])
with_first part a =
    let t = tests_of (bytes_eq part []) (bytes_eq part (codes ".")) (bytes_eq part (codes "..")) a in
    ap (λ b. cond b (Some []) (cond (bytes_eq part (codes "..")) (without_last []) (Some (part ∷ [])))) t.0
    ∙ ap (λ b. cond b (without_last []) (Some (part ∷ []))) t.1

-- what a text that names a file is

ok_of : (test : Bool) (wanted name : List ℕ) → cond test (Ok wanted) (Err BadName) ≡ Ok name → name ≡ wanted
ok_of true wanted name e = cc
ok_of false wanted name e = cc

resolved_by : (first plain : Bool) (parts : Option (List (List ℕ))) (name : List ℕ)
    → cond (first && plain) (name_of_parts parts) (Err BadName) ≡ Ok name
    → (plain ≡ true) × ((kept : List (List ℕ)) → parts ≡ Some kept → name ≡ with_slashes kept)
resolved_by false plain parts name e = absurd cc
resolved_by true false parts name e = absurd cc
resolved_by true true None name e = absurd cc
resolved_by true true (Some kept) name e = (
  refl,
  λ other is. ok_of _ (with_slashes kept) name e
      ∙ ap (λ parts. with_slashes (elim parts as (λ _. List (List ℕ)) [ None ↦ [] | Some parts ↦ parts ])) is,
)

-- the last part of a makefile's name
abbrev pub last : List ℕ
last = codes "Makefile"

-- the parts of its name: that of the tree, those of the directory, and the last
abbrev pub parts_with : List ℕ → List (List ℕ) → List (List ℕ)
parts_with part stem = part ∷ (stem ++ last ∷ [])

-- The name of a makefile in a directory with these parts. The trees' own directory has none.
pub record IsNamedBy (stem : List (List ℕ)) (name : List ℕ) : Type 0 where
  pub part : List ℕ
  pub is : name ≡ with_slashes (parts_with part stem)
  pub between : are_between slash is_plain (parts_with part stem) ≡ true

-- so the name says which parts the directory has

cut_joined : (part : List ℕ) (stem : List (List ℕ)) → are_between slash is_plain (parts_with part stem) ≡ true
    → parts_of_name (with_slashes (parts_with part stem)) ≡ [] ∷ parts_with part stem
cut_joined part stem between = written_is_cut_again slash is_plain [] (parts_with part stem) between

pub one_stem : (stem other : List (List ℕ)) (name : List ℕ) → IsNamedBy stem name → IsNamedBy other name → stem ≡ other
one_stem stem other name a b =
    let whole : parts_with a.part stem ≡ parts_with b.part other =
    ap (drop 1) (sym (cut_joined a.part stem a.between) ∙ ap parts_of_name (sym a.is ∙ b.is) ∙ cut_joined b.part other b.between) in
    append_cancel_right stem other (last ∷ []) (ap (drop 1) whole)

-- the trees of a search path

no_slash : (part : List ℕ) → list_all may_be_in_part part ≡ true → All (λ byte. (byte == slash) ≡ false) part
no_slash [] a = All-nil _
no_slash (byte ∷ part) a =
    let s = and_parts (may_be_in_part byte) (list_all may_be_in_part part) a in
    All-cons (λ byte. (byte == slash) ≡ false) byte part (here (is_plain byte) (byte == slash) _ s.0) (no_slash part s.1)
  where
    here : (a b c : Bool) → (a && not b && c) ≡ true → b ≡ false
    here a b c e = grind (arith, common_steps)

module _ (part : List ℕ) (is : is_part part ≡ true) where
  no_dot : is_no_dot part ≡ true
  no_dot = (and_parts (is_no_dot part) (list_all may_be_in_part part) is).0

  apart : All (λ byte. (byte == slash) ≡ false) part
  apart = no_slash part (and_parts (is_no_dot part) (list_all may_be_in_part part) is).1

  -- the parts of such a name, as it is written
  cut_name : (directory : List ℕ) → parts_of_name (makefile_in (slash ∷ part) directory) ≡ [] ∷ parts_with part (parts_of_name directory)
  cut_name directory =
      slice_split-cons_yes (λ byte. byte == slash) slash (part ++ slash ∷ directory ++ codes "/Makefile") refl
      ∙ ap (λ l. [] ∷ l)
      (ap (slice_split (λ byte. byte == slash)) (append_assoc part (slash ∷ directory) (codes "/Makefile"))
      ∙ slice_split_at (λ byte. byte == slash) part slash (directory ++ codes "/Makefile") apart refl
      ∙ ap (λ l. part ∷ l) (split_then (λ byte. byte == slash) directory slash last refl))

  module _ (directory name : List ℕ) (e : resolved (makefile_in (slash ∷ part) directory) ≡ Ok name) where
    abbrev text : List ℕ
    text = makefile_in (slash ∷ part) directory

    parts : (list_all is_plain text ≡ true) × ((kept : List (List ℕ)) → kept_parts [] (parts_of_name text) ≡ Some kept
        → name ≡ with_slashes kept)
    parts = resolved_by true (list_all is_plain text) (kept_parts [] (parts_of_name text)) name e

    plain : are_between slash is_plain (parts_with part (parts_of_name directory)) ≡ true
    plain = ap (are_between slash is_plain) (sym (cut_name directory)) ∙ parts_are_between slash is_plain text parts.0

    -- in a directory whose parts stay as they are
    pub named_in : list_all is_no_dot (parts_of_name directory) ≡ true → IsNamedBy (parts_of_name directory) name
    unfolding kept_parts
    named_in dots =
        let whole : list_all is_no_dot (parts_with part (parts_of_name directory)) ≡ true =
        and_from (is_no_dot part) (list_all is_no_dot (parts_of_name directory ++ last ∷ [])) no_dot
        (joined_dots (parts_of_name directory) dots) in
        record {
          part = part;
          is = parts.1 (parts_with part (parts_of_name directory)) (ap (kept_parts []) (cut_name directory)
              ∙ kept_again [] (parts_with part (parts_of_name directory))
              (kept_all (parts_with part (parts_of_name directory)) whole plain));
          between = plain;
        }
      where
        joined_dots : (parts : List (List ℕ)) → list_all is_no_dot parts ≡ true → list_all is_no_dot (parts ++ last ∷ []) ≡ true
        joined_dots [] a = refl
        joined_dots (part ∷ parts) a =
            let s = and_parts (is_no_dot part) (list_all is_no_dot parts) a in
            and_from (is_no_dot part) (list_all is_no_dot (parts ++ last ∷ [])) s.0 (joined_dots parts s.1)

    -- in the trees' own directory
    pub named_own : directory ≡ codes "." → IsNamedBy [] name
    unfolding kept_parts
    named_own own =
        let cut : parts_of_name text ≡ [] ∷ part ∷ codes "." ∷ last ∷ [] = cut_name directory
        ∙ ap (λ d. [] ∷ parts_with part (parts_of_name d)) own in
        let between : are_between slash is_plain (part ∷ codes "." ∷ last ∷ []) ≡ true = ap (are_between slash is_plain) (sym cut)
        ∙ parts_are_between slash is_plain text parts.0 in
        record {
          part = part;
          is = parts.1 (parts_with part []) (ap (kept_parts []) cut ∙ ap (option_and_then (λ next. kept_parts next (codes "." ∷ last ∷ [])))
              (with_first part no_dot));
          between = and_from (list_all may_occur part) true
              ((and_parts (list_all may_occur part) (are_between slash is_plain (codes "." ∷ last ∷ [])) between).0) refl;
        }

module _ (files : FileMap) (directory name : List ℕ) where
  abbrev at : List ℕ → Option (List ℕ)
  at tree = result_ok (resolved (makefile_in tree directory))

  abbrev Found : Type 0
  Found = (part : List ℕ) × (is_part part ≡ true) × (resolved (makefile_in (slash ∷ part) directory) ≡ Ok name)

  of_tree : (tree : List ℕ) → is_tree tree ≡ true → resolved (makefile_in tree directory) ≡ Ok name → Found
  of_tree [] a e = absurd cc
  of_tree (first ∷ part) a e =
      let s = and_parts (first == slash) (is_part part) a in
      (part, s.1, ap (λ byte. resolved (makefile_in (byte ∷ part) directory)) (sym (eqb-true first slash s.0)) ∙ e)

  first_found : (there : Bool) (n : List ℕ) (rest : Option (List ℕ)) → cond there (Some n) rest ≡ Some name → (n ≡ name → Found)
      → (rest ≡ Some name → Found) → Found
  first_found true n rest e here more = here cc
  first_found false n rest e here more = more e

  found_by : (tree : List ℕ) (trees : List (List ℕ)) (r : Result (List ℕ) NameFault) → is_tree tree ≡ true
      → resolved (makefile_in tree directory) ≡ r
      → find (contains_key files) (cons_option (result_ok r) (filter_map at trees)) ≡ Some name
      → (find (contains_key files) (filter_map at trees) ≡ Some name → Found) → Found
  found_by tree trees (Err fault) a is e more = more e
  found_by tree trees (Ok n) a is e more = first_found (contains_key files n) n _ e (λ same. of_tree tree a (is ∙ ap Ok same)) more

  -- the makefile that is found for a directory is in one of the trees
  pub in_tree : (trees : List (List ℕ)) → list_all is_tree trees ≡ true → place_among files trees directory ≡ Some name → Found
  in_tree [] a e = absurd cc
  in_tree (tree ∷ trees) a e =
      let s = and_parts (is_tree tree) (list_all is_tree trees) a in
      found_by tree trees (resolved (makefile_in tree directory)) s.0 refl e (in_tree trees s.1)
