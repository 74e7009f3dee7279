-- How many files a map has, and how many bytes, after a change.
use Rattle.std.proofs.Common.{◌≡◌, ℕ, ◌+◌, ◌≤◌, Bool, true, false, cond, List, [], ◌∷◌, length, map, Option, None, Some, is_some, Ordering}
use Rattle.std.proofs.Common.{Less, Equal, Greater, is_eq, T, refl, sym, ap, subst, ◌∙◌, arith}
use Rattle.std.specs.Prelude.{option_map, unwrap_or, sum_by}
use Rattle.std.specs.Ordering.{nat_cmp, eq_by_cmp}
use Rattle.std.specs.Cmp.Lexicographic.{slice_cmp, nat_list_cmp_total}
use Rattle.std.specs.FinMap as finite
use Rattle.std.specs.FinMap.Entries as entries
use Rattle.std.proofs.lemmas.Cmp.{tied_itself}
use Rattle.std.proofs.lemmas.List.Sums.{sum_by-cons}
use Rattle.std.proofs.lemmas.List.{nil_from_length}
use Rattle.general_facts.specs.Bools.{Equal_from_is_eq, Less_from_is_lt, T-left, T-right}
use Rattle.general_facts.specs.Maps.{same_map}
use Rattle.mk_paths.specs.World.{FileMap}
use Rattle.mk_files.specs.Limits.{bytes_of, files_with, bytes_with}
use Rattle.tenant_store.specs.Holdings.{map_of}

abbrev cmp : List ℕ → List ℕ → Ordering
cmp = slice_cmp nat_cmp

abbrev Entry : Type 0
Entry = List ℕ × List ℕ

abbrev total : List Entry → ℕ
total es = sum_by length (map (λ (e : Entry). e.1) es)

-- without a file the map is empty
pub no_files : map_of [] ≡ finite.empty
no_files = refl

pub bytes_of-empty : bytes_of finite.empty ≡ 0
bytes_of-empty =
    ap total (nil_from_length (finite.entries finite.empty) (sym (finite.len-entries finite.empty) ∙ finite.len-empty cmp (List ℕ)))

-- what is below all keys isn't found
not_found : (k x : List ℕ) (es : List Entry) → cmp k x ≡ Less → T (entries.below_all cmp x es) → entries.find cmp k es ≡ None
not_found k x [] low h = refl
not_found k x (e ∷ es) low h =
    let lower = nat_list_cmp_total.trans k x e.0 low (Less_from_is_lt _ (T-left _ _ h)) in
    ap (λ o. cond (is_eq o) (Some e.1) (entries.find cmp k es)) lower ∙ not_found k x es low (T-right _ _ h)

abbrev old_length : Option (List ℕ) → ℕ
old_length found = unwrap_or (option_map length found) 0

total-cons : (e : Entry) (es : List Entry) → total (e ∷ es) ≡ length e.1 + total es
total-cons e es = sum_by-cons length e.1 (map (λ (x : Entry). x.1) es)

-- an entry that is put in adds its bytes, less those of the one that it replaces
put_total : (k v : List ℕ) (es : List Entry) → T (entries.is_sorted cmp es)
    → total (entries.put cmp k v es) + old_length (entries.find cmp k es) ≡ total es + length v
put_total k v [] h = omega (arith, total-cons (k, v) [])
put_total k v (e ∷ es) h = go (cmp k e.0) refl (put_total k v es (T-right _ _ h))
  where
    go : (o : Ordering) → cmp k e.0 ≡ o → total (entries.put cmp k v es) + old_length (entries.find cmp k es) ≡ total es + length v
        → total (entries.by_order o ((k, v) ∷ e ∷ es) ((e.0, v) ∷ es) (e ∷ entries.put cmp k v es)) + old_length
        (cond (is_eq o) (Some e.1) (entries.find cmp k es)) ≡ total (e ∷ es) + length v
    go Less is more =
        let none = not_found k e.0 es is (T-left _ _ h) in
        let all : total ((k, v) ∷ e ∷ es) + 0 ≡ total (e ∷ es) + length v = omega (arith, total-cons (k, v) (e ∷ es)) in
        ap (λ o. total ((k, v) ∷ e ∷ es) + old_length o) none ∙ all
    go Equal is more =
        let all : total ((e.0, v) ∷ es) + length e.1 ≡ total (e ∷ es) + length v =
        omega (arith, total-cons (e.0, v) es, total-cons e es) in all
    go Greater is more =
        let all : total (e ∷ entries.put cmp k v es) + old_length (entries.find cmp k es) ≡ total (e ∷ es) + length v =
        omega (arith, more, total-cons e (entries.put cmp k v es), total-cons e es) in all

-- a file is no longer than all together
found_within : (k : List ℕ) (es : List Entry) → old_length (entries.find cmp k es) ≤ total es
found_within k [] = omega arith
found_within k (e ∷ es) = go (is_eq (cmp k e.0)) (found_within k es)
  where
    go : (b : Bool) → old_length (entries.find cmp k es) ≤ total es
        → old_length (cond b (Some e.1) (entries.find cmp k es)) ≤ total (e ∷ es)
    go true h = omega (arith, total-cons e es)
    go false h = omega (arith, total-cons e es)

pub within_bytes : (files : FileMap) (name : List ℕ) → unwrap_or (option_map length (finite.get files name)) 0 ≤ bytes_of files
within_bytes files name = subst (λ (o : Option (List ℕ)). old_length o ≤ bytes_of files) (sym (finite.get-entries files name))
    (found_within name (finite.entries files))

pub bytes_of-insert : (files : FileMap) (name content : List ℕ)
    → bytes_of (finite.insert files name content) ≡ bytes_with (bytes_of files) (option_map length (finite.get files name)) (length content)
bytes_of-insert files name content =
    let put = ap total (finite.entries-insert nat_list_cmp_total files name content) in
    let sum = put_total name content (finite.entries files) (finite.entries_sorted files) in
    let found = ap old_length (finite.get-entries files name) in
    let low = within_bytes files name in omega (arith, put, sum, found, low)

pub len-insert_with : (files : FileMap) (name content : List ℕ)
    → finite.len (finite.insert files name content) ≡ files_with (finite.len files) (option_map length (finite.get files name))
len-insert_with files name content =
    finite.len-insert nat_list_cmp_total files name content
    ∙ elim (finite.get files name) as (λ o. cond (is_some o) (finite.len files) (finite.len files + 1)
    ≡ files_with (finite.len files) (option_map length o)) [ None ↦ refl | Some c ↦ refl ]

-- a file that is there is one that was put in beside the others
put_back : (files : FileMap) (name content : List ℕ) → finite.get files name ≡ Some content
    → finite.insert (finite.remove files name) name content ≡ files
put_back files name content there = same_map _ _ (λ q.
    finite.get-insert nat_list_cmp_total (finite.remove files name) name content q
    ∙ elim (eq_by_cmp cmp q name) as (λ b. eq_by_cmp cmp q name ≡ b
    → cond b (Some content) (finite.get (finite.remove files name) q) ≡ finite.get files q) [
      | true ↦ λ is. sym there ∙ finite.get_tied nat_list_cmp_total files q name (Equal_from_is_eq _ is)
      | false ↦ λ is. finite.get-remove nat_list_cmp_total files name q ∙ ap (λ b. cond b None (finite.get files q)) is
    ] refl)

gone : (files : FileMap) (name : List ℕ) → finite.get (finite.remove files name) name ≡ None
gone files name =
    finite.get-remove nat_list_cmp_total files name name
    ∙ ap (λ o. cond (is_eq o) None (finite.get files name)) (tied_itself nat_list_cmp_total name)

-- a file that is taken out takes its bytes with it
pub bytes_of-remove : (files : FileMap) (name content : List ℕ) → finite.get files name ≡ Some content
    → bytes_of (finite.remove files name) + length content ≡ bytes_of files
bytes_of-remove files name content there =
    let back = ap bytes_of (put_back files name content there) in
    let both = bytes_of-insert (finite.remove files name) name content in
    let none = ap old_length (gone files name) in
    omega (arith, back, both, none)

pub len-remove_there : (files : FileMap) (name content : List ℕ) → finite.get files name ≡ Some content
    → finite.len (finite.remove files name) + 1 ≡ finite.len files
len-remove_there files name content there =
    sym (ap (λ o. cond (is_some o) (finite.len (finite.remove files name)) (finite.len (finite.remove files name) + 1)) (gone files name))
    ∙ sym (finite.len-insert nat_list_cmp_total (finite.remove files name) name content) ∙ ap finite.len (put_back files name content there)

-- taking out a file that isn't there changes nothing
pub remove_absent : (files : FileMap) (name : List ℕ) → finite.contains_key files name ≡ false → finite.remove files name ≡ files
remove_absent files name absent = same_map _ _ (λ q. finite.get-remove nat_list_cmp_total files name q ∙ go q (cmp q name) refl)
  where
    none_is : (o : Option (List ℕ)) → is_some o ≡ false → o ≡ None
    none_is None e = refl
    none_is (Some c) e = absurd cc

    go : (q : List ℕ) (o : Ordering) → cmp q name ≡ o → cond (is_eq o) None (finite.get files q) ≡ finite.get files q
    go q Less is = refl
    go q Greater is = refl
    go q Equal is = sym (none_is _ absent) ∙ finite.get_tied nat_list_cmp_total files q name is
