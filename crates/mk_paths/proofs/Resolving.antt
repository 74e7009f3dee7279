-- A resolved name is its own resolved name.
use Rattle.std.proofs.Common.{◌≡◌, ◌∙◌, sym, ap, subst, refl, ℕ, Bool, true, false, cond, ◌&&◌, ◌||◌, not, ◌-◌, eqb, List, [], ◌∷◌, ◌++◌}
use Rattle.std.proofs.Common.{length, take, drop, get_or, Option, Some, None, Ok, Err, codes, arith, append_assoc}
use Rattle.std.proofs.lemmas.Bool.{and_parts, and_from}
use Rattle.std.proofs.lemmas.Grind.{common_steps}
use Rattle.std.proofs.lemmas.List.{append-nil, take-append-drop}
use Rattle.std.proofs.lemmas.List.Folds.{list_all-append}
use Rattle.text_parts.specs.Laws.{is_between, are_between}
use Rattle.text_parts.proofs.PartTexts.{parts_are_between, written_is_cut_again, written_parts_may_occur}
use Rattle.std.specs.List.{list_all}
use Rattle.std.specs.Option.{option_and_then}
use Rattle.std.specs.Str.{bytes_eq}
use Rattle.general_facts.specs.Ascii.{slash}
use Rattle.mk_paths.specs.FileName.{is_plain, parts_of_name, kept_parts, with_part, without_last, with_slashes, name_of_parts, resolved}
use Rattle.mk_paths.specs.FileName.{IsResolved}
use Rattle.mk_paths.specs.declared.file_name.NameFault.TheVariants.{BadName}

-- a byte between slashes
abbrev pub may_occur : ℕ → Bool
may_occur = is_between slash is_plain

-- a part that is kept as it is
abbrev pub is_kept : List ℕ → Bool
is_kept part = (not (bytes_eq part []) && not (bytes_eq part (codes ".")) && not (bytes_eq part (codes ".."))) && list_all may_occur part

list_all-take : {X : Type 0} (p : X → Bool) (n : ℕ) (xs : List X) → list_all p xs ≡ true → list_all p (take n xs) ≡ true
list_all-take p n xs a =
    (and_parts (list_all p (take n xs)) (list_all p (drop n xs)) (sym (list_all-append p (take n xs) (drop n xs))
    ∙ ap (list_all p) (take-append-drop n xs) ∙ a)).0

-- the parts that are left

last_off : (none : Bool) (kept next : List (List ℕ)) → cond none None (Some kept) ≡ Some next → kept ≡ next
last_off true kept next e = cc
last_off false kept next e = cc

stands : (a b c d : Bool) → (a || b) ≡ false → c ≡ false → d ≡ true → ((not a && not b && not c) && d) ≡ true
stands a b c d p q r = grind (arith, common_steps)

tests_of : (a b c d : Bool) → ((not a && not b && not c) && d) ≡ true → ((a || b) ≡ false) × (c ≡ false) × (d ≡ true)
tests_of a b c d e = grind (arith, common_steps)

keeps_by : (dot up : Bool) (kept : List (List ℕ)) (part : List ℕ) (next : List (List ℕ)) → list_all is_kept kept ≡ true
    → (dot ≡ false → up ≡ false → is_kept part ≡ true)
    → cond dot (Some kept) (cond up (without_last kept) (Some (kept ++ part ∷ []))) ≡ Some next → list_all is_kept next ≡ true
keeps_by true up kept part next a b e =
    let same : kept ≡ next = cc in
    subst (λ parts. list_all is_kept parts ≡ true) same a
keeps_by false true kept part next a b e =
    subst (λ parts. list_all is_kept parts ≡ true) (last_off _ _ next e) (list_all-take is_kept (length kept - 1) kept a)
keeps_by false false kept part next a b e =
    let same : kept ++ part ∷ [] ≡ next = cc in
    subst (λ parts. list_all is_kept parts ≡ true) same (list_all-append is_kept kept (part ∷ [])
    ∙ and_from (list_all is_kept kept) (list_all is_kept (part ∷ [])) a (and_from (is_kept part) true (b refl refl) refl))

keeps : (kept : List (List ℕ)) (part : List ℕ) (next : List (List ℕ)) → list_all is_kept kept ≡ true → list_all may_occur part ≡ true
    → with_part kept part ≡ Some next → list_all is_kept next ≡ true
keeps kept part next a b e =
    keeps_by (bytes_eq part [] || bytes_eq part (codes ".")) (bytes_eq part (codes "..")) kept part next a
    (λ p q. stands (bytes_eq part []) (bytes_eq part (codes ".")) (bytes_eq part (codes "..")) (list_all may_occur part) p q b) e

pub kept_stand : (kept parts next : List (List ℕ)) → list_all is_kept kept ≡ true → list_all (list_all may_occur) parts ≡ true
    → kept_parts kept parts ≡ Some next → list_all is_kept next ≡ true
unfolding kept_parts
kept_stand kept [] next a b e =
    let same : kept ≡ next = cc in
    subst (λ parts. list_all is_kept parts ≡ true) same a
kept_stand kept (part ∷ parts) next a b e =
    let t = and_parts (list_all may_occur part) (list_all (list_all may_occur) parts) b in
    elim (with_part kept part) as (λ o. with_part kept part ≡ o → option_and_then (λ more. kept_parts more parts) o ≡ Some next
    → list_all is_kept next ≡ true) [
      | None ↦ λ is none. cc
      | Some more ↦ λ is some. kept_stand more parts next (keeps kept part more a t.0 is) t.1 some
    ] refl e

with_kept : (kept : List (List ℕ)) (part : List ℕ) → is_kept part ≡ true → with_part kept part ≡ Some (kept ++ part ∷ [])
with_kept kept part a =
    let t = tests_of (bytes_eq part []) (bytes_eq part (codes ".")) (bytes_eq part (codes "..")) (list_all may_occur part) a in
    ap (λ b. cond b (Some kept) (cond (bytes_eq part (codes "..")) (without_last kept) (Some (kept ++ part ∷ [])))) t.0
    ∙ ap (λ b. cond b (without_last kept) (Some (kept ++ part ∷ []))) t.1

pub kept_again : (kept parts : List (List ℕ)) → list_all is_kept parts ≡ true → kept_parts kept parts ≡ Some (kept ++ parts)
unfolding kept_parts
kept_again kept [] a = ap Some (sym (append-nil kept))
kept_again kept (part ∷ parts) a =
    let e = and_parts (is_kept part) (list_all is_kept parts) a in
    ap (option_and_then (λ next. kept_parts next parts)) (with_kept kept part e.0) ∙ kept_again (kept ++ part ∷ []) parts e.1
    ∙ ap Some (append_assoc kept (part ∷ []) parts)

-- joined parts, cut again

stand : (parts : List (List ℕ)) → list_all is_kept parts ≡ true → are_between slash is_plain parts ≡ true
stand [] a = refl
stand (part ∷ parts) a =
    let e = and_parts (is_kept part) (list_all is_kept parts) a in
    and_from (list_all may_occur part) (are_between slash is_plain parts) ((and_parts _ (list_all may_occur part) e.0).1) (stand parts e.1)

ok_of : (test : Bool) (wanted name : List ℕ) → cond test (Ok wanted) (Err BadName) ≡ Ok name → name ≡ wanted
ok_of true wanted name e = cc
ok_of false wanted name e = cc

resolved_of : (first plain : Bool) (parts : Option (List (List ℕ))) (name : List ℕ)
    → cond (first && plain) (name_of_parts parts) (Err BadName) ≡ Ok name
    → (plain ≡ true) × (kept : List (List ℕ)) × (parts ≡ Some kept) × (name ≡ with_slashes kept) × (name_of_parts (Some kept) ≡ Ok name)
resolved_of false plain parts name e = absurd cc
resolved_of true false parts name e = absurd cc
resolved_of true true None name e = absurd cc
resolved_of true true (Some kept) name e = (refl, kept, refl, ok_of _ (with_slashes kept) name e, e)

again : (kept : List (List ℕ)) (name : List ℕ) → list_all is_kept kept ≡ true → name ≡ with_slashes kept
    → name_of_parts (Some kept) ≡ Ok name → IsResolved name
unfolding kept_parts
again [] name a same e = absurd cc
again (part ∷ parts) name a same e =
    let text = with_slashes (part ∷ parts) in
    let cut : parts_of_name text ≡ [] ∷ part ∷ parts = written_is_cut_again slash is_plain [] (part ∷ parts) (stand (part ∷ parts) a) in
    let kept : kept_parts [] (parts_of_name text) ≡ Some (part ∷ parts) = ap (kept_parts []) cut ∙ kept_again [] (part ∷ parts) a in
    let here : resolved text ≡ Ok name =
    ap (λ b. cond b (name_of_parts (kept_parts [] (parts_of_name text))) (Err BadName))
    (written_parts_may_occur slash is_plain [] (part ∷ parts) refl (stand (part ∷ parts) a)) ∙ ap name_of_parts kept ∙ e in
    record { itself = subst (λ bytes. resolved bytes ≡ Ok name) (sym same) here }

-- what a text names is a name that names itself
pub resolved-IsResolved : (text name : List ℕ) → resolved text ≡ Ok name → IsResolved name
resolved-IsResolved text name e =
    let r = resolved_of (eqb (get_or text 0 0) 47) (list_all is_plain text) (kept_parts [] (parts_of_name text)) name e in
    again r.1 name (kept_stand [] (parts_of_name text) r.1 refl (parts_are_between slash is_plain text r.0) r.2) r.3 r.4
