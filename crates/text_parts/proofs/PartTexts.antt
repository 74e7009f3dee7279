-- Texts and their parts, which marks separate.
use Rattle.std.proofs.Common.{◌≡◌, ◌∙◌, ap, refl, ℕ, Bool, true, false, not, ◌&&◌, ◌==◌, List, [], ◌∷◌, ◌++◌, append-nil}
use Rattle.std.proofs.lemmas.Bool.{and_parts, and_from, eq-eqb, not-true}
use Rattle.std.proofs.lemmas.List.Folds.{list_all-append}
use Rattle.std.proofs.lemmas.List.Splits.{slice_split-cons_yes, slice_split-cons_no, slice_split_none, slice_split_at}
use Rattle.std.proofs.lemmas.List.Elements.{All-cons, All-nil}
use Rattle.std.specs.List.{list_all, onto_first, slice_split, All}
use Rattle.text_parts.specs.Laws.{is_between, are_between, after_marks, PartsAreBetween, WrittenIsCutAgain, WrittenPartsMayOccur}

-- a byte before the first part
onto_parts : (mark : ℕ) (may_occur : ℕ → Bool) (x : ℕ) (parts : List (List ℕ)) → is_between mark may_occur x ≡ true
    → are_between mark may_occur parts ≡ true
    → are_between mark may_occur (onto_first x parts) ≡ true
onto_parts mark may_occur x [] a b = and_from (list_all (is_between mark may_occur) (x ∷ [])) true
    (and_from (is_between mark may_occur x) true a refl) refl
onto_parts mark may_occur x (part ∷ parts) a b =
    let e = and_parts (list_all (is_between mark may_occur) part) (are_between mark may_occur parts) b in
    and_from (list_all (is_between mark may_occur) (x ∷ part)) (are_between mark may_occur parts)
    (and_from (is_between mark may_occur x) (list_all (is_between mark may_occur) part) a e.0) e.1

pub parts_are_between : PartsAreBetween
parts_are_between mark may_occur [] a = refl
parts_are_between mark may_occur (x ∷ text) a =
    let e = and_parts (may_occur x) (list_all may_occur text) a in
    let parts = slice_split (λ byte. byte == mark) text in
    let rest = parts_are_between mark may_occur text e.1 in
    elim (x == mark) as (λ b. (x == mark) ≡ b → are_between mark may_occur (slice_split (λ byte. byte == mark) (x ∷ text)) ≡ true) [
      | true ↦ λ is. rw (slice_split-cons_yes (λ byte. byte == mark) x text is) rest
      | false ↦ λ is. rw (slice_split-cons_no (λ byte. byte == mark) x text is)
          (onto_parts mark may_occur x parts (and_from (may_occur x) (not (x == mark)) e.0 (ap not is)) rest)
    ] refl

no_mark : (mark : ℕ) (may_occur : ℕ → Bool) (part : List ℕ) → list_all (is_between mark may_occur) part ≡ true
    → All (λ byte. (byte == mark) ≡ false) part
no_mark mark may_occur [] a = All-nil _
no_mark mark may_occur (x ∷ part) a =
    let e = and_parts (is_between mark may_occur x) (list_all (is_between mark may_occur) part) a in
    All-cons (λ byte. (byte == mark) ≡ false) x part (not-true (x == mark) ((and_parts (may_occur x) (not (x == mark)) e.0).1))
    (no_mark mark may_occur part e.1)

pub written_is_cut_again : WrittenIsCutAgain
written_is_cut_again mark may_occur first [] a =
    let e = and_parts (list_all (is_between mark may_occur) first) true a in
    ap (slice_split (λ byte. byte == mark)) (append-nil first) ∙ slice_split_none (λ byte. byte == mark) first
    (no_mark mark may_occur first e.0)
written_is_cut_again mark may_occur first (part ∷ parts) a =
    let e = and_parts (list_all (is_between mark may_occur) first) (are_between mark may_occur (part ∷ parts)) a in
    slice_split_at (λ byte. byte == mark) first mark (part ++ after_marks mark parts)
    (no_mark mark may_occur first e.0) (eq-eqb mark mark refl)
    ∙ ap (λ rest. first ∷ rest) (written_is_cut_again mark may_occur part parts e.1)

stands : (mark : ℕ) (may_occur : ℕ → Bool) (part : List ℕ) → list_all (is_between mark may_occur) part ≡ true
    → list_all may_occur part ≡ true
stands mark may_occur [] a = refl
stands mark may_occur (x ∷ part) a =
    let e = and_parts (is_between mark may_occur x) (list_all (is_between mark may_occur) part) a in
    and_from (may_occur x) (list_all may_occur part) ((and_parts (may_occur x) (not (x == mark)) e.0).0) (stands mark may_occur part e.1)

pub written_parts_may_occur : WrittenPartsMayOccur
written_parts_may_occur mark may_occur first [] may a =
    let e = and_parts (list_all (is_between mark may_occur) first) true a in
    ap (list_all may_occur) (append-nil first) ∙ stands mark may_occur first e.0
written_parts_may_occur mark may_occur first (part ∷ parts) may a =
    let e = and_parts (list_all (is_between mark may_occur) first) (are_between mark may_occur (part ∷ parts)) a in
    list_all-append may_occur first (after_marks mark (part ∷ parts))
    ∙ and_from (list_all may_occur first) (may_occur mark && list_all may_occur (part ++ after_marks mark parts))
    (stands mark may_occur first e.0)
    (and_from (may_occur mark) (list_all may_occur (part ++ after_marks mark parts)) may
    (written_parts_may_occur mark may_occur part parts may e.1))
