-- What holds of every cut, and of texts and their parts.
use Rattle.std.specs.Prelude.{◌≡◌, ℕ, ◌==◌, ◌&&◌, not, Bool, true, List, ◌∷◌, ◌++◌, Some}
use Rattle.std.specs.List.{list_all, slice_split, flat_map}
use Rattle.text_parts.specs.Cuts.{Cut, cut_where}

-- the two parts of a cut, with the mark put between them, are the text again
abbrev pub CutIsItsText : Type 0
CutIsItsText = (mark : ℕ) (test : List ℕ → Bool) (text : List ℕ) (cut : Cut) → cut_where mark test text ≡ Some cut
    → text ≡ cut.before ++ mark ∷ cut.behind

-- a byte between marks: an allowed byte that isn't a mark
abbrev pub is_between : ℕ → (ℕ → Bool) → ℕ → Bool
is_between mark may_occur byte = may_occur byte && not (byte == mark)

-- texts of such bytes
abbrev pub are_between : ℕ → (ℕ → Bool) → List (List ℕ) → Bool
are_between mark may_occur parts = list_all (list_all (is_between mark may_occur)) parts

-- each part after a mark
abbrev pub after_marks : ℕ → List (List ℕ) → List ℕ
after_marks mark parts = flat_map (λ part. mark ∷ part) parts

-- if all bytes of a text are allowed, so are the bytes of its parts, and none of these is a mark
abbrev pub PartsAreBetween : Type 0
PartsAreBetween = (mark : ℕ) (may_occur : ℕ → Bool) (text : List ℕ) → list_all may_occur text ≡ true
    → are_between mark may_occur (slice_split (λ byte. byte == mark) text) ≡ true

-- parts that are written with marks between, and no mark before the first, are cut into the same parts
-- again
abbrev pub WrittenIsCutAgain : Type 0
WrittenIsCutAgain =
    (mark : ℕ) (may_occur : ℕ → Bool) (first : List ℕ) (parts : List (List ℕ))
    → are_between mark may_occur (first ∷ parts) ≡ true
    → slice_split (λ byte. byte == mark) (first ++ after_marks mark parts) ≡ first ∷ parts

-- if a mark is allowed, so are all bytes of such a text
abbrev pub WrittenPartsMayOccur : Type 0
WrittenPartsMayOccur = (mark : ℕ) (may_occur : ℕ → Bool) (first : List ℕ) (parts : List (List ℕ)) → may_occur mark ≡ true
    → are_between mark may_occur (first ∷ parts) ≡ true → list_all may_occur (first ++ after_marks mark parts) ≡ true
