-- What becomes of pairs as the paths of one name change.
use Rattle.std.proofs.Common.{◌≡◌, ◌∙◌, ap, sym, refl, ℕ, Bool, true, false, cond, ◌&&◌, ◌||◌, List, [], ◌∷◌, map, string_bytes, Option}
use Rattle.std.proofs.Common.{Some, None, String, Global}
use Rattle.std.proofs.lemmas.Bool.{false≢true}
use Rattle.std.proofs.lemmas.Map.Text.{is_eq-slice_cmp}
use Rattle.std.proofs.lemmas.Slice.Eq.{bytes_eq-Decides}
use Rattle.std.specs.BTreeSet.{BTreeSet, contains_text, keys}
use Rattle.std.specs.Cmp.Lexicographic.{slice_cmp}
use Rattle.std.specs.List.{list_any}
use Rattle.std.specs.Prelude.{Result, Ok, Err, OnOk, OnErr}
use Rattle.std.specs.Ordering.{is_eq, nat_cmp}
use Rattle.std.specs.Str.{bytes_eq}
use Rattle.general_facts.specs.Lists.{list_any-map}
use Rattle.std.proofs.lemmas.Cmp.{nat_list_eq_equiv}
use Rattle.port_index.specs.FilledRows.{is_one_of}
use Rattle.port_index.specs.AskedNames.{Notes, KeepsNotes, KeepsOtherNotes, is_in, asks_in, asks_one_of}
use Rattle.port_index.specs.declared.noted_rows.KnownRow.{KnownRow}

pub cond-or : (a b : Bool) → cond a true b ≡ (a || b)
cond-or true b = refl
cond-or false b = refl

-- an empty set has no text
pub none-in-empty : (texts : BTreeSet (String Global)) → keys texts ≡ [] → (text : List ℕ) → contains_text texts text ≡ false
none-in-empty texts none text = ap (list_any (λ (one : String Global). is_eq (slice_cmp nat_cmp text (string_bytes one)))) none

abbrev Paths : Type 0
Paths = Option (BTreeSet (String Global))

abbrev pub Changed : List ℕ → Paths → (List ℕ → Paths) → (List ℕ → Paths) → Type 0
Changed name paths old new = (one : List ℕ) → new one ≡ cond (bytes_eq name one) paths (old one)

module _ (name : List ℕ) (paths : Paths) (old new : List ℕ → Paths) (changed : Changed name paths old new) where
  at : (one other : List ℕ) (same : Bool) → bytes_eq name one ≡ same
      → is_in (new one) other ≡ cond same (is_in paths other) (is_in (old one) other)
  at one other true is = ap (λ p. is_in p other) (changed one ∙ ap (λ b. cond b paths (old one)) is)
  at one other false is = ap (λ p. is_in p other) (changed one ∙ ap (λ b. cond b paths (old one)) is)

  more_by : (path one other : List ℕ) (same : Bool) → bytes_eq name one ≡ same
      → ((q : List ℕ) → is_in paths q ≡ (bytes_eq path q || is_in (old name) q))
      → is_in (new one) other ≡ ((same && bytes_eq path other) || is_in (old one) other)
  more_by path one other true is has =
      at one other true is ∙ has other ∙ ap (λ p. bytes_eq path other || is_in (old p) other) ((bytes_eq-Decides name one).0 is)
  more_by path one other false is has = at one other false is

  -- the paths of the name have one more
  pub noted-more : (path : List ℕ) → ((q : List ℕ) → is_in paths q ≡ (bytes_eq path q || is_in (old name) q))
      → (one other : List ℕ) → is_in (new one) other ≡ ((bytes_eq name one && bytes_eq path other) || is_in (old one) other)
  noted-more path has one other = more_by path one other (bytes_eq name one) refl has

  less_by : (path one other : List ℕ) (same : Bool) → bytes_eq name one ≡ same
      → ((q : List ℕ) → is_in paths q ≡ cond (bytes_eq path q) false (is_in (old name) q))
      → is_in (new one) other ≡ cond (same && bytes_eq path other) false (is_in (old one) other)
  less_by path one other true is has =
      at one other true is ∙ has other ∙ ap (λ p. cond (bytes_eq path other) false (is_in (old p) other)) ((bytes_eq-Decides name one).0 is)
  less_by path one other false is has = at one other false is

  -- they have one fewer
  pub noted-less : (path : List ℕ) → ((q : List ℕ) → is_in paths q ≡ cond (bytes_eq path q) false (is_in (old name) q))
      → (one other : List ℕ) → is_in (new one) other ≡ cond (bytes_eq name one && bytes_eq path other) false (is_in (old one) other)
  noted-less path has one other = less_by path one other (bytes_eq name one) refl has

  same_by : (one other : List ℕ) (same : Bool) → bytes_eq name one ≡ same
      → ((q : List ℕ) → is_in paths q ≡ is_in (old name) q) → is_in (new one) other ≡ is_in (old one) other
  same_by one other true is has = at one other true is ∙ has other ∙ ap (λ p. is_in (old p) other) ((bytes_eq-Decides name one).0 is)
  same_by one other false is has = at one other false is

  -- they have the same
  pub noted-same : ((q : List ℕ) → is_in paths q ≡ is_in (old name) q)
      → (one other : List ℕ) → is_in (new one) other ≡ is_in (old one) other
  noted-same has one other = same_by one other (bytes_eq name one) refl has

-- what a call leaves, whether it fails or not
pub by_result : {T E G P Q : Type 0} (result : Result T E) → OnOk result P → OnErr result Q → (P → G) → (Q → G) → G
by_result (Ok value) done failed f g = f done
by_result (Err error) done failed f g = g failed

-- ---- notes that rows keep

-- a row is put, and its path is noted with its names
module _ (key : List ℕ) (row : KnownRow) (old new : List ℕ → Option KnownRow) (was is : Notes)
    (put : (path : List ℕ) → new path ≡ cond (bytes_eq key path) (Some row) (old path))
    (noted : (name : List ℕ) → asks_in (Some row) name ≡ true → is name key ≡ true) (stays : KeepsNotes was is)
    (before : (name path : List ℕ) → asks_in (old path) name ≡ true → was name path ≡ true) where
  put_by : (name path : List ℕ) (same : Bool) → bytes_eq key path ≡ same → asks_in (new path) name ≡ true → is name path ≡ true
  put_by name path true e asks =
      ap (is name) (sym ((bytes_eq-Decides key path).0 e))
      ∙ noted name (sym (ap (λ found. asks_in found name) (put path ∙ ap (λ b. cond b (Some row) (old path)) e)) ∙ asks)
  put_by name path false e asks =
      stays name path (before name path (sym (ap (λ found. asks_in found name) (put path ∙ ap (λ b. cond b (Some row) (old path)) e))
      ∙ asks))

  pub put-noted : (name path : List ℕ) → asks_in (new path) name ≡ true → is name path ≡ true
  put-noted name path asks = put_by name path (bytes_eq key path) refl asks

-- a row is taken out, and other paths stay noted
module _ (key : List ℕ) (old new : List ℕ → Option KnownRow) (was is : Notes)
    (taken : (path : List ℕ) → new path ≡ cond (bytes_eq key path) None (old path)) (stays : KeepsOtherNotes key was is)
    (before : (name path : List ℕ) → asks_in (old path) name ≡ true → was name path ≡ true) where
  taken_by : (name path : List ℕ) (same : Bool) → bytes_eq key path ≡ same → asks_in (new path) name ≡ true → is name path ≡ true
  taken_by name path true e asks =
      absurd (false≢true (sym (ap (λ found. asks_in found name) (taken path ∙ ap (λ b. cond b None (old path)) e)) ∙ asks))
  taken_by name path false e asks =
      stays name path e (before name path (sym (ap (λ found. asks_in found name) (taken path ∙ ap (λ b. cond b None (old path)) e)) ∙ asks))

  pub taken-noted : (name path : List ℕ) → asks_in (new path) name ≡ true → is name path ≡ true
  taken-noted name path asks = taken_by name path (bytes_eq key path) refl asks

or_true : (b : Bool) → (b || true) ≡ true
or_true true = refl
or_true false = refl

-- a path that is noted with one more name keeps the others
module _ (name path : List ℕ) (old new : Notes)
    (more : (one other : List ℕ) → new one other ≡ ((bytes_eq name one && bytes_eq path other) || old one other)) where
  pub more-stays : (one other : List ℕ) → old one other ≡ true → new one other ≡ true
  more-stays one other was =
      more one other ∙ ap (λ b. (bytes_eq name one && bytes_eq path other) || b) was ∙ or_true (bytes_eq name one && bytes_eq path other)

  pub more-noted : (one : List ℕ) → bytes_eq name one ≡ true → new one path ≡ true
  more-noted one same =
      more one path ∙ ap (λ b. (b && bytes_eq path path) || old one path) same
      ∙ ap (λ b. b || old one path) ((bytes_eq-Decides path path).1 refl)

  pub more-by : (one : List ℕ) (before now : Bool) → (before || now) ≡ true → (before ≡ true → old one path ≡ true)
      → bytes_eq name one ≡ now → new one path ≡ true
  more-by one true now e was same = more-stays one path (was refl)
  more-by one false true e was same = more-noted one same
  more-by one false false e was same = absurd (false≢true e)

-- ---- the paths that are found

-- the next path asks, and is added
pub step-asked : (found left same asks : Bool) → (same ≡ true → asks ≡ true)
    → ((found || (same || false)) || (left && asks)) ≡ (found || ((same || left) && asks))
step-asked true left same asks h = refl
step-asked false left true asks h = sym (h refl)
step-asked false left false asks h = refl

-- none is left
pub or-none : (b : Bool) → (b || false) ≡ b
or-none true = refl
or-none false = refl

-- ---- one of some names is one of others

none_any : {X : Type 0} (xs : List X) → list_any (λ x. false) xs ≡ false
none_any [] = refl
none_any (x ∷ xs) = none_any xs

or_turned : (a b c d : Bool) → ((a || b) || (c || d)) ≡ ((a || c) || (b || d))
or_turned true b c d = refl
or_turned false true true d = refl
or_turned false true false d = refl
or_turned false false c d = refl

any_or : {X : Type 0} (p q : X → Bool) (xs : List X) → list_any (λ x. p x || q x) xs ≡ (list_any p xs || list_any q xs)
any_or p q [] = refl
any_or p q (x ∷ xs) = ap (λ b. (p x || q x) || b) (any_or p q xs) ∙ or_turned (p x) (q x) (list_any p xs) (list_any q xs)

any_swap : {X Y : Type 0} (t : X → Y → Bool) (xs : List X) (ys : List Y)
    → list_any (λ y. list_any (λ x. t x y) xs) ys ≡ list_any (λ x. list_any (t x) ys) xs
any_swap t xs [] = sym (none_any xs)
any_swap t xs (y ∷ ys) =
    ap (λ b. list_any (λ x. t x y) xs || b) (any_swap t xs ys)
    ∙ sym (any_or (λ x. t x y) (λ x. list_any (t x) ys) xs)

none_asks : (names : List (String Global)) → list_any (λ (name : String Global). false) names ≡ false
none_asks [] = refl
none_asks (name ∷ names) = none_asks names

tied : (names : BTreeSet (String Global)) (text : String Global)
    → list_any (λ (name : String Global). bytes_eq (string_bytes text) (string_bytes name)) (keys names) ≡ contains_text
    names (string_bytes text)
tied names text =
    ap (λ (p : String Global → Bool). list_any p (keys names))
    (λ i (name : String Global). sym (is_eq-slice_cmp (string_bytes text) (string_bytes name)) i)

-- a row asks for one of some names exactly if one of its names is among them
pub asks-one : (names : BTreeSet (String Global)) (row : Option KnownRow)
    → list_any (λ (name : String Global). asks_in row (string_bytes name)) (keys names) ≡ asks_one_of (contains_text names) row
asks-one names None = none_asks (keys names)
asks-one names (Some row) =
    any_swap (λ (one name : String Global). bytes_eq (string_bytes one) (string_bytes name)) row.names.items (keys names)
    ∙ ap (λ (p : String Global → Bool). list_any p row.names.items) (λ i (one : String Global). tied names one i)

tie : (path : List ℕ) → ◌≡◌ {A = List ℕ → Bool} (λ one. is_eq (slice_cmp nat_cmp path one)) (λ one. bytes_eq one path)
tie path i one = (is_eq-slice_cmp path one ∙ nat_list_eq_equiv.symm path one) i

-- a text is in a set if it is one of its keys
pub contains-key : (texts : BTreeSet (String Global)) (path : List ℕ) → is_one_of path (map string_bytes (keys texts)) ≡
    contains_text texts path
contains-key texts path =
    ap (λ (p : List ℕ → Bool). list_any p (map string_bytes (keys texts))) (sym (tie path))
    ∙ list_any-map (λ one. is_eq (slice_cmp nat_cmp path one)) string_bytes (keys texts)
