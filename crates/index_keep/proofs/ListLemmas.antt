-- Lists of names and paths.
use Rattle.std.proofs.Common.{◌≡◌, ◌∙◌, sym, ap, refl, ℕ, ◌+◌, ◌<◌, Bool, true, false, ◌||◌, ◌&&◌, not, if◌then◌else◌, List, [], ◌∷◌, ◌++◌}
use Rattle.std.proofs.Common.{map, take, length, get_or, Option, Some, None, is_none, is_some, option_map, String, string_bytes, Global}
use Rattle.std.proofs.lemmas.Bool.{false≢true}
use Rattle.std.proofs.lemmas.List.{take_more}
use Rattle.std.proofs.lemmas.List.Folds.{list_any_at}
use Rattle.std.proofs.lemmas.Slice.Eq.{bytes_eq-Decides}
use Rattle.std.specs.List.{list_any}
use Rattle.std.specs.Str.{bytes_eq}
use Rattle.port_index.specs.FilledRows.{is_one_of}
use Rattle.index_keep.proofs.SortLemmas.{one_of-append, or-none}

pub list_any-map : {X Y : Type 0} (test : Y → Bool) (f : X → Y) (xs : List X) → list_any test (map f xs) ≡ list_any (λ x. test (f x)) xs
list_any-map test f [] = refl
list_any-map test f (x ∷ xs) = ap (λ b. test (f x) || b) (list_any-map test f xs)

pub map-append : {X Y : Type 0} (f : X → Y) (xs ys : List X) → map f (xs ++ ys) ≡ map f xs ++ map f ys
map-append f [] ys = refl
map-append f (x ∷ xs) ys = ap (λ rest. f x ∷ rest) (map-append f xs ys)

-- one of the texts up to the next place
pub one_of-more : (texts : List (String Global)) (place : ℕ) (text : String Global) (name : List ℕ) → place < length texts
    → text ≡ get_or texts place text
    → is_one_of name (map string_bytes (take (place + 1) texts)) ≡ (is_one_of name (map string_bytes (take place texts)) || bytes_eq
    (string_bytes text) name)
one_of-more texts place text name inside is =
    ap (λ ts. is_one_of name (map string_bytes ts)) (take_more texts place text inside ∙ ap (λ t. take place texts ++ t ∷ []) (sym is))
    ∙ ap (is_one_of name) (map-append string_bytes (take place texts) (text ∷ []))
    ∙ one_of-append name (map string_bytes (take place texts)) (string_bytes text ∷ [])
    ∙ ap (λ b. is_one_of name (map string_bytes (take place texts)) || b) (or-none (bytes_eq (string_bytes text) name))

step : (added a same t before : Bool) → before ≡ (a && t) → (same ≡ true → t ≡ added)
    → (if added then before || same else before) ≡ ((a || same) && t)
step true true true true before was is = ap (λ b. b || true) was
step true true true false before was is = absurd (false≢true (is refl))
step true true false t before was is = ap (λ b. b || false) was ∙ or-none t
step true false true true before was is = ap (λ b. b || true) was
step true false true false before was is = absurd (false≢true (is refl))
step true false false t before was is = ap (λ b. b || false) was
step false true true true before was is = absurd (false≢true (sym (is refl)))
step false true true false before was is = was
step false true false t before was is = was
step false false true true before was is = absurd (false≢true (sym (is refl)))
step false false true false before was is = was
step false false false t before was is = was

one_of-end : (path p : List ℕ) (paths : List (List ℕ)) → is_one_of path (paths ++ p ∷ []) ≡ (is_one_of path paths || bytes_eq p path)
one_of-end path p paths = one_of-append path paths (p ∷ []) ∙ ap (λ b. is_one_of path paths || b) (or-none (bytes_eq p path))

added_at : (others : List (List ℕ)) (p path : List ℕ) (added : Bool)
    → is_one_of path (if added then others ++ p ∷ [] else others) ≡ (if added then is_one_of path others || bytes_eq p path
    else is_one_of path others)
added_at others p path true = one_of-end path p others
added_at others p path false = refl

-- those of some paths that pass a test, with the next path
pub chosen-more : (chosen passed : List (List ℕ)) (test : List ℕ → Bool) (p : List ℕ) (added : Bool) → test p ≡ added
    → ((path : List ℕ) → is_one_of path chosen ≡ (is_one_of path passed && test path))
    → (path : List ℕ) → is_one_of path (if added then chosen ++ p ∷ [] else chosen) ≡ (is_one_of path (passed ++ p ∷ []) && test path)
chosen-more chosen passed test p added is were path =
    added_at chosen p path added
    ∙ step added (is_one_of path passed) (bytes_eq p path) (test path) (is_one_of path chosen) (were path)
    (λ same. ap test (sym ((bytes_eq-Decides p path).0 same)) ∙ is)
    ∙ ap (λ b. b && test path) (sym (one_of-end path p passed))

with_start : (added start a same t before : Bool) → before ≡ (start || (a && t)) → (same ≡ true → t ≡ added)
    → (if added then before || same else before) ≡ (start || ((a || same) && t))
with_start true true a same t before was is = ap (λ b. b || same) was
with_start false true a same t before was is = was
with_start added false a same t before was is = step added a same t before was is

-- those of some paths that pass a test, after others, with the next path
pub added-more : (start chosen passed : List (List ℕ)) (test : List ℕ → Bool) (p : List ℕ) (added : Bool) → test p ≡ added
    → ((path : List ℕ) → is_one_of path chosen ≡ (is_one_of path start || (is_one_of path passed && test path)))
    → (path : List ℕ) → is_one_of path (if added then chosen ++ p ∷ [] else chosen) ≡
    (is_one_of path start || (is_one_of path (passed ++ p ∷ []) && test path))
added-more start chosen passed test p added is were path =
    added_at chosen p path added
    ∙ with_start added (is_one_of path start) (is_one_of path passed) (bytes_eq p path) (test path) (is_one_of path chosen) (were path)
    (λ same. ap test (sym ((bytes_eq-Decides p path).0 same)) ∙ is)
    ∙ ap (λ b. is_one_of path start || (b && test path)) (sym (one_of-end path p passed))

-- the same with the text at the next place
pub chosen-next : (test : List ℕ → Bool) (texts : List (String Global)) (place : ℕ) (text : String Global)
    (chosen : List (List ℕ)) (added : Bool)
    → place < length texts → text ≡ get_or texts place text → test (string_bytes text) ≡ added
    → ((path : List ℕ) → is_one_of path chosen ≡ (is_one_of path (map string_bytes (take place texts)) && test path))
    → (path : List ℕ) → is_one_of path (if added then chosen ++ string_bytes text ∷ [] else chosen) ≡
    (is_one_of path (map string_bytes (take (place + 1) texts)) && test path)
chosen-next test texts place text chosen added inside is passes were path =
    chosen-more chosen (map string_bytes (take place texts)) test (string_bytes text) added passes were path
    ∙ ap (λ passed. is_one_of path passed && test path)
    (sym (ap (map string_bytes) (take_more texts place text inside ∙ ap (λ t. take place texts ++ t ∷ []) (sym is))
    ∙ map-append string_bytes (take place texts) (text ∷ [])))

-- the text at a place is one of the texts
pub one_of-place : (texts : List (String Global)) (place : ℕ) (text : String Global) → place < length texts → text ≡ get_or texts place text
    → is_one_of (string_bytes text) (map string_bytes texts) ≡ true
one_of-place texts place text inside is =
    list_any-map (λ one. bytes_eq one (string_bytes text)) string_bytes texts
    ∙ list_any_at (λ one. bytes_eq (string_bytes one) (string_bytes text)) texts place text inside
    ((bytes_eq-Decides _ (string_bytes text)).1 (ap string_bytes (sym is)))

-- the path at the next place passes the test too
pub passes-more : (test : List ℕ → Bool) (texts : List (String Global)) (place : ℕ) (text : String Global)
    → place < length texts → text ≡ get_or texts place text → test (string_bytes text) ≡ true
    → ((path : List ℕ) → is_one_of path (map string_bytes (take place texts)) ≡ true → test path ≡ true)
    → (path : List ℕ) → is_one_of path (map string_bytes (take (place + 1) texts)) ≡ true → test path ≡ true
passes-more test texts place text inside is passes passed path one =
    by (is_one_of path (map string_bytes (take place texts))) (bytes_eq (string_bytes text) path) refl refl
    (sym (one_of-more texts place text path inside is) ∙ one)
  where
    by : (before same : Bool) → is_one_of path (map string_bytes (take place texts)) ≡ before → bytes_eq (string_bytes text) path ≡ same
        → (is_one_of path (map string_bytes (take place texts)) || bytes_eq (string_bytes text) path) ≡ true → test path ≡ true
    by true same e1 e2 either = passed path e1
    by false true e1 e2 either = ap test (sym ((bytes_eq-Decides (string_bytes text) path).0 e2)) ∙ passes
    by false false e1 e2 either = absurd (false≢true (sym (ap (λ b. b || bytes_eq (string_bytes text) path) e1 ∙ e2) ∙ either))

pub some-map : {X Y : Type 0} (f : X → Y) (row : Option X) → is_some (option_map f row) ≡ is_some row
some-map f None = refl
some-map f (Some row) = refl

pub none-map : {X Y : Type 0} (f : X → Y) (row : Option X) → is_none (option_map f row) ≡ is_none row
none-map f None = refl
none-map f (Some row) = refl

pub none-not : {X : Type 0} (row : Option X) (none : Bool) → is_some row ≡ not none → none ≡ is_none row
none-not None true is = refl
none-not None false is = absurd (false≢true is)
none-not (Some row) true is = absurd (false≢true (sym is))
none-not (Some row) false is = refl

pub none-of : {X : Type 0} (row : Option X) → is_some row ≡ false → row ≡ None
none-of None is = refl
none-of (Some row) is = absurd cc
