-- Texts whose numbers have at most 18 digits, and their pieces.
use Rattle.std.proofs.Common.{◌≡◌, ◌≤◌, ◌+◌, ℕ, suc, Bool, true, false, ◌&&◌, List, [], ◌∷◌, ◌++◌, length, take, drop, nat_le, ap, refl}
use Rattle.std.proofs.Common.{sym, ◌∙◌, arith, inl, inr, zero-add}
use Rattle.std.proofs.lemmas.Bool.{cases_Bool, and_from, leb-true, le-leb}
use Rattle.std.proofs.lemmas.List.{take-append-drop}
use Rattle.std.specs.List.{list_all, prefix_len}
use Rattle.std.specs.Char.{is_ascii_digit}
use Rattle.std.specs.Cmp.{first_so, second_so}
use Rattle.pkg_name.specs.Version.{has_short_numbers, digit_count}

-- what follows a list adds to what begins it or not
prefix_len-append : (p : ℕ → Bool) (xs ys : List ℕ) → prefix_len p xs ≤ prefix_len p (xs ++ ys)
prefix_len-append p [] ys = omega arith
prefix_len-append p (x ∷ xs) ys =
    let more = prefix_len-append p xs ys in
    elim (cases_Bool (p x)) [ inl h ↦ rw h (omega arith) | inr h ↦ rw h (omega arith) ]

-- where each byte passes, all of them begin the list
pub prefix_len-all : (p : ℕ → Bool) (xs : List ℕ) → list_all p xs ≡ true → prefix_len p xs ≡ length xs
prefix_len-all p [] all = refl
prefix_len-all p (x ∷ xs) all =
    let rest = prefix_len-all p xs (second_so (p x) (list_all p xs) all) in
    rw (first_so (p x) (list_all p xs) all) (omega arith)

-- what begins a list passes
pub prefix_passes : (p : ℕ → Bool) (xs : List ℕ) → list_all p (take (prefix_len p xs) xs) ≡ true
prefix_passes p [] = refl
prefix_passes p (x ∷ xs) = elim (cases_Bool (p x)) [
  | inl h ↦
      let one : 1 + prefix_len p xs ≡ suc (prefix_len p xs) = omega arith in
      rw (h, one, h) (prefix_passes p xs)
  | inr h ↦ rw h refl
]

no_more : {a b c : ℕ} → b ≤ c → a ≤ b → a ≤ c
no_more h k = omega arith

as_much : {a b : ℕ} → a ≡ b → b ≤ a
as_much e = omega arith

-- a front of a text with short numbers has short numbers
pub short-front : (xs ys : List ℕ) → has_short_numbers (xs ++ ys) ≡ true → has_short_numbers xs ≡ true
unfolding has_short_numbers
short-front [] ys short = refl
short-front (x ∷ xs) ys short =
    let rest = short-front xs ys (second_so (nat_le (digit_count (x ∷ xs ++ ys)) 18) (has_short_numbers (xs ++ ys)) short) in
    let first = first_so (nat_le (digit_count (x ∷ xs ++ ys)) 18) (has_short_numbers (xs ++ ys)) short in
    let most : digit_count (x ∷ xs ++ ys) ≤ 18 = leb-true (digit_count (x ∷ xs ++ ys)) 18 first in
    let fewer : digit_count (x ∷ xs) ≤ digit_count (x ∷ xs ++ ys) = prefix_len-append is_ascii_digit (x ∷ xs) ys in
    and_from (nat_le (digit_count (x ∷ xs)) 18) (has_short_numbers xs) (le-leb (digit_count (x ∷ xs)) 18 (no_more most fewer)) rest

-- so has what follows one
pub short-after : (xs ys : List ℕ) → has_short_numbers (xs ++ ys) ≡ true → has_short_numbers ys ≡ true
unfolding has_short_numbers
short-after [] ys short = short
short-after (x ∷ xs) ys short =
    short-after xs ys (second_so (nat_le (digit_count (x ∷ xs ++ ys)) 18) (has_short_numbers (xs ++ ys)) short)

pub short-take : (n : ℕ) (xs : List ℕ) → has_short_numbers xs ≡ true → has_short_numbers (take n xs) ≡ true
short-take n xs short = short-front (take n xs) (drop n xs) (ap has_short_numbers (take-append-drop n xs) ∙ short)

pub short-drop : (n : ℕ) (xs : List ℕ) → has_short_numbers xs ≡ true → has_short_numbers (drop n xs) ≡ true
short-drop n xs short = short-after (take n xs) (drop n xs) (ap has_short_numbers (take-append-drop n xs) ∙ short)

-- digits with short numbers are at most 18
pub short-digits : (xs : List ℕ) → list_all is_ascii_digit xs ≡ true → has_short_numbers xs ≡ true → length xs ≤ 18
unfolding has_short_numbers
short-digits [] all short = omega arith
short-digits (x ∷ xs) all short =
    let most = first_so (nat_le (digit_count (x ∷ xs)) 18) (has_short_numbers xs) short in
    let whole : digit_count (x ∷ xs) ≡ length (x ∷ xs) = prefix_len-all is_ascii_digit (x ∷ xs) all in
    no_more (leb-true (digit_count (x ∷ xs)) 18 most) (as_much whole)

-- the numbers are short after so many digits
abbrev pub fits_after : ℕ → List ℕ → Bool
fits_after digits text = nat_le (digits + digit_count text) 18 && has_short_numbers text

-- a test that another one implies
implied : (a b s : Bool) → (a ≡ true → b ≡ true) → (a && (b && s)) ≡ (a && s)
implied true b s h = rw (h refl) refl
implied false b s h = refl

-- with no digit before it a text is left as it is
pub fits_after-none : (text : List ℕ) → fits_after 0 text ≡ has_short_numbers text
unfolding has_short_numbers
fits_after-none [] = refl
fits_after-none (byte ∷ rest) =
    ap (λ n. nat_le n 18 && has_short_numbers (byte ∷ rest)) (zero-add (digit_count (byte ∷ rest)))
    ∙ implied (nat_le (digit_count (byte ∷ rest)) 18) (nat_le (digit_count (byte ∷ rest)) 18) (has_short_numbers rest) (λ h. h)

-- one more digit
pub fits_after-digit : (digits byte : ℕ) (rest : List ℕ) → is_ascii_digit byte ≡ true
    → fits_after digits (byte ∷ rest) ≡ fits_after (digits + 1) rest
unfolding has_short_numbers
fits_after-digit digits byte rest digit =
    let one : digits + (1 + digit_count rest) ≡ digits + 1 + digit_count rest = omega arith in
    let fewer : nat_le (digits + 1 + digit_count rest) 18 ≡ true → nat_le (1 + digit_count rest) 18 ≡ true =
    λ h. le-leb (1 + digit_count rest) 18 (no_more (leb-true (digits + 1 + digit_count rest) 18 h) (omega arith)) in
    rw (digit, one) (implied (nat_le (digits + 1 + digit_count rest) 18) (nat_le (1 + digit_count rest) 18) (has_short_numbers rest) fewer)

-- another byte
pub fits_after-other : (digits byte : ℕ) (rest : List ℕ) → is_ascii_digit byte ≡ false → digits ≤ 18
    → fits_after digits (byte ∷ rest) ≡ fits_after 0 rest
unfolding has_short_numbers
fits_after-other digits byte rest other few =
    let fits : nat_le (digits + 0) 18 ≡ true = le-leb (digits + 0) 18 (omega arith) in
    rw (other, fits) (sym (fits_after-none rest))

-- nothing after them
pub fits_after-end : (digits : ℕ) → digits ≤ 18 → fits_after digits [] ≡ true
unfolding has_short_numbers
fits_after-end digits few = and_from (nat_le (digits + 0) 18) true (le-leb (digits + 0) 18 (omega arith)) refl
