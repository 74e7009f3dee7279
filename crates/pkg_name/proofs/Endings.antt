-- Taking the end off a version: a letter and a number.
use Rattle.std.proofs.Common.{◌≡◌, ◌==◌, ◌-◌, ◌<◌, length, take, drop, get_or, slice_index, ℕ, true, false, cond, ◌&&◌, List, [], ◌∷◌, ◌++◌}
use Rattle.std.proofs.Common.{None, sym, ap, refl, ◌∙◌, inl, inr, true≢false, arith}
use Rattle.std.proofs.lemmas.Bool.{cases_Bool, and_from, and_left, and_right, eq-eqb, ne_eqb}
use Rattle.std.proofs.Math.Dec.{eqb-suc-zero}
use Rattle.std.proofs.Math.Seq.{get_or-append_seam}
use Rattle.std.proofs.lemmas.List.{append_assoc, take-append-drop, length-append}
use Rattle.std.proofs.lemmas.List.Folds.{list_all-append}
use Rattle.std.specs.List.{list_all}
use Rattle.std.specs.Char.{is_ascii_digit}
use Rattle.std.specs.Cmp.{first_so, second_so}
use Rattle.pkg_name.specs.Order.{Ended, ended_by, is_number, number_written}

-- a text without an end keeps all
abbrev pub whole : List ℕ → Ended
whole text = record { before = text; number = None }

-- a digit is not the letter
apart : (byte letter : ℕ) → is_ascii_digit byte ≡ true → is_ascii_digit letter ≡ false → (byte == letter) ≡ false
apart byte letter digit plain = ne_eqb byte letter (λ e. true≢false (sym digit ∙ ap is_ascii_digit e ∙ plain))

-- digits alone have no end
pub ended-digits : (letter : ℕ) (digits : List ℕ) → is_ascii_digit letter ≡ false → list_all is_ascii_digit digits ≡ true
    → ended_by letter digits ≡ whole digits
unfolding ended_by
ended-digits letter [] plain all = refl
ended-digits letter (digit ∷ digits) plain all =
    let rest = ended-digits letter digits plain (second_so (is_ascii_digit digit) (list_all is_ascii_digit digits) all) in
    let other = apart digit letter (first_so (is_ascii_digit digit) (list_all is_ascii_digit digits) all) plain in
    rw (other, rest) refl

-- a text with a byte that is no digit is no number
no_number : (front : List ℕ) (byte : ℕ) (behind : List ℕ) → is_ascii_digit byte ≡ false → is_number (front ++ byte ∷ behind) ≡ false
no_number [] byte behind other = and_left (is_ascii_digit byte) (list_all is_ascii_digit behind) other
no_number (first ∷ front) byte behind other =
    let rest = and_left (is_ascii_digit byte) (list_all is_ascii_digit behind) other in
    and_right (is_ascii_digit first) (list_all is_ascii_digit (front ++ byte ∷ behind))
    (list_all-append is_ascii_digit front (byte ∷ behind) ∙ and_right (list_all is_ascii_digit front)
    (list_all is_ascii_digit (byte ∷ behind)) rest)

-- a text that ends in digits after another byte: its end is taken off if that byte is the letter and there are
-- digits
pub ended_at : (letter : ℕ) (front : List ℕ) (last : ℕ) (digits : List ℕ) → is_ascii_digit letter ≡ false
    → is_ascii_digit last ≡ false → list_all is_ascii_digit digits ≡ true
    → ended_by letter (front ++ last ∷ digits)
    ≡ cond (last == letter && is_number digits) (record { before = front; number = number_written digits }) (whole (front ++ last ∷ digits))
unfolding ended_by
ended_at letter [] last digits plain other all = elim (cases_Bool (last == letter && is_number digits)) [
  | inl h ↦ rw h refl
  | inr h ↦ rw (h, ended-digits letter digits plain all) refl
]
ended_at letter (byte ∷ front) last digits plain other all =
    let rest = ended_at letter front last digits plain other all in
    let on = and_right (byte == letter) (is_number (front ++ last ∷ digits)) (no_number front last digits other) in
    elim (cases_Bool (last == letter && is_number digits)) [
      | inl h ↦ rw (on, rest, h) refl
      | inr h ↦ rw (on, rest, h) refl
    ]

-- if digits end a text, and another byte is before them, its end is taken off just if that byte is the
-- letter and there are digits
pub ending_at : (letter start last : ℕ) (text front behind before : List ℕ) → is_ascii_digit letter ≡ false
    → list_all is_ascii_digit (drop start text) ≡ true → (0 < start → is_ascii_digit (slice_index text (start - 1)) ≡ false)
    → front ≡ take start text → behind ≡ drop start text → length front ≡ start → front ≡ before ++ last ∷ []
    → ended_by letter text ≡ cond (last == letter && is_number behind) (record { before = before; number = number_written behind })
    (whole text)
ending_at letter start last text front behind before plain all other in_front in_after long cut =
    let joined : before ++ last ∷ behind ≡ text =
    sym (append_assoc before (last ∷ []) behind) ∙ ap (λ f. f ++ behind) (sym cut ∙ in_front)
    ∙ ap (λ b. take start text ++ b) in_after ∙ take-append-drop start text in
    let sum = length-append before (last ∷ []) in
    let cut_long = ap length cut in
    let here : start - 1 ≡ length before = omega (arith, long, cut_long, sum) in
    let some : 0 < start = omega (arith, long, cut_long, sum) in
    let stands : get_or text (start - 1) 0 ≡ last =
    ap (λ n. get_or text n 0) here ∙ ap (λ t. get_or t (length before) 0) (sym joined) ∙ get_or-append_seam before last behind 0 in
    let last_other : is_ascii_digit last ≡ false = ap is_ascii_digit (sym stands) ∙ other some in
    let digits : list_all is_ascii_digit behind ≡ true = ap (list_all is_ascii_digit) in_after ∙ all in
    ap (ended_by letter) (sym joined) ∙ ended_at letter before last behind plain last_other digits
    ∙ ap (λ t. cond (last == letter && is_number behind) (record { before = before; number = number_written behind }) (whole t)) joined

-- digits alone
pub ending_none : (letter start : ℕ) (text front : List ℕ) → is_ascii_digit letter ≡ false
    → list_all is_ascii_digit (drop start text) ≡ true
    → length front ≡ start → length front ≡ 0 → ended_by letter text ≡ whole text
ending_none letter start text front plain all long empty =
    let none : start ≡ 0 = sym long ∙ empty in
    ended-digits letter text plain (ap (λ n. list_all is_ascii_digit (drop n text)) (sym none) ∙ all)

-- digits are a number where there are some
pub number-some : (digits : List ℕ) → list_all is_ascii_digit digits ≡ true → (length digits == 0) ≡ false → is_number digits ≡ true
number-some [] all some = absurd (true≢false some)
number-some (digit ∷ digits) all some = all

pub number-none : (digits : List ℕ) → (length digits == 0) ≡ true → is_number digits ≡ false
number-none [] none = refl
number-none (digit ∷ digits) none = absurd (true≢false (sym none ∙ eqb-suc-zero (length digits)))

-- the end that is taken off
pub ending_taken : (letter last : ℕ) (text behind before : List ℕ)
    → ended_by letter text ≡ cond (last == letter && is_number behind) (record { before = before; number = number_written behind })
    (whole text)
    → last ≡ letter → is_number behind ≡ true → ended_by letter text ≡ record { before = before; number = number_written behind }
ending_taken letter last text behind before is same some = is
    ∙ rw (and_from (last == letter) (is_number behind) (eq-eqb last letter same) some) refl

-- no end is taken off
pub ending_kept : (letter last : ℕ) (text behind before : List ℕ)
    → ended_by letter text ≡ cond (last == letter && is_number behind) (record { before = before; number = number_written behind })
    (whole text)
    → (last == letter && is_number behind) ≡ false → ended_by letter text ≡ whole text
ending_kept letter last text behind before is other = is ∙ rw other refl
