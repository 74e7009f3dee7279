-- The parts between the dots of a text, one after another.
use Rattle.std.proofs.Common.{◌≡◌, ◌==◌, ◌+◌, ◌-◌, ◌<◌, ◌≤◌, ℕ, suc, Bool, not, List, [], ◌∷◌, map, length, take, drop, false, cond, ap}
use Rattle.std.proofs.Common.{refl, sym, ◌∙◌, arith, inl, inr, true≢false}
use Rattle.std.proofs.lemmas.Bool.{cases_Bool}
use Rattle.std.proofs.lemmas.List.{take_all, length-drop}
use Rattle.std.proofs.lemmas.List.Splits.{slice_split_first}
use Rattle.std.specs.List.{slice_split, position_or_len}
use Rattle.std.specs.Ordering.{ordering_index}
use Rattle.std.specs.declared.cmp.Ordering.{Ordering}
use Rattle.std.specs.declared.cmp.Ordering.TheVariants.{Less, Equal, Greater}
use Rattle.std.specs.Cmp.Lexicographic.{slice_cmp}
use Rattle.general_facts.specs.Lists.{slice_split-first}
use Rattle.pkg_name.specs.Order.{PartKey, part_key, part_keys, part_cmp}

nothing : {n : ℕ} → 0 ≡ suc n → ⊥
nothing e = omega arith

one_less : {m n : ℕ} → 1 + m ≡ suc n → m ≡ n
one_less e = omega arith

-- where no element passes, the list is the one part
one_part : (p : ℕ → Bool) (xs : List ℕ) → position_or_len p xs ≡ length xs → slice_split p xs ≡ xs ∷ []
one_part p [] e = refl
one_part p (x ∷ xs) e = elim (cases_Bool (p x)) [
  | inl h ↦ let none : 0 ≡ suc (length xs) = sym (ap (λ b. cond (not b) (1 + position_or_len p xs) 0) h) ∙ e in absurd (nothing none)
  | inr h ↦
      let more : 1 + position_or_len p xs ≡ suc (length xs) = sym (ap (λ b. cond (not b) (1 + position_or_len p xs) 0) h) ∙ e in
      let rest = one_part p xs (one_less more) in
      rw (h, rest) refl
]

-- all that is left of a text
pub cut_all : (text : List ℕ) (n : ℕ) → take (length text - n) (drop n text) ≡ drop n text
cut_all text n = let left = length-drop n text in take_all (length text - n) (drop n text) (omega (arith, left))

-- a text without a dot is one part
pub last_part : (text : List ℕ) (end : ℕ) → end ≡ position_or_len (λ byte. byte == 46) text → end ≡ length text
    → part_keys text ≡ part_key text ∷ []
last_part text end value whole = ap (map part_key) (one_part (λ byte. byte == 46) text (sym value ∙ whole))

-- a text with a dot is the part before it, and the parts after it
pub next_part : (text : List ℕ) (end : ℕ) → end ≡ position_or_len (λ byte. byte == 46) text → end ≤ length text → (end ≡ length text → ⊥)
    → part_keys text ≡ part_key (take end text) ∷ part_keys (drop (end + 1) text)
next_part text end value bound inside =
    let below : end < length text = omega arith in
    ap (map part_key)
    (slice_split_first (λ byte. byte == 46) text 0 (rw (sym value) below)
    ∙ ap (λ n. take n text ∷ slice_split (λ byte. byte == 46) (drop (n + 1) text)) (sym value))

-- the same, for what is left of the text as code cuts it
pub next_part_cut : (text : List ℕ) (end : ℕ) → end ≡ position_or_len (λ byte. byte == 46) text → end ≤ length text
    → (end ≡ length text → ⊥)
    → part_keys text ≡ part_key (take end text) ∷ part_keys (take (length text - (end + 1)) (drop (end + 1) text))
next_part_cut text end value bound inside =
    next_part text end value bound inside ∙ ap (λ rest. part_key (take end text) ∷ part_keys rest) (sym (cut_all text (end + 1)))

-- parts after no parts
pub none_before : (text : List ℕ) → slice_cmp part_cmp [] (part_keys text) ≡ Less
none_before text = let some = slice_split-first (λ byte. byte == 46) text in rw some.2 refl

pub some_after : (text : List ℕ) → slice_cmp part_cmp (part_keys text) [] ≡ Greater
some_after text = let some = slice_split-first (λ byte. byte == 46) text in rw some.2 refl

-- if the first parts tie, those after them decide
pub tied_first : (keys others : List PartKey) (key other : PartKey) (more other_more : List PartKey) → keys ≡ key ∷ more
    → others ≡ other ∷ other_more
    → part_cmp key other ≡ Equal → slice_cmp part_cmp keys others ≡ slice_cmp part_cmp more other_more
tied_first keys others key other more other_more is other_is tie = rw (is, other_is, tie) refl

-- two that the code tells apart no further
pub tie_from : (r : Ordering) → not (ordering_index r == 1) ≡ false → r ≡ Equal
tie_from Less e = absurd (true≢false e)
tie_from Equal e = refl
tie_from Greater e = absurd (true≢false e)
