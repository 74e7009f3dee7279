-- The parts of an item between its colons, by its first colon.
use Rattle.std.proofs.Common.{◌≡◌, ◌∙◌, ◌≢◌, ap, sym, refl, subst, ℕ, suc, ◌+◌, ◌<◌, ◌==◌, Bool, true, false, cond, List, [], ◌∷◌, drop}
use Rattle.std.proofs.Common.{length, get_or, None, inl, inr, IsUtf8, arith}
use Rattle.std.proofs.lemmas.Bool.{eqb-true, eq-eqb, ne_eqb, cases_lt, false≢true}
use Rattle.std.proofs.lemmas.List.Splits.{slice_split_none, slice_split_first, slice_split-cons_no, length-slice_split}
use Rattle.std.proofs.lemmas.List.Sums.{fails_before_first, position_or_len_is}
use Rattle.std.proofs.lemmas.Str.{IsUtf8-drop, IsCharBoundary-after_ascii}
use Rattle.std.specs.List.{prefix_len, position_or_len, before_first, after_first, onto_first}
use Rattle.port_deps.specs.ItemText.{cut_at_colons, parts_of_item, after_empty, named_parts}
use Rattle.port_deps.specs.Seen.{BeginsWithNoColon}

abbrev pub is_colon : ℕ → Bool
is_colon = λ byte. byte == 58

-- how many empty parts come first
abbrev empty_first : List (List ℕ) → ℕ
empty_first parts = prefix_len (λ part. length part == 0) parts

-- a colon that comes first leaves no part
pub behind-colon : (text rest : List ℕ) → text ≡ 58 ∷ rest → parts_of_item rest ≡ parts_of_item text
behind-colon text rest is =
    let parts = cut_at_colons rest in
    let one_more : 1 + empty_first parts ≡ suc (empty_first parts) = omega arith in
    sym (ap parts_of_item is ∙ ap (λ count. drop count ([] ∷ parts)) one_more)

-- what follows it is text
pub behind-utf8 : (text rest : List ℕ) → IsUtf8 text → text ≡ 58 ∷ rest → IsUtf8 rest
behind-utf8 text rest is_text is =
    let first : get_or text 0 0 ≡ 58 = ap (λ bytes. get_or bytes 0 0) is in
    let some : length text ≡ suc (length rest) = ap length is in
    subst IsUtf8 (ap (drop 1) is)
    (IsUtf8-drop text 1 is_text (IsCharBoundary-after_ascii text 0 is_text (omega (arith, some)) (omega (arith, first))))

-- a text without a colon is its only part
pub without_colon : (text : List ℕ) → position_or_len is_colon text ≡ length text → cut_at_colons text ≡ text ∷ []
without_colon text none = slice_split_none is_colon text (λ k d inside. fails_before_first is_colon text k d (omega (arith, inside, none)))

-- the first colon ends the first part
pub at_colon : (text first others : List ℕ) → position_or_len is_colon text < length text → first ≡ before_first is_colon text
    → others ≡ after_first is_colon text
    → cut_at_colons text ≡ first ∷ cut_at_colons others
at_colon text first others there is_first are_others =
    slice_split_first is_colon text 0 there ∙ sym (λ i. is_first i ∷ cut_at_colons (are_others i))

first_stays_by : (byte : ℕ) (parts : List (List ℕ)) → length parts ≢ 0 → after_empty (onto_first byte parts) ≡ onto_first byte parts
first_stays_by byte [] some = absurd (some refl)
first_stays_by byte (first ∷ others) some =
    ap (λ empty. drop (cond empty (1 + empty_first others) 0) ((byte ∷ first) ∷ others))
    (ne_eqb (length (byte ∷ first)) 0 (λ none. omega (arith, none)))

some_part : (text : List ℕ) → length (cut_at_colons text) ≢ 0
some_part text none = let count = length-slice_split is_colon text in absurd (omega (arith, count, none))

kept_by : (byte : ℕ) (rest : List ℕ) (b : Bool) → (byte == 58) ≡ b → BeginsWithNoColon (byte ∷ rest)
    → parts_of_item (byte ∷ rest) ≡ cut_at_colons (byte ∷ rest)
kept_by byte rest true is begins = absurd (begins rest (ap (λ byte. byte ∷ rest) (eqb-true byte 58 is)))
kept_by byte rest false is begins =
    let parts = slice_split-cons_no is_colon byte rest is in
    ap after_empty parts ∙ first_stays_by byte (cut_at_colons rest) (some_part rest) ∙ sym parts

-- without a colon that comes first no part is dropped
pub all_kept : (text : List ℕ) → (length text == 0) ≡ false → BeginsWithNoColon text → parts_of_item text ≡ cut_at_colons text
all_kept [] some begins = absurd (false≢true (sym some))
all_kept (byte ∷ rest) some begins = kept_by byte rest (byte == 58) refl begins

four_by : (first second third : List ℕ) (rest : List (List ℕ)) → length rest ≢ 0 → None ≡ named_parts (first ∷ second ∷ third ∷ rest)
four_by first second third [] some = absurd (some refl)
four_by first second third (fourth ∷ more) some = refl

-- a text with a colon, and one without
pub some_colon : (text : List ℕ) → (k : ℕ) × (k < length text) × (get_or text k 0 ≡ 58) → position_or_len is_colon text < length text
some_colon text (k, inside, is) = elim (cases_lt (position_or_len is_colon text) (length text)) [
  | inl before ↦ before
  | inr past ↦ absurd (false≢true (sym (fails_before_first is_colon text k 0 (omega (arith, inside, past)))
      ∙ eq-eqb (get_or text k 0) 58 is))
]

pub no_colon : (text : List ℕ) {held : Bool} → ((k : ℕ) → k < length text → get_or text k 0 ≡ 58 → held ≡ true) → held ≡ false
    → position_or_len is_colon text ≡ length text
no_colon text holds none =
    position_or_len_is is_colon text (length text) 0 (omega arith)
    (λ k inside. ne_eqb (get_or text k 0) 58 (λ is. false≢true (sym none ∙ holds k inside is)))
    (λ past. absurd (omega (arith, past)))

-- two parts and two or more after them name nothing
pub four_parts : (first second others : List ℕ) → position_or_len is_colon others < length others
    → None ≡ named_parts (first ∷ second ∷ cut_at_colons others)
four_parts first second others there =
    let rest = cut_at_colons (after_first is_colon others) in
    four_by first second (before_first is_colon others) rest (some_part (after_first is_colon others))
    ∙ sym (ap (λ parts. named_parts (first ∷ second ∷ parts)) (slice_split_first is_colon others 0 there))
