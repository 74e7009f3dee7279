-- The words of a text, as far as they are found.
use Rattle.std.proofs.Common.{◌≡◌, ℕ, ◌+◌, ◌-◌, ◌<◌, ◌≤◌, Bool, true, false, cond, nat_lt, List, [], ◌∷◌, ◌++◌, map, filter, length, get_or}
use Rattle.std.proofs.Common.{take, drop, All, IsUtf8, IsCharBoundary, ⊎_elim, refl, sym, ap, ◌∙◌, arith, take-append-drop, get_or-take}
use Rattle.std.proofs.Common.{get_or-drop, length-take, length-drop, drop-drop, append_assoc, append-nil, lt-ltb, le-ltb}
use Rattle.std.proofs.lemmas.Bool.{cond-true, cond-false, cases_eq}
use Rattle.std.proofs.lemmas.List.{drop_more, map-append, take_rest}
use Rattle.std.proofs.lemmas.List.Elements.{All-from_get_or, All-nil, All-push}
use Rattle.std.proofs.lemmas.List.Splits.{slice_split_at, slice_split_none}
use Rattle.std.proofs.lemmas.Str.{IsCharBoundary-start, IsCharBoundary-end, IsCharBoundary-before_ascii, IsCharBoundary-after_ascii}
use Rattle.std.specs.List.{slice_split}
use Rattle.mk_text.specs.declared.word_spans.Span.{Span}
use Rattle.mk_text.specs.Blanks.{is_blank}
use Rattle.mk_text.specs.Words.{words_of, places_from, word_spans, span_text, IsSpanOf}
use Rattle.mk_text.proofs.BlankEnds.{blank_below}

-- no blank is between one place and another
abbrev pub NoBlank : List ℕ → ℕ → ℕ → Type 0
NoBlank text start at = (k : ℕ) → start ≤ k → k < at → is_blank (get_or text k 0) ≡ false

-- the places of the words after a place
abbrev pub words_from : List ℕ → ℕ → List Span
words_from text start = filter (λ span. nat_lt span.start span.end) (places_from start (slice_split is_blank (drop start text)))

-- what there is from a place up to another
abbrev pub part : List ℕ → ℕ → ℕ → List ℕ
part text start at = take (at - start) (drop start text)

-- the words found before `start` and the search after it, of which no blank was met up to `at`
pub record WordsSoFar (text : List ℕ) (found : List Span) (start at : ℕ) : Type 0 where
  pub spans : found ++ words_from text start ≡ word_spans text
  pub texts : map (span_text text) found ++ words_of (drop start text) ≡ words_of text
  pub within : All (IsSpanOf text) found
  pub starts : IsCharBoundary text start
  pub ordered : start ≤ at
  pub unbroken : NoBlank text start at

-- what is found at the end
pub record AllWords (text : List ℕ) (found : List Span) : Type 0 where
  pub spans : found ≡ word_spans text
  pub texts : map (span_text text) found ≡ words_of text
  pub within : All (IsSpanOf text) found

module _ (text : List ℕ) (start at : ℕ) (ordered : start ≤ at) (within : at ≤ length text) where
  length-part : length (part text start at) ≡ at - start
  length-part = omega (arith, length-take (at - start) (drop start text), length-drop start text)

  part_end : start + length (part text start at) ≡ at
  part_end = omega (arith, length-part)

  part_plain : NoBlank text start at → All (λ b. is_blank b ≡ false) (part text start at)
  part_plain h = All-from_get_or (λ b. is_blank b ≡ false) (part text start at) 0 (λ i l.
      let near : i < at - start = omega (arith, length-part) in
      ap is_blank (get_or-take (at - start) (drop start text) i 0 near ∙ get_or-drop start text i 0)
      ∙ h (start + i) (omega arith) (omega arith))

  part_rest : part text start at ++ drop at text ≡ drop start text
  part_rest =
      let back : start + (at - start) ≡ at = omega arith in
      ap (λ l. part text start at ++ l) (sym (drop-drop (at - start) start text ∙ ap (λ n. drop n text) back))
      ∙ take-append-drop (at - start) (drop start text)

cut_at : (text : List ℕ) (start at : ℕ) → start ≤ at → at < length text → NoBlank text start at → is_blank (get_or text at 0) ≡ true
    → slice_split is_blank (drop start text) ≡ part text start at ∷ slice_split is_blank (drop (at + 1) text)
cut_at text start at ordered near plain blank =
    let le : at ≤ length text = omega arith in
    ap (slice_split is_blank) (sym (part_rest text start at ordered le) ∙ ap (λ l. part text start at ++ l) (drop_more text at 0 near))
    ∙ slice_split_at is_blank (part text start at) (get_or text at 0) (drop (at + 1) text) (part_plain text start at ordered le plain) blank

spans_at : (text : List ℕ) (start at : ℕ) → start ≤ at → at < length text → NoBlank text start at → is_blank (get_or text at 0) ≡ true
    → words_from text start ≡ cond (nat_lt start at) (record { start = start; end = at } ∷ words_from text (at + 1))
    (words_from text (at + 1))
spans_at text start at ordered near plain blank =
    let rest : List (List ℕ) = slice_split is_blank (drop (at + 1) text) in
    let test : Span → Bool = λ span. nat_lt span.start span.end in
    ap (λ l. filter test (places_from start l)) (cut_at text start at ordered near plain blank)
    ∙ ap (λ n. cond (nat_lt start n) (record { start = start; end = n } ∷ filter test (places_from (n + 1) rest))
    (filter test (places_from (n + 1) rest)))
    (part_end text start at ordered (omega arith))

texts_at : (text : List ℕ) (start at : ℕ) → start ≤ at → at < length text → NoBlank text start at → is_blank (get_or text at 0) ≡ true
    → words_of (drop start text) ≡ cond (nat_lt 0 (at - start)) (part text start at ∷ words_of (drop (at + 1) text))
    (words_of (drop (at + 1) text))
unfolding words_of
texts_at text start at ordered near plain blank =
    ap (filter (λ piece. nat_lt 0 (length piece))) (cut_at text start at ordered near plain blank)
    ∙ ap (λ n. cond (nat_lt 0 n) (part text start at ∷ words_of (drop (at + 1) text)) (words_of (drop (at + 1) text)))
    (length-part text start at ordered (omega arith))

pub so_far-none : (text : List ℕ) → IsUtf8 text → WordsSoFar text [] 0 0
unfolding word_spans
so_far-none text utf8 = record {
  spans = refl;
  texts = refl;
  within = All-nil (IsSpanOf text);
  starts = IsCharBoundary-start text utf8;
  ordered = omega arith;
  unbroken = λ k l h. absurd (omega arith);
}

no_blank_more : (text : List ℕ) (start at : ℕ) → NoBlank text start at → is_blank (get_or text at 0) ≡ false → NoBlank text start (at + 1)
no_blank_more text start at h here k from near =
    ⊎_elim (λ e. ap (λ n. is_blank (get_or text n 0)) e ∙ here) (λ n. h k from (omega arith)) (cases_eq k at)

no_blank_yet : (text : List ℕ) (start : ℕ) → NoBlank text start start
no_blank_yet text start k from near = absurd (omega arith)

-- a byte that is no blank
pub so_far-more : (text : List ℕ) (found : List Span) (start at : ℕ) → WordsSoFar text found start at → is_blank (get_or text at 0) ≡ false
    → WordsSoFar text found start (at + 1)
so_far-more text found start at h plain = record {
  spans = h.spans;
  texts = h.texts;
  within = h.within;
  starts = h.starts;
  ordered = omega (arith, h.ordered);
  unbroken = no_blank_more text start at h.unbroken plain;
}

-- a blank after a word
pub so_far-word : (text : List ℕ) (found : List Span) (start at : ℕ) → WordsSoFar text found start at → IsUtf8 text → at < length text
    → is_blank (get_or text at 0) ≡ true → start < at → WordsSoFar text (found ++ record { start = start; end = at } ∷ []) (at + 1) (at + 1)
so_far-word text found start at h utf8 near blank some =
    let span : Span = record { start = start; end = at } in
    let spans : words_from text start ≡ span ∷ words_from text (at + 1) =
    spans_at text start at h.ordered near h.unbroken blank ∙ cond-true (nat_lt start at) (span ∷ words_from text (at + 1))
    (words_from text (at + 1)) (lt-ltb start at some) in
    let apart : 0 < at - start = omega arith in
    let texts : words_of (drop start text) ≡ part text start at ∷ words_of (drop (at + 1) text) =
    texts_at text start at h.ordered near h.unbroken blank
    ∙ cond-true (nat_lt 0 (at - start)) (part text start at ∷ words_of (drop (at + 1) text)) (words_of (drop (at + 1) text))
    (lt-ltb 0 (at - start) apart) in
    let ascii : get_or text at 0 < 128 = blank_below (get_or text at 0) blank in
    record {
      spans = append_assoc found (span ∷ []) (words_from text (at + 1)) ∙ ap (λ l. found ++ l) (sym spans) ∙ h.spans;
      texts = ap (λ l. l ++ words_of (drop (at + 1) text)) (map-append (span_text text) found (span ∷ []))
          ∙ append_assoc (map (span_text text) found) (part text start at ∷ []) (words_of (drop (at + 1) text))
          ∙ ap (λ l. map (span_text text) found ++ l) (sym texts) ∙ h.texts;
      within = All-push (IsSpanOf text) found span h.within
          (record { ordered = h.ordered; starts = h.starts; ends = IsCharBoundary-before_ascii text at near ascii });
      starts = IsCharBoundary-after_ascii text at utf8 near ascii;
      ordered = omega arith;
      unbroken = no_blank_yet text (at + 1);
    }

-- a blank after no word
pub so_far-gap : (text : List ℕ) (found : List Span) (start at : ℕ) → WordsSoFar text found start at → IsUtf8 text → at < length text
    → is_blank (get_or text at 0) ≡ true → at ≤ start → WordsSoFar text found (at + 1) (at + 1)
so_far-gap text found start at h utf8 near blank none =
    let ascii : get_or text at 0 < 128 = blank_below (get_or text at 0) blank in
    let empty : at - start ≤ 0 = omega arith in
    record {
      spans = ap (λ l. found ++ l)
          (sym (spans_at text start at h.ordered near h.unbroken blank
          ∙ cond-false (nat_lt start at) (record { start = start; end = at } ∷ words_from text (at + 1)) (words_from text (at + 1))
          (le-ltb start at none)))
          ∙ h.spans;
      texts = ap (λ l. map (span_text text) found ++ l)
          (sym (texts_at text start at h.ordered near h.unbroken blank
          ∙ cond-false (nat_lt 0 (at - start)) (part text start at ∷ words_of (drop (at + 1) text)) (words_of (drop (at + 1) text))
          (le-ltb 0 (at - start) empty)))
          ∙ h.texts;
      within = h.within;
      starts = IsCharBoundary-after_ascii text at utf8 near ascii;
      ordered = omega arith;
      unbroken = no_blank_yet text (at + 1);
    }

-- the piece at the end of the text
last_piece : (text : List ℕ) (start : ℕ) → start ≤ length text → NoBlank text start (length text) → slice_split is_blank (drop start text) ≡
    part text start (length text) ∷ []
last_piece text start le plain =
    let whole : part text start (length text) ≡ drop start text = take_rest text start in
    ap (slice_split is_blank) (sym whole) ∙ slice_split_none is_blank (part text start (length text))
    (part_plain text start (length text) le (omega arith) plain)

spans_end : (text : List ℕ) (start : ℕ) → start ≤ length text → NoBlank text start (length text)
    → words_from text start ≡ cond (nat_lt start (length text)) (record { start = start; end = length text } ∷ []) []
spans_end text start le plain =
    let test : Span → Bool = λ span. nat_lt span.start span.end in
    ap (λ l. filter test (places_from start l)) (last_piece text start le plain)
    ∙ ap (λ n. cond (nat_lt start n) (record { start = start; end = n } ∷ []) []) (part_end text start (length text) le (omega arith))

texts_end : (text : List ℕ) (start : ℕ) → start ≤ length text → NoBlank text start (length text)
    → words_of (drop start text) ≡ cond (nat_lt 0 (length text - start)) (part text start (length text) ∷ []) []
unfolding words_of
texts_end text start le plain =
    ap (filter (λ piece. nat_lt 0 (length piece))) (last_piece text start le plain)
    ∙ ap (λ n. cond (nat_lt 0 n) (part text start (length text) ∷ []) []) (length-part text start (length text) le (omega arith))

-- a word at the end of the text
pub all-word : (text : List ℕ) (found : List Span) (start : ℕ) → WordsSoFar text found start (length text) → start < length text
    → AllWords text (found ++ record { start = start; end = length text } ∷ [])
all-word text found start h some =
    let span : Span = record { start = start; end = length text } in
    let apart : 0 < length text - start = omega arith in
    let spans : words_from text start ≡ span ∷ [] =
    spans_end text start h.ordered h.unbroken ∙ cond-true (nat_lt start (length text)) (span ∷ []) [] (lt-ltb start (length text) some) in
    let texts : words_of (drop start text) ≡ part text start (length text) ∷ [] =
    texts_end text start h.ordered h.unbroken ∙ cond-true (nat_lt 0 (length text - start)) (part text start (length text) ∷ []) []
    (lt-ltb 0 (length text - start) apart) in
    record {
      spans = ap (λ l. found ++ l) (sym spans) ∙ h.spans;
      texts = map-append (span_text text) found (span ∷ []) ∙ ap (λ l. map (span_text text) found ++ l) (sym texts) ∙ h.texts;
      within = All-push (IsSpanOf text) found span h.within
          (record { ordered = h.ordered; starts = h.starts; ends = IsCharBoundary-end text });
    }

-- no word there
pub all-found : (text : List ℕ) (found : List Span) (start : ℕ) → WordsSoFar text found start (length text)
    → length text ≤ start → AllWords text found
all-found text found start h none =
    let empty : length text - start ≤ 0 = omega arith in
    record {
      spans = sym (append-nil found)
          ∙ ap (λ l. found ++ l)
          (sym (spans_end text start h.ordered h.unbroken ∙ cond-false (nat_lt start (length text))
          (record { start = start; end = length text } ∷ []) [] (le-ltb start (length text) none)))
          ∙ h.spans;
      texts = sym (append-nil (map (span_text text) found))
          ∙ ap (λ l. map (span_text text) found ++ l)
          (sym (texts_end text start h.ordered h.unbroken ∙ cond-false (nat_lt 0 (length text - start)) (part text start (length text) ∷ [])
          [] (le-ltb 0 (length text - start) empty)))
          ∙ h.texts;
      within = h.within;
    }
