-- The logical lines of the source lines that are left, from a run that is open or from none.
use Rattle.std.proofs.Common.{◌≡◌, ℕ, suc, ◌+◌, true, false, List, [], ◌∷◌, ◌++◌, length, flat_map, Option, Some, None, Bor, eqb}
use Rattle.std.proofs.Common.{string_bytes, ◌≤◌, lit<, refl, sym, ap, ap₂, ◌∙◌, arith, append_assoc, append-nil}
use Rattle.std.proofs.lemmas.Bool.{cond-true, cond-false}
use Rattle.std.proofs.lemmas.Iterator.Splits.{YieldsList-from_str_split}
use Rattle.std.proofs.lemmas.List.Splits.{length-slice_split}
use Rattle.std.proofs.lemmas.List.Sums.{count_by-le-length}
use Rattle.std.specs.Iterator.{AlwaysYields}
use Rattle.std.specs.List.{onto_first, slice_split}
use Rattle.std.specs.Str.Iter.{split_steps, split_text, split_has_more, split_pattern}
use Rattle.std.specs.Str.Pattern.{FindsChar}
use Rattle.std.specs.declared.str.Split.{Split}
use Rattle.mk_text.specs.declared.lines.Run.{Run}
use Rattle.mk_text.specs.Lines.{LogicalLine, goes_on, unmarked, runs_of, continued, line_at, lines_from, logical_lines}

-- the lines of the source lines after the first `number` ones, if no run is open
abbrev pub fresh : ℕ → List (List ℕ) → List LogicalLine
fresh number pieces = lines_from (number + 1) (runs_of pieces)

-- the lines of runs of which the first goes on with a text that began at `line`
abbrev pub onto : ℕ → List ℕ → ℕ → List (List (List ℕ)) → List LogicalLine
onto line text number [] = line_at line text ∷ []
onto line text number (run ∷ rest) = line_at line (text ++ flat_map continued run) ∷ lines_from (number + length run + 1) rest

-- the same where a run is open, whose text so far began at `line`
abbrev pub resumed : ℕ → List ℕ → ℕ → List (List ℕ) → List LogicalLine
resumed line text number pieces = onto line text number (runs_of pieces)

begun : (piece : List ℕ) (number : ℕ) (runs : List (List (List ℕ))) → lines_from (number + 1) (onto_first piece runs) ≡ onto (number + 1)
    (unmarked piece) (number + 1) runs
begun piece number [] = ap (λ t. line_at (number + 1) t ∷ []) (append-nil (unmarked piece))
begun piece number (run ∷ rest) =
    let count : number + 1 + suc (length run) ≡ number + 1 + length run + 1 = omega arith in
    ap (λ n. line_at (number + 1) (unmarked piece ++ flat_map continued run) ∷ lines_from n rest) count

more : (line : ℕ) (text piece : List ℕ) (number : ℕ) (runs : List (List (List ℕ)))
    → onto line text number (onto_first piece runs) ≡ onto line (text ++ continued piece) (number + 1) runs
more line text piece number [] = ap (λ t. line_at line (text ++ t) ∷ []) (append-nil (continued piece))
more line text piece number (run ∷ rest) =
    let count : number + suc (length run) + 1 ≡ number + 1 + length run + 1 = omega arith in
    ap (λ t. line_at line t ∷ lines_from (number + suc (length run) + 1) rest)
    (sym (append_assoc text (continued piece) (flat_map continued run)))
    ∙ ap (λ n. line_at line ((text ++ continued piece) ++ flat_map continued run) ∷ lines_from n rest) count

-- a source line that begins a run and goes on
pub fresh-open : (number : ℕ) (piece : List ℕ) (pieces : List (List ℕ)) → goes_on piece ≡ true
    → fresh number (piece ∷ pieces) ≡ resumed (number + 1) (unmarked piece) (number + 1) pieces
fresh-open number piece pieces h =
    ap (lines_from (number + 1)) (cond-true (goes_on piece) (onto_first piece (runs_of pieces)) ((piece ∷ []) ∷ runs_of pieces) h)
    ∙ begun piece number (runs_of pieces)

-- a source line that is a run
pub fresh-whole : (number : ℕ) (piece : List ℕ) (pieces : List (List ℕ)) → goes_on piece ≡ false
    → fresh number (piece ∷ pieces) ≡ line_at (number + 1) (unmarked piece) ∷ fresh (number + 1) pieces
fresh-whole number piece pieces h =
    ap (lines_from (number + 1)) (cond-false (goes_on piece) (onto_first piece (runs_of pieces)) ((piece ∷ []) ∷ runs_of pieces) h)
    ∙ ap (λ t. line_at (number + 1) t ∷ fresh (number + 1) pieces) (append-nil (unmarked piece))

-- a source line of an open run that goes on
pub resumed-open : (line : ℕ) (text : List ℕ) (number : ℕ) (piece : List ℕ) (pieces : List (List ℕ)) → goes_on piece ≡ true
    → resumed line text number (piece ∷ pieces) ≡ resumed line (text ++ continued piece) (number + 1) pieces
resumed-open line text number piece pieces h =
    ap (onto line text number) (cond-true (goes_on piece) (onto_first piece (runs_of pieces)) ((piece ∷ []) ∷ runs_of pieces) h)
    ∙ more line text piece number (runs_of pieces)

-- the last source line of an open run
pub resumed-last : (line : ℕ) (text : List ℕ) (number : ℕ) (piece : List ℕ) (pieces : List (List ℕ)) → goes_on piece ≡ false
    → resumed line text number (piece ∷ pieces) ≡ line_at line (text ++ continued piece) ∷ fresh (number + 1) pieces
resumed-last line text number piece pieces h =
    ap (onto line text number) (cond-false (goes_on piece) (onto_first piece (runs_of pieces)) ((piece ∷ []) ∷ runs_of pieces) h)
    ∙ ap (λ t. line_at line (text ++ t) ∷ fresh (number + 1) pieces) (append-nil (continued piece))

-- what a `None` says of the pieces that are left, and what a `Some`
pub none_left : {S A B : Type 0} (steps : S → Option A → S → Type 0) (v : A → B) (s t : S) (left : List B) → AlwaysYields steps v s left
    → steps s None t → left ≡ []
none_left steps v s t [] h k = refl
none_left steps v s t (y ∷ ys) h k = absurd (h.0 t k)

pub some_left : {S A B : Type 0} (steps : S → Option A → S → Type 0) (v : A → B) (s t : S) (x : A) (left : List B)
    → AlwaysYields steps v s left → steps s (Some x) t
    → (rest : List B) × (left ≡ v x ∷ rest) × AlwaysYields steps v t rest
some_left steps v s t x [] h k = absurd (h x t k)
some_left steps v s t x (y ∷ ys) h k = (ys, ap (λ z. z ∷ ys) (sym (h.1 x t k).0), (h.1 x t k).1)

-- the lines of the source lines that are left, after the first `number` ones
abbrev pub pending : Option Run → ℕ → List (List ℕ) → List LogicalLine
pending None number pieces = fresh number pieces
pending (Some run) number pieces = resumed run.line (string_bytes run.joined) number pieces

-- how `text.split('\n')` goes on
abbrev pub cuts : Split ℕ → Option (Bor (List ℕ)) → Split ℕ → Type 0
cuts = split_steps FindsChar (λ a b. b ≡ a)

-- the lines made so far and the run that is open, after the first `number` source lines of a text, and the source lines that are left
pub record LinesSoFar (text : List ℕ) (made : List LogicalLine) (run : Option Run) (number : ℕ) (pieces : Split ℕ) : Type 0 where
  pub left : List (List ℕ)
  pub yields : AlwaysYields cuts (λ x. x.now) pieces left
  pub lines : made ++ pending run number left ≡ logical_lines text
  pub count : number + length left ≤ length text + 1

pub so_far-none : (text : List ℕ) (pieces : Split ℕ) → split_text pieces ≡ text → split_has_more pieces ≡ true → split_pattern pieces ≡ 10
    → LinesSoFar text [] None 0 pieces
unfolding logical_lines
so_far-none text pieces t m p = record {
  left = slice_split (λ b. eqb b 10) text;
  yields = (YieldsList-from_str_split {s = pieces} 10 text (lit< tt) t m p).runs;
  lines = refl;
  count = omega (arith, length-slice_split (λ b. eqb b 10) text, count_by-le-length (λ b. eqb b 10) text);
}

-- the run with one more source line: of an open run, or one that begins
abbrev pub Extends : Option Run → ℕ → List ℕ → Run → Type 0
Extends None number piece run = (string_bytes run.joined ≡ unmarked piece) × (run.line ≡ number + 1)
Extends (Some before) number piece run = (string_bytes run.joined ≡ string_bytes before.joined ++ continued piece)
    × (run.line ≡ before.line)

pending-open : (o : Option Run) (number : ℕ) (piece : List ℕ) (run : Run) (rest : List (List ℕ))
    → Extends o number piece run → goes_on piece ≡ true
    → pending o number (piece ∷ rest) ≡ pending (Some run) (number + 1) rest
pending-open None number piece run rest h t =
    fresh-open number piece rest t ∙ ap₂ (λ line text. resumed line text (number + 1) rest) (sym h.1) (sym h.0)
pending-open (Some before) number piece run rest h t =
    resumed-open before.line (string_bytes before.joined) number piece rest t
    ∙ ap₂ (λ line text. resumed line text (number + 1) rest) (sym h.1) (sym h.0)

pending-last : (o : Option Run) (number : ℕ) (piece : List ℕ) (run : Run) (rest : List (List ℕ))
    → Extends o number piece run → goes_on piece ≡ false
    → pending o number (piece ∷ rest) ≡ line_at run.line (string_bytes run.joined) ∷ pending None (number + 1) rest
pending-last None number piece run rest h f =
    fresh-whole number piece rest f
    ∙ ap₂ (λ line text. line_at line text ∷ fresh (number + 1) rest) (sym h.1) (sym h.0)
pending-last (Some before) number piece run rest h f =
    resumed-last before.line (string_bytes before.joined) number piece rest f
    ∙ ap₂ (λ line text. line_at line text ∷ fresh (number + 1) rest) (sym h.1) (sym h.0)

module _ (text : List ℕ) (made : List LogicalLine) (o : Option Run) (number : ℕ) (s t : Split ℕ) (piece : Bor (List ℕ))
    (h : LinesSoFar text made o number s) (k : cuts s (Some piece) t) where
  next_left : (rest : List (List ℕ)) × (h.left ≡ piece.now ∷ rest) × AlwaysYields cuts (λ x. x.now) t rest
  next_left = some_left cuts (λ x. x.now) s t piece h.left h.yields k

  -- source lines are no more than one more than the bytes
  pub number_below : number + 1 ≤ length text + 1
  number_below = omega (arith, h.count, ap length next_left.1)

  -- a source line that goes on
  pub so_far-open : (run : Run) → Extends o number piece.now run → goes_on piece.now ≡ true → LinesSoFar text made (Some run) (number + 1) t
  so_far-open run e marked = record {
    left = next_left.0;
    yields = next_left.2;
    lines = ap (λ l. made ++ l) (sym (ap (pending o number) next_left.1 ∙ pending-open o number piece.now run next_left.0 e marked))
        ∙ h.lines;
    count = omega (arith, h.count, ap length next_left.1);
  }

  -- the last source line of a run
  pub so_far-line : (run : Run) → Extends o number piece.now run → goes_on piece.now ≡ false
      → LinesSoFar text (made ++ line_at run.line (string_bytes run.joined) ∷ []) None (number + 1) t
  so_far-line run e plain = record {
    left = next_left.0;
    yields = next_left.2;
    lines = append_assoc made (line_at run.line (string_bytes run.joined) ∷ []) (pending None (number + 1) next_left.0)
        ∙ ap (λ l. made ++ l) (sym (ap (pending o number) next_left.1 ∙ pending-last o number piece.now run next_left.0 e plain)) ∙ h.lines;
    count = omega (arith, h.count, ap length next_left.1);
  }

module _ (text : List ℕ) (made : List LogicalLine) (number : ℕ) (s t : Split ℕ) (k : cuts s None t) where
  -- at the end with no open run
  pub all-closed : LinesSoFar text made None number s → made ≡ logical_lines text
  all-closed h = sym (append-nil made) ∙ ap (λ l. made ++ pending None number l) (sym (none_left cuts (λ x. x.now) s t h.left h.yields k))
      ∙ h.lines

  -- at the end with an open run
  pub all-open : (run : Run) → LinesSoFar text made (Some run) number s → made ++ line_at run.line (string_bytes run.joined)
      ∷ [] ≡ logical_lines text
  all-open run h = ap (λ l. made ++ pending (Some run) number l) (sym (none_left cuts (λ x. x.now) s t h.left h.yields k)) ∙ h.lines
