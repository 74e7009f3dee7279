use Rattle.std.proofs.Common.{◌≡◌, ◌≢◌, ℕ, ◌+◌, ◌<◌, ◌≤◌, cond, List, [], ◌∷◌, ◌++◌, take, length, get_or, sym, ap, subst, ◌∙◌, arith}
use Rattle.std.proofs.Common.{append_assoc, append-nil, string_bytes, lit<, nat_eq}
use Rattle.std.specs.Prelude.{slice_range}
use Rattle.std.specs.Str.{IsCharBoundary}
use Rattle.std.proofs.lemmas.Bool.{ne_eqb}
use Rattle.std.proofs.lemmas.List.{take_more}
use Rattle.std.proofs.lemmas.Grind.{flat_map-append}
use Rattle.std.proofs.lemmas.Str.{IsCharBoundary-start, IsCharBoundary-before_ascii, IsCharBoundary-after_ascii}
use Rattle.general_facts.specs.Lists.{slice_range-one}
use Rattle.mk_ref.proofs.InsideSteps.{range_join}
use Rattle.mk_loop.specs.BodyLine.{double_dollars}
use Rattle.mk_loop.proofs.joined_text.double_dollars.Goals as goal
use Rattle.mk_loop.proofs.joined_text.double_dollars.Goals.{then-bytes-at-eq36+in_ok-push_str, else-bytes-at-eq36}

further : (text : List ℕ) (at : ℕ) → at < length text → double_dollars (take (at + 1) text) ≡ double_dollars (take at text) ++
    double_dollars (get_or text at 0 ∷ [])
further text at near = ap double_dollars (take_more text at 0 near) ∙ flat_map-append (λ b. cond (nat_eq b 36) (36 ∷ 36 ∷ []) (b ∷ []))
    (take at text) (get_or text at 0 ∷ [])

other-byte : (made text : List ℕ) (copied at : ℕ) → copied ≤ at → at < length text → get_or text at 0 ≢ 36
    → made ++ slice_range text copied at ≡ double_dollars (take at text)
    → made ++ slice_range text copied (at + 1) ≡ double_dollars (take (at + 1) text)
other-byte made text copied at low near other so_far =
    ap (λ l. made ++ l) (sym (range_join text copied at (at + 1) low (omega arith)) ∙ ap (λ l. slice_range text copied at ++ l)
    (slice_range-one text at near))
    ∙ sym (append_assoc made (slice_range text copied at) (get_or text at 0 ∷ []))
    ∙ ap (λ l. l ++ get_or text at 0 ∷ []) so_far
    ∙ ap (λ l. double_dollars (take at text) ++ l) (ap (λ t. cond t (36 ∷ 36 ∷ []) (get_or text at 0 ∷ []) ++ [])
    (sym (ne_eqb (get_or text at 0) 36 other)))
    ∙ sym (further text at near)

dollar-byte : (made text : List ℕ) (copied at : ℕ) → copied ≤ at → at < length text → get_or text at 0 ≡ 36
    → made ++ slice_range text copied at ≡ double_dollars (take at text)
    → (made ++ slice_range text copied (at + 1)) ++ slice_range text at (at + 1) ≡ double_dollars (take (at + 1) text)
dollar-byte made text copied at low near dollar so_far =
    let single : slice_range text at (at + 1) ≡ 36 ∷ [] = slice_range-one text at near ∙ ap (λ b. b ∷ []) dollar in
    ap (λ l. (made ++ slice_range text copied (at + 1)) ++ l) single
    ∙ ap (λ l. (made ++ l) ++ 36 ∷ []) (sym (range_join text copied at (at + 1) low (omega arith))
    ∙ ap (λ l. slice_range text copied at ++ l) single)
    ∙ ap (λ l. l ++ 36 ∷ []) (sym (append_assoc made (slice_range text copied at) (36 ∷ [])) ∙ ap (λ l. l ++ 36 ∷ []) so_far)
    ∙ append_assoc (double_dollars (take at text)) (36 ∷ []) (36 ∷ [])
    ∙ ap (λ b. double_dollars (take at text) ++ double_dollars (b ∷ [])) (sym dollar)
    ∙ sym (further text at near)

pub loop-at-init : goal.loop-at-init
loop-at-init c = record {
  ordered = omega arith;
  starts = IsCharBoundary-start c.args.text.now c.utf8.text;
  made =
      append-nil (string_bytes c.new-made.result) ∙ c.new-made.ensures.bytes;
}

pub range-requires-clause-end_boundary : goal.range-requires-clause-end_boundary
range-requires-clause-end_boundary c =
    IsCharBoundary-after_ascii c.args.text.now c.loop-at.at c.utf8.text (omega arith)
    (subst (λ b. b < 128) (sym (ap (λ l. get_or l c.loop-at.at 0) (sym c.as_bytes-bytes.ensures.value) ∙ c.if-bytes-at-eq36.true))
    (lit< tt))

pub loop-at-preserved : goal.loop-at-preserved
loop-at-preserved c =
    let text = c.args.text.now in
    let at = c.loop-at.at in
    let byte : get_or text at 0 ≡ get_or c.as_bytes-bytes.result.now at 0 = ap (λ l. get_or l at 0) (sym c.as_bytes-bytes.ensures.value) in
    elim c.if-bytes-at-eq36.branch [
      | then-bytes-at-eq36+in_ok-push_str w ↦ record {
        ordered = omega (arith, w.copied-is);
        starts = subst (IsCharBoundary text) (sym w.copied-is)
            (IsCharBoundary-before_ascii text at (omega arith) (subst (λ b. b < 128) (sym (byte ∙ w.if-bytes-at-eq36.true)) (lit< tt)));
        made = ap (λ l. string_bytes l ++ slice_range text c.if-bytes-at-eq36.copied (at + 1)) w.made-is
            ∙ ap (λ n. string_bytes w.push_str.new.self ++ slice_range text n (at + 1)) w.copied-is
            ∙ ap (λ l. l ++ slice_range text at (at + 1)) (w.in_ok-push_str.ensures.bytes
            ∙ ap (λ l. string_bytes c.loop-at.made ++ l) w.range.ensures.value)
            ∙ dollar-byte (string_bytes c.loop-at.made) text c.loop-at.copied at c.loop-at.invariant.ordered (omega arith)
            (byte ∙ w.if-bytes-at-eq36.true) c.loop-at.invariant.made;
      }
      | else-bytes-at-eq36 w ↦ record {
        ordered = omega (arith, w.copied-is, c.loop-at.invariant.ordered);
        starts = subst (IsCharBoundary text) (sym w.copied-is) c.loop-at.invariant.starts;
        made = ap (λ l. string_bytes l ++ slice_range text c.if-bytes-at-eq36.copied (at + 1)) w.made-is
            ∙ ap (λ n. string_bytes c.loop-at.made ++ slice_range text n (at + 1)) w.copied-is
            ∙ other-byte (string_bytes c.loop-at.made) text c.loop-at.copied at c.loop-at.invariant.ordered (omega arith)
            (λ dollar. w.if-bytes-at-eq36.false (sym byte ∙ dollar)) c.loop-at.invariant.made;
      }
    ]
