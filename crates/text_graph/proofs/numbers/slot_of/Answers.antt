-- Four bytes more, and the bytes that are left at the end.
use Rattle.std.proofs.Common.{◌≡◌, ◌∙◌, ◌/◌, ◌%◌, ◌^◌, ◌<◌, ◌≤◌, ◌-◌, ap, refl, arith, ℕ, List, [], ◌∷◌, length, drop, get_or, w32}
use Rattle.std.proofs.lemmas.List.{take_all, length-drop}
use Rattle.std.specs.Int.{from_le_bytes}
use Rattle.std.specs.List.{fold}
use Rattle.text_graph.specs.Slots.{spread, spread_with_bytes, slot_of}
use Rattle.text_graph.specs.declared.numbers.TheConstants.{SLOTS}
use Rattle.text_graph.proofs.numbers.slot_of.Goals as goal

four_more : (mark : ℕ) (rest : List ℕ) → 4 ≤ length rest
    → spread_with_bytes (spread mark (from_le_bytes w32 (get_or rest 0 0 ∷ get_or rest 1 0 ∷ get_or rest 2 0 ∷ get_or rest 3 0 ∷ [])))
    (drop 4 rest) ≡ spread_with_bytes mark rest
unfolding spread_with_bytes
four_more mark (a ∷ b ∷ c ∷ d ∷ rest) enough = refl
four_more mark (a ∷ b ∷ c ∷ []) enough = absurd (omega (arith, enough))
four_more mark (a ∷ b ∷ []) enough = absurd (omega (arith, enough))
four_more mark (a ∷ []) enough = absurd (omega (arith, enough))
four_more mark [] enough = absurd (omega (arith, enough))

few_left : (mark : ℕ) (rest : List ℕ) → length rest < 4 → fold spread mark rest ≡ spread_with_bytes mark rest
unfolding spread_with_bytes
few_left mark (a ∷ b ∷ c ∷ d ∷ rest) few = absurd (omega (arith, few))
few_left mark (a ∷ b ∷ c ∷ []) few = refl
few_left mark (a ∷ b ∷ []) few = refl
few_left mark (a ∷ []) few = refl
few_left mark [] few = refl

pub loop-rest-preserved : goal.loop-rest-preserved
loop-rest-preserved c =
    let mark = c.loop-rest.mark in
    let rest = c.loop-rest.rest.now in
    ap (spread_with_bytes c.spread-mark.result) (take_all (length rest - 4) (drop 4 rest) (omega (arith, length-drop 4 rest)))
    ∙ ap (λ mark. spread_with_bytes mark (drop 4 rest)) (c.spread-mark.ensures
    ∙ ap (spread mark) (c.from.ensures ∙ c.from_le_bytes-four.ensures))
    ∙ four_more mark rest (omega (arith, c.in-len4-up.len_at_least))
    ∙ c.loop-rest.invariant

pub returns-clause-is : goal.returns-clause-is
unfolding slot_of
returns-clause-is c =
    ap (λ mark. mark / 2 ^ 48 % SLOTS)
    (c.spread_bytes.ensures ∙ few_left c.loop-rest.mark c.loop-rest.rest.now (omega (arith, c.in_default.len_below))
    ∙ c.loop-rest.invariant)
