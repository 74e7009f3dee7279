-- No text was met, and neither the slots nor the map know one.
use Rattle.std.proofs.Common.{◌≡◌, ◌∙◌, sym, ap, subst, refl, ℕ, zero, suc, List, [], length, get_or, replicate, Option, None, Some, Bor}
use Rattle.std.proofs.Common.{arith}
use Rattle.std.proofs.lemmas.List.{length-replicate}
use Rattle.std.proofs.lemmas.Option.{none-some}
use Rattle.std.specs.BTreeMap.{is_at, get_by}
use Rattle.std.specs.Cmp.Lexicographic.{slice_cmp}
use Rattle.std.specs.Map.{lookup}
use Rattle.std.specs.Ordering.{nat_cmp}
use Rattle.text_parts.specs.Cuts.{now_all}
use Rattle.text_graph.specs.Numbers.{EachOnce, place_of, place_kept}
use Rattle.text_graph.specs.Slots.{slot_of}
use Rattle.text_graph.specs.declared.numbers.TheConstants.{SLOTS}
use Rattle.text_graph.proofs.numbers.Numbers.new.Goals as goal

none_once : EachOnce []
none_once place inside = absurd (omega (arith, inside))

none_at : (n at : ℕ) → get_or {A = Option ℕ} (replicate n None) at None ≡ None
none_at zero at = refl
none_at (suc n) zero = refl
none_at (suc n) (suc at) = none_at n at

-- a copy of nothing is nothing, where nothing else may be one
nothing_copied : (copies : Option ℕ → Type 0) → ((x : ℕ) → copies (Some x) → ⊥) → (y : Option ℕ) → copies y → y ≡ None
nothing_copied copies never None is = refl
nothing_copied copies never (Some x) is = absurd (never x is)

pub returns : goal.returns
returns c =
    let none : [] ≡ now_all c.new.result.items = sym (ap now_all c.new.ensures.items) in
    let empty : c.in_ok-vec.field-0.items ≡ replicate SLOTS None = c.in_ok-vec.ensures.items_if_clones_equal
    (nothing_copied _ (λ x never. never)) in
    let no_first : (text : List ℕ) → get_or c.in_ok-vec.field-0.items (slot_of text) None ≡ None =
    λ text. ap (λ marks. get_or marks (slot_of text) None) empty ∙ none_at SLOTS (slot_of text) in
    let no_other = λ (text : List ℕ). ap (lookup (is_at (λ (key : Bor (List ℕ)). slice_cmp nat_cmp text key.now))) c.new-2.ensures.empty in
    record {
      slots = ap length empty ∙ length-replicate {A = Option ℕ} SLOTS None;
      inside = λ text number is. absurd (none-some number (sym (no_first text) ∙ is));
      spare = λ text is. no_other text;
      knows = λ text. ap (λ found. place_kept (now_all c.new.result.items) text found
          (get_by (λ (key : Bor (List ℕ)). slice_cmp nat_cmp text key.now) c.new-2.result)) (no_first text) ∙ no_other text
          ∙ ap (λ met. place_of met text) none;
      once = subst EachOnce none none_once;
    }
