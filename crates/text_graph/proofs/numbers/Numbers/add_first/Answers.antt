-- The first text of its slot is put after the others.
use Rattle.std.proofs.Common.{◌≡◌, ◌∙◌, ◌<◌, sym, ap, subst, arith, ℕ, List, [], ◌∷◌, ◌++◌, set, length, Some, Bor}
use Rattle.std.proofs.lemmas.List.{map-append, length-map, length-set}
use Rattle.text_parts.specs.Cuts.{now_all}
use Rattle.text_graph.specs.Numbers.{place_of, texts_met, EachOnce}
use Rattle.text_graph.specs.Slots.{slot_of, other_of}
use Rattle.text_graph.proofs.Numbered.{place-stays, place-last, once-more}
use Rattle.text_graph.proofs.Slots.{Knows, new_in_slot, knows-first}
use Rattle.text_graph.proofs.numbers.Numbers.add_first.Goals as goal

abbrev now : Bor (List ℕ) → List ℕ
now text = text.now

pub returns-clause-number : goal.returns-clause-number
returns-clause-number c =
    let met = texts_met c.args.self.now in
    let text = c.args.text.now in
    let kept = c.requires.numbering in
    let so_far : Knows slot_of met c.args.self.now.first.items (other_of c.args.self.now) =
    record { inside = kept.inside; spare = kept.spare; knows = kept.knows } in
    let new = new_in_slot slot_of met c.args.self.now.first.items (other_of c.args.self.now) so_far text c.requires.none in
    let after : now_all c.push.new.self.items ≡ met ++ text ∷ [] = ap now_all c.in_ok-push.ensures.items
    ∙ map-append now c.args.self.now.texts.items (c.args.text ∷ []) in
    let count : length met ≡ c.len-number.result = omega (arith, c.len-number.ensures, length-map c.args.self.now.texts.items now) in
    ap (λ met. place_of met text) after ∙ place-last met text new ∙ ap Some count

pub returns-clause-more : goal.returns-clause-more
returns-clause-more c =
    let met = texts_met c.args.self.now in
    let text = c.args.text.now in
    let marks = c.args.self.now.first.items in
    let other = other_of c.args.self.now in
    let kept = c.requires.numbering in
    let so_far : Knows slot_of met marks other = record { inside = kept.inside; spare = kept.spare; knows = kept.knows } in
    let new = new_in_slot slot_of met marks other so_far text c.requires.none in
    let after : now_all c.push.new.self.items ≡ met ++ text ∷ [] = ap now_all c.in_ok-push.ensures.items
    ∙ map-append now c.args.self.now.texts.items (c.args.text ∷ []) in
    let count : length met ≡ c.len-number.result = omega (arith, c.len-number.ensures, length-map c.args.self.now.texts.items now) in
    let fits : slot_of text < length marks = omega (arith, c.requires.inside, c.requires.slot, kept.slots) in
    let all : Knows slot_of (now_all c.push.new.self.items) (set marks c.args.slot (Some c.len-number.result)) other =
    subst (λ met. Knows slot_of met (set marks c.args.slot (Some c.len-number.result)) other) (sym after)
    (subst (λ number. Knows slot_of (met ++ text ∷ []) (set marks c.args.slot (Some number)) other) count
    (subst (λ slot. Knows slot_of (met ++ text ∷ []) (set marks slot (Some (length met))) other) (sym c.requires.slot)
    (knows-first slot_of met marks other so_far text c.requires.none fits))) in
    record {
      numbering = record {
        slots = length-set marks c.args.slot (Some c.len-number.result) ∙ kept.slots;
        inside = all.inside;
        spare = all.spare;
        knows = all.knows;
        once = subst EachOnce (sym after) (once-more met text new kept.once);
      };
      keeps = λ other number is. ap (λ met. place_of met other) after ∙ place-stays met text other number is;
    }
