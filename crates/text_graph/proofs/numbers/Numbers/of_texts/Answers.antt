-- One more text, and its number.
use Rattle.std.proofs.Common.{◌∙◌, sym, ap, map, take, get_or, ℕ, List, [], Some, Bor}
use Rattle.std.proofs.lemmas.List.{map_more}
use Rattle.text_parts.specs.Cuts.{now_all}
use Rattle.text_graph.specs.Numbers.{place_of, texts_met}
use Rattle.text_graph.proofs.Numbered.{numbers-next}
use Rattle.text_graph.proofs.numbers.Numbers.of_texts.Goals as goal

abbrev now : Bor (List ℕ) → List ℕ
now text = text.now

abbrev none : Bor (List ℕ)
none = record { ref_ptr = (0, 0); now = [] }

pub loop-text-preserved : goal.loop-text-preserved
loop-text-preserved c =
    let so_far = c.loop-text.invariant in
    let more = c.in_ok-of_text.ensures.more in
    let met = texts_met c.of_text.new.self in
    let text = get_or c.args.texts.now c.loop-text.text-index none in
    record {
      numbers = ap (map Some) c.in_ok-push.ensures.items
          ∙ numbers-next (texts_met c.loop-text.self) met more.keeps c.loop-text.numbers.items
          (now_all (take c.loop-text.text-index c.args.texts.now)) c.in_ok-of_text.field-0 text.now so_far.numbers
          c.in_ok-of_text.ensures.number
          ∙ ap (map (place_of met)) (sym (map_more now c.args.texts.now c.loop-text.text-index none c.loop-text-test.true));
      more = record { numbering = more.numbering; keeps = λ other number is. more.keeps other number (so_far.more.keeps other number is) };
    }
