-- One more arrow, by numbers.
use Rattle.std.proofs.Common.{◌≡◌, ◌∙◌, sym, ap, map, take, get_or, ◌+◌, ℕ, List, [], ◌∷◌, ◌++◌, Some, Bor}
use Rattle.std.proofs.lemmas.List.{map_more, map_push}
use Rattle.text_graph.specs.Arrows.{ArrowValue, arrow_seen, arrows_seen}
use Rattle.text_graph.specs.Numbers.{place_of, texts_met}
use Rattle.text_graph.specs.declared.arrow.Arrow.{Arrow}
use Rattle.text_graph.specs.declared.numbers.NumberedArrow.{NumberedArrow}
use Rattle.text_graph.proofs.Numbered.{numbers-next, begins, ends, texts_from, texts_to}
use Rattle.text_graph.proofs.numbers.Numbers.of_arrows.Goals as goal

abbrev none : Bor (List ℕ)
none = record { ref_ptr = (0, 0); now = [] }

abbrev no_arrow : Arrow
no_arrow = record { from = none; to = none }

pub loop-arrow-preserved : goal.loop-arrow-preserved
loop-arrow-preserved c =
    let so_far = c.loop-arrow.invariant in
    let more = c.in_ok-last.ensures.more in
    let old = texts_met c.loop-arrow.self in
    let met = texts_met c.of_arrow.new.self in
    let before = arrows_seen (take c.loop-arrow.arrow-index c.args.arrows.now) in
    let arrow = get_or c.args.arrows.now c.loop-arrow.arrow-index no_arrow in
    let numbered = c.loop-arrow.numbered.items in
    let last = c.in_ok-last.last in
    let arrows : arrows_seen (take (c.loop-arrow.arrow-index + 1) c.args.arrows.now) ≡ before ++ arrow_seen arrow ∷ [] =
    map_more arrow_seen c.args.arrows.now c.loop-arrow.arrow-index no_arrow c.loop-arrow-test.true in
    record {
      from = ap (λ all. map Some (begins all)) c.in_ok-push.ensures.items
          ∙ ap (map Some) (map_push (λ (arrow : NumberedArrow). arrow.from) numbered last)
          ∙ numbers-next old met more.keeps (begins numbered) (texts_from before) last.from arrow.from.now so_far.from
          c.in_ok-last.ensures.from
          ∙ ap (map (place_of met)) (sym (ap texts_from arrows ∙ map_push (λ (arrow : ArrowValue). arrow.from) before (arrow_seen arrow)));
      to = ap (λ all. map Some (ends all)) c.in_ok-push.ensures.items
          ∙ ap (map Some) (map_push (λ (arrow : NumberedArrow). arrow.to) numbered last)
          ∙ numbers-next old met more.keeps (ends numbered) (texts_to before) last.to arrow.to.now so_far.to c.in_ok-last.ensures.to
          ∙ ap (map (place_of met)) (sym (ap texts_to arrows ∙ map_push (λ (arrow : ArrowValue). arrow.to) before (arrow_seen arrow)));
      more = record { numbering = more.numbering; keeps = λ other number is. more.keeps other number (so_far.more.keeps other number is) };
    }
