-- One more arrow.
use Rattle.std.proofs.Common.{◌≡◌, ◌∙◌, ◌<◌, sym, ap, arith, map, take, get_or, set, length, ℕ, List, [], ◌∷◌, ◌++◌, Vec, Global}
use Rattle.std.proofs.lemmas.List.{map-set, get_or-map, take_more, length-map, length-set}
use Rattle.text_graph.specs.Numbers.{next_numbers}
use Rattle.text_graph.specs.declared.numbers.NumberedArrow.{NumberedArrow}
use Rattle.text_graph.proofs.Numbered.{stepped, all-nothing}
use Rattle.text_graph.proofs.steps.Steps.over.Goals as goal

abbrev no_arrow : NumberedArrow
no_arrow = record { from = 0; to = 0 }

abbrev items : Vec ℕ Global → List ℕ
items next = next.items

pub loop-arrow-init : goal.loop-arrow-init
loop-arrow-init c = record {
  count = c.in_ok-next.ensures.count;
  next = λ number inside. all-nothing items c.in_ok-next.next.items c.in_ok-next.ensures.none number;
}

pub loop-arrow-preserved : goal.loop-arrow-preserved
loop-arrow-preserved c =
    let so_far = c.loop-arrow.invariant in
    let next = c.loop-arrow.next.items in
    let before = take c.loop-arrow.arrow-index c.args.arrows.now in
    let arrow = get_or c.args.arrows.now c.loop-arrow.arrow-index no_arrow in
    let inside : arrow.from < length next = omega (arith, c.requires c.loop-arrow.arrow-index no_arrow c.loop-arrow-test.true, so_far.count)
    in
    let put : c.push.new.self.items ≡ get_or (map items next) arrow.from [] ++ arrow.to ∷ [] =
    c.in_ok-push.ensures.items ∙ ap (λ all. all ++ arrow.to ∷ []) (ap items c.index_mut.ensures.value
    ∙ sym (get_or-map items next arrow.from c.index_mut.result.now [] inside)) in
    record {
      count = length-set next arrow.from c.push.new.self ∙ so_far.count;
      next = λ number is.
          ap (λ all. get_or all number []) (map-set items next arrow.from c.push.new.self ∙ ap (set (map items next) arrow.from) put)
          ∙ stepped (map items next) before arrow number (omega (arith, inside, length-map next items)) (so_far.next number is)
          ∙ ap (λ all. next_numbers all number)
          (sym (take_more c.args.arrows.now c.loop-arrow.arrow-index no_arrow c.loop-arrow-test.true));
    }
