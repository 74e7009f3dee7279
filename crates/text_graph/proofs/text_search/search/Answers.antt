-- The search goes on from number to number.
use Rattle.std.proofs.Common.{◌≡◌, ◌∙◌, ◌<◌, sym, ap, subst, arith, ◌+◌, ℕ, List, [], map, get_or, length, Some, Bor}
use Rattle.std.proofs.lemmas.List.{length-map, get_or_default}
use Rattle.std.proofs.lemmas.Result.{IfOk-weaker}
use Rattle.std.specs.List.{All}
use Rattle.text_parts.specs.Cuts.{now_all}
use Rattle.text_graph.specs.Arrows.{ArrowValue, arrow_seen, arrows_seen}
use Rattle.text_graph.specs.Numbers.{place_of, texts_met, text_at, next_numbers, numbers_added}
use Rattle.text_graph.specs.TextSearch.{FindsAll}
use Rattle.text_graph.specs.declared.numbers.NumberedArrow.{NumberedArrow}
use Rattle.text_graph.specs.declared.numbers.Numbers.{Numbers}
use Rattle.text_graph.proofs.Numbered.{all-mapped, numbers-inside, numbers-stay, begins, ends, texts_from, texts_to}
use Rattle.text_graph.proofs.NumberSearches.{AreArrows, Finds, finds-begins, finds-goes_on, finds-bound, finds-ends, next_inside}
use Rattle.text_graph.proofs.NumberSearches.{number_inside}
use Rattle.text_graph.proofs.text_search.search.Goals as goal

abbrev now : Bor (List ℕ) → List ℕ
now text = text.now

-- all numbers are below a count
abbrev Below : ℕ → List ℕ → Type 0
Below count numbers = All (λ number. number < count) numbers

pub over-requires : goal.over-requires
over-requires c =
    let arrows = arrows_seen c.args.arrows.now in
    let numbered = c.in_ok-numbered.numbered.items in
    let met = texts_met c.of_texts.new.self in
    let from = numbers-stay (texts_met c.of_arrows.new.self) met c.in_ok-first.ensures.more.keeps (begins numbered) (texts_from arrows)
    c.in_ok-numbered.ensures.from in
    let inside : All (λ (arrow : NumberedArrow). arrow.from < length met) numbered =
    all-mapped (λ number. number < length met) (λ (arrow : NumberedArrow). arrow.from) numbered
    (numbers-inside met (begins numbered) (texts_from arrows) from) in
    subst (λ count. All (λ (arrow : NumberedArrow). arrow.from < count) c.deref.result.now) (sym c.count.ensures)
    (subst (All (λ (arrow : NumberedArrow). arrow.from < length met)) (sym c.deref.ensures.value) inside)

pub with_all-requires-clause-inside : goal.with_all-requires-clause-inside
with_all-requires-clause-inside c =
    let met = texts_met c.of_texts.new.self in
    subst (λ count. Below count c.deref-2.result.now) (sym (c.in_ok-new.ensures.count ∙ c.count-2.ensures))
    (subst (Below (length met)) (sym c.deref-2.ensures.value) (numbers-inside met c.in_ok-first.first.items (now_all c.args.starts.now)
    c.in_ok-first.ensures.numbers))

pub loop-place-init : goal.loop-place-init
loop-place-init c =
    let starts = now_all c.args.starts.now in
    let arrows = arrows_seen c.args.arrows.now in
    let met = texts_met c.of_texts.new.self in
    let first = c.in_ok-first.first.items in
    let are : c.in_ok-found.found.numbers.items ≡ numbers_added [] first =
    c.in_ok-found.ensures.numbers ∙ ap (λ numbers. numbers_added numbers c.deref-2.result.now) c.in_ok-new.ensures.numbers
    ∙ ap (numbers_added []) c.deref-2.ensures.value in
    record {
      finds = subst (λ numbers. Finds starts arrows met numbers 0) (sym are)
          (finds-begins starts arrows met first c.in_ok-first.ensures.numbers);
      knows = c.in_ok-found.ensures.knows;
      count = c.in_ok-found.ensures.count ∙ c.in_ok-new.ensures.count ∙ c.count-2.ensures;
    }

are_arrows : (old new : Numbers) (numbered : List NumberedArrow) (arrows : List ArrowValue)
    → ((text : List ℕ) (number : ℕ) → place_of (texts_met old) text ≡ Some number → place_of (texts_met new) text ≡ Some number)
    → AreArrows (texts_met old) numbered arrows → AreArrows (texts_met new) numbered arrows
are_arrows old new numbered arrows keeps are = record {
  from = numbers-stay (texts_met old) (texts_met new) keeps (begins numbered) (texts_from arrows) are.from;
  to = numbers-stay (texts_met old) (texts_met new) keeps (ends numbered) (texts_to arrows) are.to;
}

-- the numbers where the code goes on are those that the arrows lead to
pub next-next-requires : goal.next-next-requires
next-next-requires c =
    let so_far = c.loop-place.invariant in
    let found = c.loop-place.found.numbers.items in
    let place = c.loop-place.place in
    let inside : place < length found = omega (arith, c.loop-place-test.true, c.len.ensures) in
    let at : c.index.result.now ≡ get_or found place 0 = c.index.ensures ∙ get_or_default found place c.index.result.now 0 inside in
    let below = number_inside (now_all c.args.starts.now) (arrows_seen c.args.arrows.now) (texts_met c.of_texts.new.self) found place
    so_far.finds place 0 inside in
    omega (arith, below, at, c.in_ok-steps.ensures.count, c.count.ensures)

pub with_all-requires-in-loop-place-clause-inside : goal.with_all-requires-in-loop-place-clause-inside
with_all-requires-in-loop-place-clause-inside c =
    let starts = now_all c.args.starts.now in
    let arrows = arrows_seen c.args.arrows.now in
    let met = texts_met c.of_texts.new.self in
    let so_far = c.loop-place.invariant in
    let found = c.loop-place.found.numbers.items in
    let place = c.loop-place.place in
    let numbered = c.in_ok-numbered.numbered.items in
    let inside : place < length found = omega (arith, c.loop-place-test.true, c.len.ensures) in
    let at : c.index.result.now ≡ get_or found place 0 = c.index.ensures ∙ get_or_default found place c.index.result.now 0 inside in
    let below = number_inside starts arrows met found place so_far.finds place 0 inside in
    let next : c.next-next.result.now ≡ next_numbers numbered (get_or found place 0) =
    c.next-next.ensures ∙ c.in_ok-steps.ensures.next c.index.result.now (omega (arith, below, at, c.count.ensures))
    ∙ ap (λ number. next_numbers c.deref.result.now number) at
    ∙ ap (λ arrows. next_numbers arrows (get_or found place 0)) c.deref.ensures.value in
    let are = are_arrows c.of_arrows.new.self c.of_texts.new.self numbered arrows c.in_ok-first.ensures.more.keeps
    (record { from = c.in_ok-numbered.ensures.from; to = c.in_ok-numbered.ensures.to }) in
    subst (λ count. Below count c.next-next.result.now) (sym so_far.count)
    (subst (Below (length met)) (sym next) (next_inside starts arrows met found place so_far.finds numbered are inside))

pub loop-place-smaller : goal.loop-place-smaller
loop-place-smaller c =
    let bound = finds-bound (now_all c.args.starts.now) (arrows_seen c.args.arrows.now) (texts_met c.of_texts.new.self)
    c.loop-place.found.numbers.items c.loop-place.place c.loop-place.invariant.finds in
    omega (arith, bound, length-map c.args.starts.now now, c.loop-place-test.true, c.len.ensures, length-map c.args.arrows.now arrow_seen)

pub loop-place-preserved : goal.loop-place-preserved
loop-place-preserved c =
    let starts = now_all c.args.starts.now in
    let arrows = arrows_seen c.args.arrows.now in
    let met = texts_met c.of_texts.new.self in
    let so_far = c.loop-place.invariant in
    let found = c.loop-place.found.numbers.items in
    let place = c.loop-place.place in
    let numbered = c.in_ok-numbered.numbered.items in
    let inside : place < length found = omega (arith, c.loop-place-test.true, c.len.ensures) in
    let at : c.index.result.now ≡ get_or found place 0 = c.index.ensures ∙ get_or_default found place c.index.result.now 0 inside in
    let below = number_inside starts arrows met found place so_far.finds place 0 inside in
    let next : c.next-next.result.now ≡ next_numbers numbered (get_or found place 0) =
    c.next-next.ensures ∙ c.in_ok-steps.ensures.next c.index.result.now (omega (arith, below, at, c.count.ensures))
    ∙ ap (λ number. next_numbers c.deref.result.now number) at
    ∙ ap (λ arrows. next_numbers arrows (get_or found place 0)) c.deref.ensures.value in
    let are = are_arrows c.of_arrows.new.self c.of_texts.new.self numbered arrows c.in_ok-first.ensures.more.keeps
    (record { from = c.in_ok-numbered.ensures.from; to = c.in_ok-numbered.ensures.to }) in
    record {
      finds = subst (λ numbers. Finds starts arrows met numbers (place + 1))
          (sym (c.in_ok-found-2.ensures.numbers ∙ ap (numbers_added found) next))
          (finds-goes_on starts arrows met found place so_far.finds numbered are inside);
      knows = c.in_ok-found-2.ensures.knows;
      count = c.in_ok-found-2.ensures.count ∙ so_far.count;
    }

pub texts_of-requires : goal.texts_of-requires
texts_of-requires c =
    subst (Below (length (texts_met c.of_texts.new.self))) (sym c.deref-3.ensures.value)
    (number_inside (now_all c.args.starts.now) (arrows_seen c.args.arrows.now) (texts_met c.of_texts.new.self)
    c.loop-place.found.numbers.items c.loop-place.place c.loop-place.invariant.finds)

pub returns : goal.returns
returns c =
    let starts = now_all c.args.starts.now in
    let arrows = arrows_seen c.args.arrows.now in
    let met = texts_met c.of_texts.new.self in
    let found = c.loop-place.found.numbers.items in
    let ends : FindsAll starts arrows (map (text_at met) found) =
    finds-ends starts arrows met found c.loop-place.place c.loop-place.invariant.finds
    (omega (arith, c.loop-place-test.false, c.len.ensures)) in
    IfOk-weaker c.texts_of.result (λ texts. now_all texts.items ≡ map (text_at met) c.deref-3.result.now)
    (λ texts. FindsAll starts arrows (now_all texts.items))
    (λ texts is. subst (FindsAll starts arrows) (sym (is ∙ ap (map (text_at met)) c.deref-3.ensures.value)) ends) c.texts_of.ensures
