-- The next items are the same texts.
use Rattle.std.proofs.Common.{◌≡◌, ◌∙◌, ◌<◌, ◌++◌, ◌∷◌, [], ap, sym, refl, Bool, true, false, not, length, take, arith}
use Rattle.std.proofs.lemmas.List.{map-append, take_more}
use Rattle.std.proofs.lemmas.Slice.Eq.{bytes_eq-Decides}
use Rattle.port_rules.specs.Depends.{DependValue}
use Rattle.port_index.specs.Alike.{dependency_items}
use Rattle.port_index.proofs.alike_rows.have_same_items.Goals as goal

same_by : (same : Bool) → false ≡ not same → same ≡ true
same_by true is = refl
same_by false is = absurd cc

pub loop-place-preserved : goal.loop-place-preserved
loop-place-preserved c =
    let place = c.loop-place.place in
    let old = c.args.old.now in
    let new = c.args.new.now in
    let here = c.index-old-place.result in
    let there = c.index-new-place.result in
    let in_old : place < length old = omega arith in
    let in_new : place < length new = omega arith in
    let same = (bytes_eq-Decides c.item.result.now c.item-in-loop-place.result.now).0 (same_by _ c.if-ne.ensures) in
    let texts : there.item ≡ here.item = sym c.item-in-loop-place.ensures ∙ sym same ∙ c.item.ensures in
    ap dependency_items (take_more new place there in_new ∙ ap (λ d. take place new ++ d ∷ []) (sym c.index-new-place.is))
    ∙ map-append (λ (d : DependValue). d.item) (take place new) (there ∷ [])
    ∙ ap (λ item. dependency_items (take place new) ++ item ∷ []) texts ∙ ap (λ items. items ++ here.item ∷ []) c.loop-place.invariant
    ∙ sym (ap dependency_items (take_more old place here in_old ∙ ap (λ d. take place old ++ d ∷ []) (sym c.index-old-place.is))
    ∙ map-append (λ (d : DependValue). d.item) (take place old) (here ∷ []))
