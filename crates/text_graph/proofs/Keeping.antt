-- Texts that were found, put in order.
use Rattle.std.proofs.Common.{◌≡◌, ◌∙◌, sym, ap, ℕ, List, ◌↔◌}
use Rattle.text_parts.specs.Order.{in_order}
use Rattle.text_parts.specs.Ordered.{in_order-sorted, among-in_order}
use Rattle.std.specs.Str.{bytes_eq}
use Rattle.text_graph.specs.Arrows.{ArrowValue}
use Rattle.text_graph.specs.Reach.{ListsJust}
use Rattle.text_graph.specs.TextSearch.{is_among, IsFrom, FindsAll}
use Rattle.text_graph.proofs.Members.{among_from, among_by_equal}

-- all texts that a search found, put in order
pub lists_just : (starts : List (List ℕ)) (arrows : List ArrowValue) (P : List ℕ → Type 0) (found texts : List (List ℕ))
    → ((text : List ℕ) → IsFrom starts arrows text ↔ P text)
    → FindsAll starts arrows found → texts ≡ in_order found → ListsJust P texts
lists_just starts arrows P found texts means finds is = record {
  in_order = rw is (in_order-sorted found);
  just = λ text.
      let same : is_among text texts ≡ is_among text found = ap (is_among text) is ∙ among-in_order (bytes_eq text) found in (
        λ stands. (means text).0 ((finds text).0 (sym same ∙ among_from text texts stands)),
        λ holds. among_by_equal text texts (same ∙ (finds text).1 ((means text).1 holds)),
      );
}
