-- What is found over the arrows after first ones is reached over these; what is found over turned arrows reaches a text.
use Rattle.std.proofs.Common.{◌∙◌, sym, ap, subst, ℕ, List, map, ◌↔◌}
use Rattle.std.specs.List.{Contains}
use Rattle.std.specs.Str.{bytes_eq}
use Rattle.text_graph.specs.Arrows.{ArrowValue, Way}
use Rattle.text_graph.specs.Reach.{IsReached, Reaches}
use Rattle.text_graph.specs.TextSearch.{turned, next_texts, IsFrom}
use Rattle.text_graph.proofs.Members.{in_map, from_map, in_filter, from_filter, equal_texts, equal_itself}
use Rattle.text_graph.proofs.Searches.{ends}
use Rattle.text_graph.proofs.Ways.{begun, ended, turned_back}

-- where the first arrows end the search starts
pub reached_after : (first arrows : List ArrowValue) (text : List ℕ) → IsFrom (ends first) arrows text ↔ IsReached first arrows text
reached_after first arrows text = (
  λ from.
      let origin = from_map (λ (arrow : ArrowValue). arrow.to) first from.start from.is_start in
      record { start = origin.element; is_first = origin.stands; further = subst (λ t. Way arrows t text) (sym origin.gives) from.way },
  λ reached. record {
    start = reached.start.to;
    is_start = in_map (λ (arrow : ArrowValue). arrow.to) first reached.start reached.is_first;
    way = reached.further;
  },
)

turned_stands : (arrows : List ArrowValue) (arrow : ArrowValue) → Contains arrows arrow → Contains (map turned arrows) (turned arrow)
turned_stands arrows arrow stands = in_map turned arrows arrow stands

stands_turned : (arrows : List ArrowValue) (arrow : ArrowValue) → Contains (map turned arrows) arrow → Contains arrows (turned arrow)
stands_turned arrows arrow stands =
    let origin = from_map turned arrows arrow stands in
    subst (Contains arrows) (ap turned origin.gives) origin.stands

-- an arrow that ends at the goal begins where the search over turned arrows starts
pub reaching_turned : (arrows : List ArrowValue) (goal text : List ℕ) → IsFrom (next_texts (map turned arrows) goal) (map turned arrows)
    text ↔ Reaches arrows goal text
reaching_turned arrows goal text = (
  λ from.
      let origin = from_map (λ (arrow : ArrowValue). arrow.to) _ from.start from.is_start in
      let kept = from_filter (λ (arrow : ArrowValue). bytes_eq goal arrow.from) (map turned arrows) origin.element origin.stands in
      let whole = begun arrows text goal (record {
        last = turned origin.element;
        is_arrow = stands_turned arrows origin.element kept.0;
        ends = sym (equal_texts goal origin.element.from kept.1);
        before = subst (Way arrows text) (sym origin.gives) (turned_back (map turned arrows) arrows (stands_turned arrows)
            from.start text from.way);
      }) in
      record { start = whole.first; is_arrow = whole.is_arrow; begins = whole.begins; further = whole.further },
  λ reaches.
      let whole = ended arrows text goal
      (record { first = reaches.start; is_arrow = reaches.is_arrow; begins = reaches.begins; further = reaches.further }) in
      let back = turned whole.last in
      record {
        start = whole.last.from;
        is_start = in_map (λ (arrow : ArrowValue). arrow.to) _ back
            (in_filter (λ (arrow : ArrowValue). bytes_eq goal arrow.from) (map turned arrows) back
            (turned_stands arrows whole.last whole.is_arrow)
            (ap (bytes_eq goal) whole.ends ∙ equal_itself goal));
        way = turned_back arrows (map turned arrows) (turned_stands arrows) text whole.last.from whole.before;
      },
)
