-- What is found from the ends of the first arrows is reached over these.
use Rattle.std.proofs.Common.{◌∙◌, ap, subst}
use Rattle.text_parts.specs.Cuts.{now_all}
use Rattle.text_graph.specs.Arrows.{arrows_seen}
use Rattle.text_graph.specs.Reach.{IsReached}
use Rattle.text_graph.specs.TextSearch.{FindsAll}
use Rattle.text_graph.proofs.Keeping.{lists_just}
use Rattle.text_graph.proofs.Listed.{told_reached}
use Rattle.text_graph.proofs.Searches.{ends}
use Rattle.text_graph.proofs.Turning.{reached_after}
use Rattle.text_graph.proofs.reach.reached.Goals as goal

pub returns : goal.returns
returns c =
    let first = arrows_seen c.args.first.now in
    let arrows = arrows_seen c.args.arrows.now in
    let found = now_all c.in_ok-texts.texts.items in
    let texts = now_all c.put_in_order.new.texts.items in
    told_reached first arrows texts
    (lists_just (ends first) arrows (IsReached first arrows) found texts (reached_after first arrows)
    (subst (λ starts. FindsAll starts arrows found) (ap now_all c.deref.ensures.value ∙ c.in_ok-starts.ensures) c.in_ok-texts.ensures)
    c.put_in_order.ensures)
