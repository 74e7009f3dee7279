-- What is found over the turned arrows reaches the goal.
use Rattle.std.proofs.Common.{◌∙◌, ap, subst, map}
use Rattle.text_parts.specs.Cuts.{now_all}
use Rattle.text_graph.specs.Arrows.{arrows_seen}
use Rattle.text_graph.specs.Reach.{Reaches}
use Rattle.text_graph.specs.TextSearch.{turned, next_texts, FindsAll}
use Rattle.text_graph.proofs.Keeping.{lists_just}
use Rattle.text_graph.proofs.Listed.{told_reaching}
use Rattle.text_graph.proofs.Turning.{reaching_turned}
use Rattle.text_graph.proofs.reach.reaching.Goals as goal

pub returns : goal.returns
returns c =
    let arrows = arrows_seen c.args.arrows.now in
    let back = map turned arrows in
    let goal = c.args.goal.now in
    let found = now_all c.in_ok-texts.texts.items in
    let texts = now_all c.put_in_order.new.texts.items in
    told_reaching arrows goal texts
    (lists_just (next_texts back goal) back (Reaches arrows goal) found texts (reaching_turned arrows goal)
    (subst (λ starts. FindsAll starts back found) (ap now_all c.deref.ensures.value ∙ c.in_ok-starts.ensures)
    (subst (λ turned. FindsAll (now_all c.deref.result.now) turned found) (ap arrows_seen c.deref-2.ensures.value
    ∙ c.in_ok-back.ensures) c.in_ok-texts.ensures))
    c.put_in_order.ensures)
