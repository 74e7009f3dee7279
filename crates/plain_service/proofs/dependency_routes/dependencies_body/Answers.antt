-- The first dependencies are chosen among those of the port.
use Rattle.std.proofs.Common.{◌∙◌, ap, sym}
use Rattle.std.proofs.lemmas.Result.{IfOk-weaker}
use Rattle.serde_json.specs.Written.{compact_text}
use Rattle.port_index.specs.Index.{edges}
use Rattle.plain_service.specs.IndexRoutes.{dependencies_at}
use Rattle.plain_service.specs.ListBodies.{dependencies_body}
use Rattle.plain_service.specs.declared.depth.Depth.TheVariants.{Direct}
use Rattle.plain_service.proofs.FirstEdges.{first-own}
use Rattle.plain_service.proofs.dependency_routes.dependencies_body.Goals as goal

pub returns-in_ok-edges-in-Direct : goal.returns-in_ok-edges-in-Direct
returns-in_ok-edges-in-Direct c = λ world is at.
    let asked = c.args.question.now in
    IfOk-weaker c.first_body.result _ _ (λ text are. are
    ∙ ap (λ own. compact_text (dependencies_at own asked.path asked.kinds Direct)) (c.deref.ensures.value
    ∙ c.in_ok-edges-in-Direct.ensures world is)
    ∙ ap (λ first. compact_text (dependencies_body first)) (first-own asked.kinds asked.path c.args.path.now (edges world) at)
    ∙ ap (λ depth. compact_text (dependencies_at (edges world) asked.path asked.kinds depth)) (sym c.in-Direct.is))
    c.first_body.ensures
