use Rattle.plain_service.proofs.BodyLemmas.{good_body, bad_body}
use Rattle.plain_service.proofs.path_route.set_path.Goals as goal

pub returns-in-Ok : goal.returns-in-Ok
returns-in-Ok c =
    let h = c.in-Ok.ensures.cases in
    rw (good_body c.args.body.now c.trimmed.result.now c.trimmed.ensures h.1, ← h.0) c.set_trees.ensures

pub returns-in-Err : goal.returns-in-Err
returns-in-Err c =
    rw (bad_body c.args.body.now c.trimmed.result.now c.trimmed.ensures c.in-Err.ensures.cases.0) c.bad_path.ensures
