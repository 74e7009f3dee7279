-- What is admitted of the ports that the spec admits is what is admitted of all.
use Rattle.std.proofs.Common.{◌≡◌, ◌∙◌, ap}
use Rattle.std.proofs.lemmas.Result.{IfOk-weaker}
use Rattle.port_index.specs.Index.{roots}
use Rattle.ports_query.specs.ListedPackages.{admits_one, admitted_of}
use Rattle.plain_service.specs.IndexRoutes.{packages_reply}
use Rattle.plain_service.proofs.MatchLemmas.{admitted-ports}
use Rattle.plain_service.proofs.list_routes.match_reply.Goals as goal

pub returns : goal.returns
returns c = λ world is.
    let spec = c.args.spec.now in
    let ports = c.in_ok-ports.ensures world (admits_one spec) (λ port answer returned. returned.says.met
    ∙ ap (admits_one spec) returned.shows) is in
    let packages : c.deref-2.result.now ≡ admitted_of spec (roots world) =
    c.deref-2.ensures.value ∙ c.in_ok-packages.ensures ∙ ap (admitted_of spec) (c.deref.ensures.value ∙ ports)
    ∙ admitted-ports spec (roots world) in
    IfOk-weaker c.packages_reply.result _ _ (λ reply made. made ∙ ap packages_reply packages) c.packages_reply.ensures
