-- The directory and the flavors of a package path.
use Rattle.std.proofs.Common.{◌≡◌, ◌∙◌, sym, ap, subst}
use Rattle.std.specs.Prelude.{IfOk, OnOk}
use Rattle.mk_paths.specs.World.{World}
use Rattle.mk_paths.specs.FilesView.{noted}
use Rattle.mk_eval.specs.Views.{flavors_in}
use Rattle.port_index.specs.PathOutcomes.{finding_in, finding_at}
use Rattle.port_index.specs.PathQuestions.{questions_in, questions_at}
use Rattle.port_index.specs.Seen.{finding_seen}
use Rattle.port_index.specs.NamedPaths.{finding-named, questions-named}
use Rattle.plain_reference.proofs.path_outcomes.evaluate_path.Goals as goal

pub returns-in-Some-clause-finding : goal.returns-in-Some-clause-finding
returns-in-Some-clause-finding g c =
    let world : World = ((g.F.Names.view c.args.files.now).files, c.args.settings.now) in
    let path = c.in-Some.path in
    let is : finding_in world c.directory.result.now (flavors_in c.flavors.result) ≡ finding_at world c.args.path.now =
    ap (λ directory. finding_in world directory (flavors_in c.flavors.result)) c.directory.ensures.directory
    ∙ ap (finding_in world path.directory) c.flavors.ensures
    ∙ sym (finding-named world c.args.path.now path (sym c.eq.ensures ∙ c.if-eq.false) (sym c.in_ok-path.ensures ∙ c.in-Some.is)) in
    subst (λ finding. IfOk c.finding_in-in-Some.result (λ found. finding_seen found ≡ finding)) is c.finding_in-in-Some.ensures.finding

pub returns-in-Some-clause-asks : goal.returns-in-Some-clause-asks
returns-in-Some-clause-asks g c =
    let view = g.F.Names.view in
    let world : World = ((view c.args.files.now).files, c.args.settings.now) in
    let path = c.in-Some.path in
    let is : questions_in world c.directory.result.now (flavors_in c.flavors.result) ≡ questions_at world c.args.path.now =
    ap (λ directory. questions_in world directory (flavors_in c.flavors.result)) c.directory.ensures.directory
    ∙ ap (questions_in world path.directory) c.flavors.ensures
    ∙ sym (questions-named world c.args.path.now path (sym c.eq.ensures ∙ c.if-eq.false) (sym c.in_ok-path.ensures ∙ c.in-Some.is)) in
    subst (λ questions. OnOk c.finding_in-in-Some.result (view c.finding_in-in-Some.new.files ≡ noted (view c.args.files.now) questions)) is
    c.finding_in-in-Some.ensures.asks
