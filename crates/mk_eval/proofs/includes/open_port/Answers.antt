use Rattle.std.proofs.Common.{◌∙◌, codes, None, Ok, ap, sym, if◌then◌else◌}
use Rattle.mk_paths.specs.FileName.{resolved, name_under, directory_of}
use Rattle.mk_files.specs.Questions.{account}
use Rattle.mk_eval.specs.Includes as includes
use Rattle.mk_eval.specs.Views.{place_of_file}
use Rattle.mk_eval.specs.declared.outcome.Kind.TheVariants as roles
use Rattle.mk_eval.proofs.Stepping.{Gives-same}
use Rattle.mk_eval.proofs.includes.open_port.Goals as goal

pub returns-clause-gives : goal.returns-clause-gives
returns-clause-gives g c =
    let view = g.F.Names.view in
    let place = place_of_file c.args.here (view c.args.files.now).files in
    let a = account c.args.budget.now (view c.args.files.now) in
    let name = resolved (name_under (directory_of place.makefile) (codes "../Makefile.inc")) in
    Gives-same _ _ _ _ _
    (ap (λ again. (if again then (λ b. Ok ((includes.with_makefile_kind c.args.state.now roles.Port, None), b)) else includes.open_if_there
    place (includes.first_port c.args.state.now) name) a) c.if-state.false
    ∙ ap (λ state. includes.open_if_there place state name a) (sym c.say_first_port.ensures)
    ∙ ap (λ directory. includes.open_if_there place c.say_first_port.new.state (resolved (name_under directory (codes "../Makefile.inc")))
    a) (sym c.directory-directory.ensures))
    (c.open_if_there.ensures.gives c.say_first_port.new.state)
