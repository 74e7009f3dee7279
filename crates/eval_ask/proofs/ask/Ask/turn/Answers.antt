-- The machine goes on from what was asked before, and what it asks comes after that.
use Rattle.std.proofs.Common.{◌∙◌, ap, subst}
use Rattle.std.proofs.lemmas.Result.{err_from_is_err_and}
use Rattle.std.specs.Result.{result_err}
use Rattle.mk_paths.specs.FilesView.{FilesView}
use Rattle.mk_paths.specs.World.{FileMap}
use Rattle.mk_eval.specs.Agreement.{Agrees}
use Rattle.eval_cache.proofs.UseLemmas.{UsesCache-on, UsesCache-parses}
use Rattle.eval_cache.specs.declared.counts.Counts.{Counts}
use Rattle.read_trace.specs.Recorder.{view_of, MayFail}
use Rattle.eval_ask.specs.Ask.{key_in}
use Rattle.eval_ask.proofs.AskLemmas.{evals-after, failure-leaves, failed_as, turned-leaves, LeavesMap-any, under-way, ends-right}
use Rattle.eval_ask.proofs.AskLemmas.{turns-ask}
use Rattle.eval_ask.proofs.ask.Ask.turn.Goals as goal

pub returns-in_err-turned-clause-counted : goal.returns-in_err-turned-clause-counted
returns-in_err-turned-clause-counted g c = evals-after c.args.cache.now c.turn.new.parses c.turn.ensures.parses

pub returns-in_err-turned-clause-kind : goal.returns-in_err-turned-clause-kind
returns-in_err-turned-clause-kind g c =
    let seen = view_of g.F.Names.view in
    let key = key_in c.args.self in
    let under = under-way (seen c.args.files.now) (seen c.go_on.new.self) (seen c.turn.new.files) c.args.self.trace c.go_on.ensures key
    c.args.self.machine c.requires.under in
    let p = err_from_is_err_and c.from_residual.result c.from_residual.ensures.1 in
    rw (p.1, p.2) (failed_as c.in_err-turned.field-0.0 g.F.Names.fails_with (seen c.go_on.new.self) (seen c.turn.new.files)
    (c.in_err-turned.ensures.leaves key.settings key.name key.flavors c.args.self.trace under))

pub returns-in_err-turned-clause-leaves : goal.returns-in_err-turned-clause-leaves
returns-in_err-turned-clause-leaves g c =
    let seen = view_of g.F.Names.view in
    let key = key_in c.args.self in
    let under = under-way (seen c.args.files.now) (seen c.go_on.new.self) (seen c.turn.new.files) c.args.self.trace c.go_on.ensures key
    c.args.self.machine c.requires.under in
    let p = err_from_is_err_and c.from_residual.result c.from_residual.ensures.1 in
    rw p.1 (failure-leaves (seen c.args.files.now) (seen c.go_on.new.self) (seen c.turn.new.files) c.args.self.trace c.go_on.ensures
    c.in_err-turned.field-0.0 (MayFail g.F.Names.fails_with)
    (c.in_err-turned.ensures.leaves key.settings key.name key.flavors c.args.self.trace under))

pub come_to-requires : goal.come_to-requires
come_to-requires g c =
    let seen = view_of g.F.Names.view in
    let key = key_in c.args.self in
    let under = under-way (seen c.args.files.now) (seen c.go_on.new.self) (seen c.turn.new.files) c.args.self.trace c.go_on.ensures key
    c.args.self.machine c.requires.under in
    ends-right (seen c.args.files.now) (seen c.go_on.new.self) (seen c.turn.new.files) c.args.self.trace c.go_on.ensures c.take_trace.result
    c.take_trace.ensures.trace key c.same_where_agreed.ensures (MayFail g.F.Names.fails_with) c.in_ok-turned.turned
    (c.in_ok-turned.ensures.means key.settings key.name key.flavors c.args.self.trace under)
    (c.in_ok-turned.ensures.leaves key.settings key.name key.flavors c.args.self.trace under)

pub returns-in_err-come_to-clause-counted : goal.returns-in_err-come_to-clause-counted
returns-in_err-come_to-clause-counted g c =
    ap (λ (counts : Counts). counts.evals) c.come_to.ensures.counts ∙ evals-after c.args.cache.now c.turn.new.parses c.turn.ensures.parses

pub returns-in_err-come_to-clause-leaves : goal.returns-in_err-come_to-clause-leaves
returns-in_err-come_to-clause-leaves g c =
    let seen = view_of g.F.Names.view in
    let key = key_in c.args.self in
    let under = under-way (seen c.args.files.now) (seen c.go_on.new.self) (seen c.turn.new.files) c.args.self.trace c.go_on.ensures key
    c.args.self.machine c.requires.under in
    let leaves = turned-leaves (seen c.args.files.now) (seen c.go_on.new.self) (seen c.turn.new.files) c.args.self.trace c.go_on.ensures
    (MayFail g.F.Names.fails_with) key c.in_ok-turned.turned (c.in_ok-turned.ensures.leaves key.settings key.name key.flavors
    c.args.self.trace under) in
    LeavesMap-any (result_err c.from_residual-in_err-come_to.result) (seen c.args.files.now) (seen c.take_trace.new.self)
    (ap (λ (view : FilesView). view.files) c.take_trace.ensures.rest ∙ leaves.0)
    (ap (λ (view : FilesView). view.failures) c.take_trace.ensures.rest ∙ leaves.1)

pub returns-clause-turns : goal.returns-clause-turns
returns-clause-turns g c =
    let seen = view_of g.F.Names.view in
    let first : FilesView = seen c.args.files.now in
    let key = key_in c.args.self in
    let under = under-way first (seen c.go_on.new.self) (seen c.turn.new.files) c.args.self.trace c.go_on.ensures key
    c.args.self.machine c.requires.under in
    let leaves = c.in_ok-turned.ensures.leaves key.settings key.name key.flavors c.args.self.trace under in
    let left = turned-leaves first (seen c.go_on.new.self) (seen c.turn.new.files) c.args.self.trace c.go_on.ensures
    (MayFail g.F.Names.fails_with) key c.in_ok-turned.turned leaves in
    turns-ask first (seen c.go_on.new.self) (seen c.turn.new.files) c.args.self.trace c.go_on.ensures c.take_trace.result
    c.take_trace.ensures.trace (MayFail g.F.Names.fails_with) c.args.units c.args.self c.in_ok-turned.turned c.in_ok-come_to.field-0
    (c.in_ok-turned.ensures.means key.settings key.name key.flavors c.args.self.trace under) leaves c.in_ok-turned.ensures.spends
    c.in_ok-come_to.ensures.comes c.requires.few
    (subst (λ (files : FileMap). Agrees files c.take_trace.result) left.0 c.take_trace.ensures.answered)

pub returns-clause-counted : goal.returns-clause-counted
returns-clause-counted g c =
    ap (λ (counts : Counts). counts.evals) c.come_to.ensures.counts ∙ evals-after c.args.cache.now c.turn.new.parses c.turn.ensures.parses

pub returns-clause-leaves : goal.returns-clause-leaves
returns-clause-leaves g c =
    let seen = view_of g.F.Names.view in
    let key = key_in c.args.self in
    let under = under-way (seen c.args.files.now) (seen c.go_on.new.self) (seen c.turn.new.files) c.args.self.trace c.go_on.ensures key
    c.args.self.machine c.requires.under in
    let leaves = turned-leaves (seen c.args.files.now) (seen c.go_on.new.self) (seen c.turn.new.files) c.args.self.trace c.go_on.ensures
    (MayFail g.F.Names.fails_with) key c.in_ok-turned.turned (c.in_ok-turned.ensures.leaves key.settings key.name key.flavors
    c.args.self.trace under) in (
      ap (λ (view : FilesView). view.files) c.take_trace.ensures.rest ∙ leaves.0,
      ap (λ (view : FilesView). view.failures)
          c.take_trace.ensures.rest ∙ leaves.1,
    )

pub returns-in_err-turned-clause-uses : goal.returns-in_err-turned-clause-uses
returns-in_err-turned-clause-uses g c = UsesCache-parses c.args.cache.now c.turn.new.parses c.turn.ensures.parses

pub returns-in_err-come_to-clause-uses : goal.returns-in_err-come_to-clause-uses
returns-in_err-come_to-clause-uses g c =
    UsesCache-on c.args.cache.now c.turn.new.parses c.come_to.new.cache
    (UsesCache-parses c.args.cache.now c.turn.new.parses c.turn.ensures.parses) c.come_to.ensures.uses

pub returns-clause-uses : goal.returns-clause-uses
returns-clause-uses g c =
    UsesCache-on c.args.cache.now c.turn.new.parses c.come_to.new.cache
    (UsesCache-parses c.args.cache.now c.turn.new.parses c.turn.ensures.parses) c.come_to.ensures.uses
