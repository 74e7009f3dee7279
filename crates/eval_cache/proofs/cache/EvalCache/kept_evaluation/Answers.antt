-- What is kept under the key is looked at.
use Rattle.std.proofs.Common.{◌≡◌, ◌∙◌, ap, subst, sym, is_some, IfOk, OnOk, Some, None}
use Rattle.std.proofs.lemmas.Result.{IfOk-weaker}
use Rattle.mk_paths.specs.FilesView.{noted-nothing, noted}
use Rattle.eval_cache.specs.Keys.{key_of}
use Rattle.eval_cache.specs.Look.{agreeing, checked_among, ChecksAmong}
use Rattle.eval_cache.specs.Cache.{traces_at}
use Rattle.eval_cache.specs.Held.{AreShort, AreRight, traces_of}
use Rattle.eval_cache.proofs.EntryLemmas.{kept_at-AreRight, traces-of-kept}
use Rattle.eval_cache.proofs.LookLemmas.{AreRight-found}
use Rattle.eval_cache.proofs.cache.EvalCache.kept_evaluation.Goals as goal

pub first_agreeing-requires : goal.first_agreeing-requires
first_agreeing-requires g c =
    let right = kept_at-AreRight c.self.inside.evals.entries c.args.key.now c.in-Some.kept.now c.self.invariant.evaluations
    (sym c.in-Some.ensures) in
    subst AreShort (sym c.as_slice.ensures.value) right.1

pub returns-in-Some-clause-checked : goal.returns-in-Some-clause-checked
returns-in-Some-clause-checked g c =
    let files = (g.F.Names.view c.args.files.now).files in
    let traces = ap traces_of c.as_slice.ensures.value ∙ traces-of-kept c.self.inside.evals.entries c.args.key.now
    (Some c.in-Some.kept.now) c.in-Some.ensures
    ∙ ap (λ cache. traces_at cache (key_of c.args.key.now)) c.self.view_is in
    subst (λ traces. IfOk c.first_agreeing.result (λ found. (is_some found.0, found.1) ≡ agreeing files traces)) traces
    c.first_agreeing.ensures.checked

pub returns-in-Some-clause-found : goal.returns-in-Some-clause-found
returns-in-Some-clause-found g c =
    let files = (g.F.Names.view c.args.files.now).files in
    let right = kept_at-AreRight c.self.inside.evals.entries c.args.key.now c.in-Some.kept.now c.self.invariant.evaluations
    (sym c.in-Some.ensures) in
    IfOk-weaker c.first_agreeing.result _ _
    (λ found. AreRight-found files (key_of c.args.key.now) found.1 c.as_slice.result.now found.0
    (subst (AreRight (key_of c.args.key.now)) (sym c.as_slice.ensures.value) right.0))
    c.first_agreeing.ensures.found

pub returns-in-Some-clause-asks : goal.returns-in-Some-clause-asks
returns-in-Some-clause-asks g c =
    let view = g.F.Names.view in
    let traces = ap traces_of c.as_slice.ensures.value ∙ traces-of-kept c.self.inside.evals.entries c.args.key.now
    (Some c.in-Some.kept.now) c.in-Some.ensures
    ∙ ap (λ cache. traces_at cache (key_of c.args.key.now)) c.self.view_is in
    subst (λ traces. OnOk c.first_agreeing.result (ChecksAmong (view c.args.files.now) traces (view c.first_agreeing.new.files))) traces
    c.first_agreeing.ensures.asks

pub returns-in-None-clause-checked : goal.returns-in-None-clause-checked
returns-in-None-clause-checked g c =
    let files = (g.F.Names.view c.args.files.now).files in
    ap (agreeing files) (traces-of-kept c.self.inside.evals.entries c.args.key.now None c.in-None.ensures
    ∙ ap (λ cache. traces_at cache (key_of c.args.key.now)) c.self.view_is)

pub returns-in-None-clause-asks : goal.returns-in-None-clause-asks
returns-in-None-clause-asks g c =
    let view = g.F.Names.view c.args.files.now in
    noted-nothing view
    ∙ ap (λ traces. noted view (checked_among view.files traces))
    (traces-of-kept c.self.inside.evals.entries c.args.key.now None c.in-None.ensures
    ∙ ap (λ cache. traces_at cache (key_of c.args.key.now)) c.self.view_is)
