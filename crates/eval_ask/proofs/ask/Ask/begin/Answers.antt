-- A look that finds nothing counts nothing, and neither does what comes after it.
use Rattle.std.proofs.Common.{◌∙◌, ap, rules, subst}
use Rattle.eval_cache.specs.Cache.{CacheValue, traces_at}
use Rattle.eval_cache.specs.Keys.{key_of}
use Rattle.eval_cache.specs.Look.{IsFound}
use Rattle.eval_cache.specs.declared.counts.Counts.{Counts}
use Rattle.eval_cache.specs.declared.look.Look.{Look}
use Rattle.eval_cache.specs.declared.look.Look.TheVariants.{Miss}
use Rattle.read_trace.specs.Recorder.{view_of}
use Rattle.eval_cache.proofs.UseLemmas.{UsesCache-on, UsesCache-parses}
use Rattle.eval_ask.proofs.AskLemmas.{evals-missed, evals-new, OnErr-always}
use Rattle.eval_ask.proofs.ask.Ask.begin.Goals as goal

pub returns-in_err-turned-in-Miss-clause-err : goal.returns-in_err-turned-in-Miss-clause-err
returns-in_err-turned-in-Miss-clause-err g c =
    OnErr-always c.from_residual-in_err-turned-in-Miss.result
    (evals-new c.in_ok-found.found c.args.cache.now c.look.new.self c.start.new.parses c.in-Miss.is
    c.in_ok-found.ensures.looks.counted c.start.ensures.parses)

pub returns-in_err-come_to-in-Miss-clause-err : goal.returns-in_err-come_to-in-Miss-clause-err
returns-in_err-come_to-in-Miss-clause-err g c =
    OnErr-always c.from_residual-in_err-come_to-in-Miss.result
    (ap (λ (counts : Counts). counts.evals) c.come_to.ensures.counts
    ∙ evals-new c.in_ok-found.found c.args.cache.now c.look.new.self c.start.new.parses c.in-Miss.is
    c.in_ok-found.ensures.looks.counted c.start.ensures.parses)

pub returns-in_ok-come_to-in-Miss-clause-asks : goal.returns-in_ok-come_to-in-Miss-clause-asks
returns-in_ok-come_to-in-Miss-clause-asks g c = record {
  begins = search rules;
  comes = search rules;
  looked = search rules;
  counted =
      let files = (view_of g.F.Names.view c.args.files.now).files in
      let cache : CacheValue = c.args.cache.now in
      let key = key_of c.in_ok-key.key in
      let missed : IsFound files key (traces_at cache key) c.in_ok-found.checks Miss =
      subst (λ (found : Look). IsFound files key (traces_at cache key) c.in_ok-found.checks found) c.in-Miss.is
      c.in_ok-found.ensures.looks.found in
      ap (λ (counts : Counts). counts.evals) c.come_to.ensures.counts
      ∙ evals-new c.in_ok-found.found cache c.look.new.self c.start.new.parses c.in-Miss.is
      c.in_ok-found.ensures.looks.counted c.start.ensures.parses
      ∙ evals-missed files cache key _ c.in_ok-key.ensures missed;
}

pub returns-in_err-turned-in-Miss-clause-uses : goal.returns-in_err-turned-in-Miss-clause-uses
returns-in_err-turned-in-Miss-clause-uses g c =
    UsesCache-on c.args.cache.now c.look.new.self c.start.new.parses c.look.ensures.uses
    (UsesCache-parses c.look.new.self c.start.new.parses c.start.ensures.parses)

pub returns-in_err-come_to-in-Miss-clause-uses : goal.returns-in_err-come_to-in-Miss-clause-uses
returns-in_err-come_to-in-Miss-clause-uses g c =
    UsesCache-on c.args.cache.now c.start.new.parses c.come_to.new.cache
    (UsesCache-on c.args.cache.now c.look.new.self c.start.new.parses c.look.ensures.uses
    (UsesCache-parses c.look.new.self c.start.new.parses c.start.ensures.parses))
    c.come_to.ensures.uses

pub returns-in_ok-come_to-in-Miss-clause-uses : goal.returns-in_ok-come_to-in-Miss-clause-uses
returns-in_ok-come_to-in-Miss-clause-uses g c =
    UsesCache-on c.args.cache.now c.start.new.parses c.come_to.new.cache
    (UsesCache-on c.args.cache.now c.look.new.self c.start.new.parses c.look.ensures.uses
    (UsesCache-parses c.look.new.self c.start.new.parses c.start.ensures.parses))
    c.come_to.ensures.uses
