-- The parses that are kept stay the same.
use Rattle.std.proofs.Common.{◌∙◌, ap, subst, sym, is_some}
use Rattle.eval_cache.specs.Held.{AreTrees, traces_by_key}
use Rattle.eval_cache.specs.declared.contents.ContentKey.{ContentKey}
use Rattle.eval_cache.specs.declared.counts.Counts.{Counts}
use Rattle.eval_cache.proofs.EntryLemmas.{AreTrees-promoted}
use Rattle.eval_cache.specs.Cache.{holds_parse}
use Rattle.eval_cache.specs.CacheOrder.{HandsOut}
use Rattle.eval_cache.proofs.EntryLemmas.{is_some-parse}
use Rattle.eval_cache.proofs.OrderLemmas.{HandsOut-kept, with_parses}
use Rattle.eval_cache.proofs.cache.EvalCache.kept_or_new.Goals as goal

pub invariant_of-self : goal.invariant_of-self
invariant_of-self c = record {
  trees = subst (λ cache. AreTrees cache.entries) (sym c.promote-there.ensures.entries)
      (AreTrees-promoted c.self.inside.parses.entries _ c.self.invariant.trees);
  evaluations = c.self.invariant.evaluations;
}

pub returns-in-Some-clause-handed : goal.returns-in-Some-clause-handed
returns-in-Some-clause-handed c =
    let key : ContentKey = record { content = c.in_ok-share.field-0 } in
    let counts : Counts = record { parses = c.saturating_add-self-inside.result; evals = c.self.inside.counts.evals } in
    let new = with_parses (traces_by_key c.self.inside.evals.entries) c.self.inside.evals.cap counts c.self.inside.purpose
    c.promote-there.new.self in
    let there = is_some-parse c.self.inside.parses.entries key ∙ ap (λ cache. holds_parse cache key.content) c.self.view_is
    ∙ sym c.in_ok-parse.ensures.held ∙ ap is_some c.in-Some.is in
    subst (λ content. HandsOut content c.args.self.now new) c.in_ok-share.ensures
    (subst (λ cache. HandsOut key.content cache new) c.self.view_is
    (HandsOut-kept (traces_by_key c.self.inside.evals.entries) c.self.inside.evals.cap c.self.inside.counts counts c.self.inside.purpose
    c.self.inside.parses c.promote-there.new.self key there c.promote-there.ensures.entries
    (ap (λ parses. record { parses = parses; evals = c.self.inside.counts.evals }) c.saturating_add-self-inside.ensures)))
