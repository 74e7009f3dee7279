-- The parse is that of its content.
use Rattle.std.proofs.Common.{◌∙◌, ap, subst}
use Rattle.eval_cache.specs.Cache.{holds_parse}
use Rattle.eval_cache.specs.Held.{traces_by_key}
use Rattle.eval_cache.specs.CacheOrder.{PutsParse}
use Rattle.eval_cache.proofs.EntryLemmas.{AreTrees-put, is_some-parse}
use Rattle.eval_cache.proofs.OrderLemmas.{contents-put, no-parse, with_parses}
use Rattle.eval_cache.proofs.cache.EvalCache.keep_parse.Goals as goal

pub put_new-requires-clause-new : goal.put_new-requires-clause-new
put_new-requires-clause-new c =
    no-parse c.self.inside.parses.entries c.args.key
    (is_some-parse c.self.inside.parses.entries c.args.key ∙ ap (λ cache. holds_parse cache c.args.key.content)
    c.self.view_is ∙ c.requires.anew)

pub invariant_of-self : goal.invariant_of-self
invariant_of-self c = record {
  trees = AreTrees-put c.self.inside.purpose c.self.inside.parses c.put_new.new.table c.args.key c.in-Ok.parse c.self.invariant.trees
      (c.in-Ok.ensures ∙ c.requires.tree) c.put_new.ensures;
  evaluations = c.self.invariant.evaluations;
}

pub returns-clause-contents : goal.returns-clause-contents
returns-clause-contents c =
    subst (λ cache. PutsParse c.args.key.content cache (with_parses (traces_by_key c.self.inside.evals.entries) c.self.inside.evals.cap
    c.self.inside.counts c.self.inside.purpose c.put_new.new.table)) c.self.view_is
    (contents-put c.self.inside.purpose c.self.inside.parses c.put_new.new.table c.args.key c.in-Ok.parse c.put_new.ensures)
