-- The evaluations that are kept stay the same.
use Rattle.std.proofs.Common.{◌∙◌, ap, subst, sym, rules, unwrap_or, []}
use Rattle.std.specs.Map.{lookup}
use Rattle.eval_cache.specs.Keys.{same_key}
use Rattle.eval_cache.specs.Cache.{traces_at}
use Rattle.eval_cache.specs.Held.{AreRightForKeys, traces_by_key}
use Rattle.eval_cache.proofs.EntryLemmas.{AreRightForKeys-promoted, traces-promoted}
use Rattle.lru.specs.LruCache.{promoted}
use Rattle.eval_cache.specs.Keys.{key_of}
use Rattle.eval_cache.proofs.OrderLemmas.{traces-first}
use Rattle.eval_cache.proofs.cache.EvalCache.look.Goals as goal

pub invariant_of-self : goal.invariant_of-self
invariant_of-self g c = record {
  trees = c.self.invariant.trees;
  evaluations = subst (λ cache. AreRightForKeys cache.entries) (sym c.promote-there.ensures.entries)
      (AreRightForKeys-promoted c.self.inside.evals.entries c.args.key.now c.self.invariant.evaluations);
}

pub returns-in-Some-clause-looks : goal.returns-in-Some-clause-looks
returns-in-Some-clause-looks g c = record {
  found = search rules;
  checks = search rules;
  few = search rules;
  asked = search rules;
  counted = search rules;
  order =
      ap (λ cache. traces_by_key cache.entries) c.promote-there.ensures.entries
      ∙ traces-first c.self.inside.evals.entries c.args.key.now
      ∙ ap (λ cache. promoted (same_key (key_of c.args.key.now)) cache.traces) c.self.view_is;
}

pub returns-in-Some-clause-kept : goal.returns-in-Some-clause-kept
returns-in-Some-clause-kept g c = record {
  traces = λ other.
      ap (λ cache. unwrap_or (lookup (same_key other) (traces_by_key cache.entries)) []) c.promote-there.ensures.entries
      ∙ ap (λ found. unwrap_or found []) (traces-promoted c.self.inside.evals.entries c.args.key.now other)
      ∙ ap (λ cache. traces_at cache other) c.self.view_is;
  parses = search rules;
  purpose = search rules;
}

pub returns-in-None-clause-looks : goal.returns-in-None-clause-looks
returns-in-None-clause-looks g c = record {
  found = search rules;
  checks = search rules;
  few = search rules;
  asked = search rules;
  counted = search rules;
  order = search rules;
}
