-- The new evaluation is right, and so are the older ones of its key.
use Rattle.std.proofs.Common.{◌∙◌, ap, subst, sym, arith}
use Rattle.read_trace.specs.declared.evaluation.Evaluation.{Evaluation}
use Rattle.eval_cache.specs.Keys.{key_of}
use Rattle.eval_cache.specs.Held.{AreRightForKeys, HasFewAnswers, contents_of}
use Rattle.eval_cache.specs.CacheOrder.{Keeps}
use Rattle.eval_cache.proofs.KeyLemmas.{≡-key_eq}
use Rattle.eval_cache.proofs.EntryLemmas.{AreRightForKeys-put, AreRightForKeys-removed, items-AreRight}
use Rattle.eval_cache.proofs.OrderLemmas.{Keeps-put, none-left, with_evals}
use Rattle.eval_cache.proofs.cache.EvalCache.keep.Goals as goal

pub put_new-requires-clause-new : goal.put_new-requires-clause-new
put_new-requires-clause-new c = none-left c.self.inside.evals c.pop-older.new.self c.args.key c.len-all.ensures.valid.0
    c.pop-older.ensures.entries

pub put_new-requires-clause-clones : goal.put_new-requires-clause-clones
put_new-requires-clause-clones c = λ same is. ≡-key_eq same c.args.key is

pub returns-clause-keeps : goal.returns-clause-keeps
returns-clause-keeps c =
    let is = c.questions-answers.ensures ∙ ap (λ (evaluation : Evaluation). evaluation.trace) c.deref.ensures in
    let few : HasFewAnswers c.args.evaluation.value.trace = subst HasFewAnswers is
    (omega (arith, c.if-answers-eq0.false), omega (arith, c.if-answers-gt-MOST_ANSWERS.false)) in
    subst (λ cache. Keeps (key_of c.args.key) c.args.evaluation.value.trace cache (with_evals (contents_of c.self.inside.parses.entries)
    c.self.inside.parses.cap c.self.inside.counts c.self.inside.purpose c.put_new.new.table)) c.self.view_is
    (Keeps-put (contents_of c.self.inside.parses.entries) c.self.inside.parses.cap c.self.inside.counts c.self.inside.purpose
    c.self.inside.evals c.pop-older.new.self c.put_new.new.table c.args.key c.args.evaluation.value
    c.pop-older.result c.with_newest-kept.result few c.pop-older.ensures.value c.with_newest-kept.ensures
    c.pop-older.ensures.entries c.put_new.ensures)

pub invariant_of-self : goal.invariant_of-self
invariant_of-self c =
    let older = items-AreRight c.self.inside.evals.entries c.args.key c.pop-older.result c.self.invariant.evaluations
    c.pop-older.ensures.value in
    let is = c.questions-answers.ensures ∙ ap (λ (evaluation : Evaluation). evaluation.trace) c.deref.ensures in
    let short : HasFewAnswers c.args.evaluation.value.trace = subst HasFewAnswers is
    (omega (arith, c.if-answers-eq0.false), omega (arith, c.if-answers-gt-MOST_ANSWERS.false)) in
    let removed = subst (λ cache. AreRightForKeys cache.entries) (sym c.pop-older.ensures.entries)
    (AreRightForKeys-removed c.self.inside.evals.entries c.args.key c.self.invariant.evaluations) in
    record {
      trees = c.self.invariant.trees;
      evaluations = AreRightForKeys-put c.self.inside.purpose c.pop-older.new.self c.put_new.new.table c.args.key
          c.with_newest-kept.result removed
          (c.with_newest-kept.ensures.right (key_of c.args.key) c.requires older.0)
          (c.with_newest-kept.ensures.short short older.1) c.put_new.ensures;
    }
