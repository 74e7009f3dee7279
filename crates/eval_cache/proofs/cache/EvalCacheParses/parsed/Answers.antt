-- One parse is asked for.
use Rattle.eval_cache.specs.Parses.{AsksParses-one}
use Rattle.eval_cache.proofs.cache.EvalCacheParses.parsed.Goals as goal

pub returns-clause-left : goal.returns-clause-left
returns-clause-left c =
    AsksParses-one c.kept_or_new.result c.args.content.now c.args.self.now c.kept_or_new.new.self c.kept_or_new.ensures.handed
    c.kept_or_new.ensures.err
