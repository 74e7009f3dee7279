-- A parse is kept exactly where the look-up finds one.
use Rattle.std.proofs.Common.{◌∙◌, ap, sym, is_some}
use Rattle.eval_cache.specs.Cache.{holds_parse}
use Rattle.eval_cache.proofs.EntryLemmas.{is_some-parse, lookup-AreTrees}
use Rattle.eval_cache.proofs.cache.EvalCache.kept_parse.Goals as goal

pub returns-in_ok-share-in-Some-clause-held : goal.returns-in_ok-share-in-Some-clause-held
returns-in_ok-share-in-Some-clause-held c =
    ap is_some c.in-Some.ensures ∙ is_some-parse c.self.inside.parses.entries c.args.key.now
    ∙ ap (λ cache. holds_parse cache c.args.key.now.content) c.self.view_is

pub returns-in_ok-share-in-Some-clause-tree : goal.returns-in_ok-share-in-Some-clause-tree
returns-in_ok-share-in-Some-clause-tree c =
    c.in_ok-share-in-Some.ensures ∙ lookup-AreTrees c.self.inside.parses.entries c.args.key.now c.in-Some.parse.now
    c.self.invariant.trees (sym c.in-Some.ensures)

pub returns-in-None-clause-held : goal.returns-in-None-clause-held
returns-in-None-clause-held c =
    ap is_some c.in-None.ensures ∙ is_some-parse c.self.inside.parses.entries c.args.key.now
    ∙ ap (λ cache. holds_parse cache c.args.key.now.content) c.self.view_is
