-- What goes last was put first, and then went last.
use Rattle.std.proofs.Common.{◌∙◌, sym, inl}
use Rattle.eval_cache.proofs.PlaceLemmas.{placed-last}
use Rattle.eval_cache.proofs.purpose.put_new.Goals as goal

pub returns : goal.returns
returns g c =
    inl (placed-last g.K.PartialEq.eq c.args.purpose c.args.table.now c.put.new.self c.demote-last.new.self c.args.key
    c.in-Ok.same c.args.value
    c.requires.new (c.requires.clones c.in-Ok.same c.in-Ok.ensures.cases) (sym c.goes_last.ensures ∙ c.if-not-goes_last.false)
    c.in-Ok-put.ensures.entries c.demote-last.ensures.entries)
